use Rattle.std.proofs.Common.{length}
use Rattle.bmp_specs.specs.BgpMessage.{update_type}
use Rattle.bmp_specs.proofs.BgpMessageCode.{whole-BeginsWithMessage}
use Rattle.bmp_message.proofs.UpdateOf.{update_with}
use Rattle.bmp_message.proofs.routes.update_body.Goals as goal

pub returns-in_err-frame-clause-none : goal.returns-in_err-frame-clause-none
returns-in_err-frame-clause-none c =
    rw c.from_residual.ensures (λ body is. c.in_err-frame.ensures.none update_type (length c.args.bytes.now) (whole-BeginsWithMessage c.args.bytes.now (update_with body) is))
