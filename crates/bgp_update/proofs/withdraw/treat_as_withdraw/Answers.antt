use Rattle.std.proofs.Common.{◌∙◌}
use Rattle.bgp_update.specs.Framed.{framed_value}
use Rattle.bgp_update.proofs.Withdrawing.{withdraws}
use Rattle.bgp_update.proofs.withdraw.treat_as_withdraw.Goals as goal

pub returns : goal.returns
returns c =
    withdraws c.args.ids (framed_value c.args.framed.now) c.requires.v4 c.requires.v6 _ _ _ _ _ _ _ c.in_ok-withdrawn.ensures c.new.ensures (c.in_ok-plain_attrs.ensures ∙ c.none.ensures) c.new-2.ensures
    (c.in_ok-multi_attrs.ensures ∙ (c.in_ok-plain_attrs.ensures ∙ c.none.ensures)) c.passed_over.ensures.is c.passed_over-2.ensures.is
