use Rattle.std.proofs.Common.{◌<◌, sym, arith}
use Rattle.bmp_message.proofs.Meanings.{unassigned_above}
use Rattle.bmp_message.proofs.types.MessageType.of.Goals as goal

pub returns-in_default : goal.returns-in_default
returns-in_default c = let above : 6 < c.args.kind = omega arith in sym (unassigned_above c.args.kind above)
