use Rattle.std.proofs.Common.{refl}
use Rattle.bmp_message.proofs.in_forms.withdraw_taken.Goals as goal

pub returns-clause-ok : goal.returns-clause-ok
returns-clause-ok c = (refl, c.in_ok-update.ensures)
