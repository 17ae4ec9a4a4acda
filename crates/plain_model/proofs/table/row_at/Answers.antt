use Rattle.std.proofs.Common.{refl}
use Rattle.plain_model.proofs.Scans.{row_there, no_announcement, not_up, replaced}
use Rattle.plain_model.proofs.table.row_at.Goals as goal

pub returns-in_default : goal.returns-in_default
returns-in_default c = record { row = tt; none = no_announcement _ _ _ c.requires c.in_default.not-Announce }

pub returns-then-not-is_up-clause-none : goal.returns-then-not-is_up-clause-none
returns-then-not-is_up-clause-none c = not_up _ _ _ _ c.requires c.in-Announce.is (λ u. let t = c.if-not-is_up.ensures.1 u in cc)

pub returns-then-not-leave-clause-none : goal.returns-then-not-leave-clause-none
returns-then-not-leave-clause-none c = replaced _ _ _ _ c.requires c.in-Announce.is (λ u. let t = c.if-not-leave.ensures.1 u in cc)

pub returns-clause-row : goal.returns-clause-row
returns-clause-row c = row_there _ _ _ _ c.requires c.in-Announce.is (c.if-not-is_up.ensures.0 refl) (c.if-not-leave.ensures.0 refl)
