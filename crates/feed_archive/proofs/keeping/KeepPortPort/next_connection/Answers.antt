use Rattle.std.proofs.Common.{refl, subst, Ok}
use mathlib.Core.Bool.{Bool, false}
use Rattle.station_doors.specs.Doors.{Opens}
use Rattle.feed_archive.proofs.Kept.{kept_on, exact_on, disk_on}
use Rattle.feed_archive.proofs.Telling.{tells_opens, tells_stays, inner_opens, place_on, not_false, not_failed}
use Rattle.feed_archive.proofs.Asked.{plan_opened, plan_unopened}
use Rattle.feed_archive.proofs.keeping.KeepPortPort.next_connection.Goals as goal

pub invariant_of-self : goal.invariant_of-self
invariant_of-self g c = rw c.note.ensures (c.self.invariant.0, kept_on 1 _ _ _ _ c.self.invariant.1, tells_opens _ (g.P.Port.aside c.self.inside.inner) (g.P.Port.aside c.next_connection.new.self) (g.P.Port.aside c.self.inside.before.value) c.self.inside.notes.events c.self.invariant.2 (subst (λ (b : Bool). Opens (g.P.Port.aside c.self.inside.inner) (g.P.Port.aside c.next_connection.new.self) (Ok b)) c.in-Ok-true.field-0-test c.in-Ok-true.ensures.opens), c.self.invariant.3, exact_on 1 _ _ _ _ _ c.self.invariant.4, inner_opens _ (g.P.Port.aside c.self.inside.inner) (g.P.Port.aside c.next_connection.new.self) c.self.inside.notes.events _ c.self.invariant.5 _ c.in-Ok-true.ensures.opens c.in-Ok-true.ensures.planned refl, place_on 1 _ _ c.self.inside.notes.events _ c.self.invariant.6, c.self.invariant.7, disk_on 1 _ _ _ _ c.self.inside.notes.events _ c.self.invariant.8, c.self.invariant.9, plan_opened _ (g.P.Port.aside c.self.inside.inner) (g.P.Port.aside c.next_connection.new.self) _ _ _ c.self.inside.notes.events c.self.invariant.10 _ c.in-Ok-true.ensures.opens c.in-Ok-true.ensures.calls)

pub invariant_of-self-in-Ok-false : goal.invariant_of-self-in-Ok-false
invariant_of-self-in-Ok-false g c = (
  c.self.invariant.0,
  c.self.invariant.1,
  tells_stays _ (g.P.Port.aside c.self.inside.inner) (g.P.Port.aside c.next_connection.new.self) (g.P.Port.aside c.self.inside.before.value) c.self.inside.notes.events c.self.invariant.2 (Ok false) (not_false _ refl) (subst (λ (b : Bool). Opens (g.P.Port.aside c.self.inside.inner) (g.P.Port.aside c.next_connection.new.self) (Ok b)) c.in-Ok-false.field-0-test c.in-Ok-false.ensures.opens),
  c.self.invariant.3,
  c.self.invariant.4,
  inner_opens _ (g.P.Port.aside c.self.inside.inner) (g.P.Port.aside c.next_connection.new.self) c.self.inside.notes.events _ c.self.invariant.5 _ c.in-Ok-false.ensures.opens c.in-Ok-false.ensures.planned refl,
  c.self.invariant.6,
  c.self.invariant.7,
  c.self.invariant.8,
  c.self.invariant.9,
  plan_unopened _ (g.P.Port.aside c.self.inside.inner) (g.P.Port.aside c.next_connection.new.self) _ _ _ c.self.inside.notes.events c.self.invariant.10 _ c.in-Ok-false.ensures.opens c.in-Ok-false.ensures.calls,
)

pub invariant_of-self-in-Err : goal.invariant_of-self-in-Err
invariant_of-self-in-Err g c = (
  c.self.invariant.0,
  c.self.invariant.1,
  tells_stays _ (g.P.Port.aside c.self.inside.inner) (g.P.Port.aside c.next_connection.new.self) (g.P.Port.aside c.self.inside.before.value) c.self.inside.notes.events c.self.invariant.2 _ (not_failed _ _ refl) c.in-Err.ensures.opens,
  c.self.invariant.3,
  c.self.invariant.4,
  inner_opens _ (g.P.Port.aside c.self.inside.inner) (g.P.Port.aside c.next_connection.new.self) c.self.inside.notes.events _ c.self.invariant.5 _ c.in-Err.ensures.opens c.in-Err.ensures.planned refl,
  c.self.invariant.6,
  c.self.invariant.7,
  c.self.invariant.8,
  c.self.invariant.9,
  plan_unopened _ (g.P.Port.aside c.self.inside.inner) (g.P.Port.aside c.next_connection.new.self) _ _ _ c.self.inside.notes.events c.self.invariant.10 _ c.in-Err.ensures.opens c.in-Err.ensures.calls,
)
