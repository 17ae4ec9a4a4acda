use Rattle.std.proofs.Common.{◌≡◌, ◌∙◌, rules, sym, ap, refl, get_or, Some, None, Option}
use Rattle.disk_doors.specs.MemDisk.{MemDiskValue}
use Rattle.station_doors.specs.MemYard.{shows_of}
use Rattle.station_doors.proofs.DiskPaths.{stands_at, changed_at, stands_nowhere, not_lent, nothing_there}
use Rattle.station_doors.proofs.slots.put_back.Goals as goal

pub returns-then-is_none-clause-lent : goal.returns-then-is_none-clause-lent
returns-then-is_none-clause-lent c = λ _.
    changed_at c.args.path.now c.args.slots.now c.in-Some.place c.index-slots-place-then-is_none.result (record { path = (get_or c.args.slots.now c.in-Some.place c.index-slots-place-then-is_none.result).path; disk = Some c.args.disk }) (rw (← c.in-Some.is) c.place_at.ensures.place) refl

pub returns-then-is_none-clause-dropped : goal.returns-then-is_none-clause-dropped
returns-then-is_none-clause-dropped c = λ other.
    let is : (get_or c.args.slots.now c.in-Some.place c.index-slots-place.result).disk ≡ None = search rules in
    absurd (other (stands_at c.args.path.now c.args.slots.now c.in-Some.place c.index-slots-place.result (rw (← c.in-Some.is) c.place_at.ensures.place) ∙ ap (λ (w : Option MemDiskValue). Some (shows_of w)) is))

pub returns-else-is_none-clause-lent : goal.returns-else-is_none-clause-lent
returns-else-is_none-clause-lent c = λ e.
    let some : (get_or c.args.slots.now c.in-Some.place c.index-slots-place.result).disk ≡ None → ⊥ = search rules in
    absurd (not_lent _ some (sym (stands_at c.args.path.now c.args.slots.now c.in-Some.place c.index-slots-place.result (rw (← c.in-Some.is) c.place_at.ensures.place)) ∙ e))

pub returns-in-None-clause-lent : goal.returns-in-None-clause-lent
returns-in-None-clause-lent c = λ e. nothing_there _ None (stands_nowhere c.args.path.now c.args.slots.now c.in-None.ensures.none) e
