use Rattle.std.proofs.Common.{◌≡◌, ◌∙◌, rules, ap, map, ◌++◌, ◌∷◌, [], Some, List, ℕ}
use Rattle.station_doors.specs.MemYard.{slot_value}
use Rattle.station_doors.specs.declared.slots.Slot.{Slot}
use Rattle.station_doors.proofs.DiskPaths.{replaced_at, put_behind}
use Rattle.station_doors.proofs.slots.put.Goals as goal

pub returns-in-Some-clause-ok : goal.returns-in-Some-clause-ok
returns-in-Some-clause-ok c =
    replaced_at c.args.path.now c.args.slots.now.items c.in-Some.place c.index_mut.result.now c.index_mut.result.now.path c.args.disk (rw (← c.as_slice.ensures.value, ← c.in-Some.is) c.place_at.ensures.place) (ap (λ (s : Slot). s.path) c.index_mut.ensures.value)

pub returns-in_ok-push-in-None-clause-ok : goal.returns-in_ok-push-in-None-clause-ok
returns-in_ok-push-in-None-clause-ok c =
    let named : c.extend.new.self ≡ c.args.path.now = search rules in
    ap (λ (l : List Slot). map slot_value l) c.in_ok-push-in-None.ensures.items
    ∙ ap (λ (p : List ℕ). map slot_value (c.args.slots.now.items ++ record { path = p; disk = Some c.args.disk } ∷ [])) named
    ∙ put_behind c.args.path.now c.args.slots.now.items c.args.disk (rw (← c.as_slice.ensures.value) c.in-None.ensures.none)
