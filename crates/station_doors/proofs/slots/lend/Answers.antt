use Rattle.std.proofs.Common.{◌≡◌, ◌∙◌, rules, ap, refl, get_or, map, Some, None, Option}
use Rattle.disk_doors.specs.MemDisk.{MemDiskValue}
use Rattle.station_doors.specs.Disks.{with_disk}
use Rattle.station_doors.specs.MemYard.{shows_of, slot_value}
use Rattle.station_doors.proofs.DiskPaths.{stands_at, changed_at, stands_nowhere, taken_stood, taken_none, where_some, nothing_there}
use Rattle.station_doors.proofs.slots.lend.Goals as goal

pub returns-in-Some-clause-stood : goal.returns-in-Some-clause-stood
returns-in-Some-clause-stood c =
    let is : c.take.result ≡ (get_or c.args.slots.now c.in-Some.place c.index-slots-place.result).disk = search rules in
    taken_stood _ _ c.take.result (stands_at c.args.path.now c.args.slots.now c.in-Some.place c.index-slots-place.result (rw (← c.in-Some.is) c.place_at.ensures.place)) is

pub returns-in-Some-clause-none : goal.returns-in-Some-clause-none
returns-in-Some-clause-none c =
    let is : c.take.result ≡ (get_or c.args.slots.now c.in-Some.place c.index-slots-place.result).disk = search rules in
    taken_none _ _ c.take.result (stands_at c.args.path.now c.args.slots.now c.in-Some.place c.index-slots-place.result (rw (← c.in-Some.is) c.place_at.ensures.place)) is

pub returns-in-Some-clause-lent : goal.returns-in-Some-clause-lent
returns-in-Some-clause-lent c =
    let after : c.take.new.self ≡ None = search rules in
    let at = changed_at c.args.path.now c.args.slots.now c.in-Some.place c.index-slots-place.result (record { path = (get_or c.args.slots.now c.in-Some.place c.index-slots-place.result).path; disk = c.take.new.self }) (rw (← c.in-Some.is) c.place_at.ensures.place) refl in
    where_some c.take.result (at ∙ ap (λ (o : Option MemDiskValue). with_disk c.args.path.now (shows_of o) (map slot_value c.args.slots.now)) after)

pub returns-in-None-clause-none : goal.returns-in-None-clause-none
returns-in-None-clause-none c = λ shown e. nothing_there _ (Some shown) (stands_nowhere c.args.path.now c.args.slots.now c.in-None.ensures.none) e
