use Rattle.std.proofs.Common.{◌≡◌, ◌∙◌, rules, sym, ap, get_or, Some, None, Option}
use Rattle.disk_doors.specs.MemDisk.{MemDiskValue}
use Rattle.station_doors.specs.Disks.{file_of}
use Rattle.station_doors.specs.MemYard.{shows_of}
use Rattle.station_doors.proofs.DiskPaths.{stands_at, stands_nowhere}
use Rattle.station_doors.proofs.slots.bytes_at.Goals as goal

pub returns-in-Some-disk : goal.returns-in-Some-disk
returns-in-Some-disk c =
    let is : (get_or c.args.slots.now c.in-Some.place c.index-slots-place.result).disk ≡ Some c.in-Some-disk.disk = search rules in
    c.bytes.ensures ∙ sym (ap file_of (stands_at c.args.path.now c.args.slots.now c.in-Some.place c.index-slots-place.result (rw (← c.in-Some.is) c.place_at.ensures.place) ∙ ap (λ (w : Option MemDiskValue). Some (shows_of w)) is))

pub returns-in-None-disk : goal.returns-in-None-disk
returns-in-None-disk c =
    let is : (get_or c.args.slots.now c.in-Some.place c.index-slots-place.result).disk ≡ None = search rules in
    sym (ap file_of (stands_at c.args.path.now c.args.slots.now c.in-Some.place c.index-slots-place.result (rw (← c.in-Some.is) c.place_at.ensures.place) ∙ ap (λ (w : Option MemDiskValue). Some (shows_of w)) is))

pub returns-in-None : goal.returns-in-None
returns-in-None c = sym (ap file_of (stands_nowhere c.args.path.now c.args.slots.now c.in-None.ensures.none))
