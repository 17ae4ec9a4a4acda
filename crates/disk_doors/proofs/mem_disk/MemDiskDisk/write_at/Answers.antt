use Rattle.std.proofs.Common.{rules, ◌⊎◌, ◌+◌, ◌<◌, length}
use Rattle.disk_doors.specs.Disk.{IsPlanned}
use Rattle.disk_doors.specs.MemDisk.{shows_of}
use Rattle.disk_doors.proofs.Torn.{tore_at}
use Rattle.disk_doors.proofs.Noted.{noted_fault}
use Rattle.disk_doors.proofs.mem_disk.MemDiskDisk.write_at.Goals as goal

pub returns-then-not-fits-clause-told : goal.returns-then-not-fits-clause-told
returns-then-not-fits-clause-told c =
    let cause : IsPlanned (shows_of c.self.inside.notes.events c.self.inside.fails.items c.self.inside.room c.self.inside.calls) ⊎ (c.self.inside.room < c.args.place + length c.args.piece.now) = search rules in
    rw (← c.self.view_is, c.note.ensures) (λ t. tore_at _ _ c.args.place c.args.piece.now _
    (noted_fault c.self.inside.notes.events _ _ c.self.inside.fails.items c.self.inside.room c.self.inside.calls _ c.args.place c.args.piece.now c.self.invariant.some.2 c.saturating_add-self-inside.ensures) cause)
