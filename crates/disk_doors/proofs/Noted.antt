-- What a disk in memory shows after one more note.
use Rattle.std.proofs.Common.{◌≡◌, ℕ, List, ◌∷◌, sym, ap, subst}
use Rattle.disk_doors.specs.Images.{unread}
use Rattle.disk_doors.specs.Disk.{one_more, goes_to}
use Rattle.disk_doors.specs.Note.{Event}
use Rattle.disk_doors.specs.MemDisk.{shows_of}

-- of a write that failed
pub noted_fault : (events : List Event) (e : Event) (es : List Event) (fails : List ℕ) (room calls later place : ℕ) (piece : List ℕ) → events ≡ e ∷ es → later ≡ one_more calls
    → shows_of ((2, place, piece) ∷ events) fails room later ≡ goes_to (unread (shows_of events fails room calls).now place piece) (shows_of events fails room calls)
noted_fault events e es fails room calls later place piece is next =
    subst (λ (l : List Event). shows_of ((2, place, piece) ∷ l) fails room later ≡ goes_to (unread (shows_of l fails room calls).now place piece) (shows_of l fails room calls)) (sym is)
    (ap (λ (n : ℕ). shows_of ((2, place, piece) ∷ e ∷ es) fails room n) next)
