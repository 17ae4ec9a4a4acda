-- The calls of a disk that were noted, and the moments that they made.
use Rattle.std.specs.Prelude.{ℕ, zero, suc, List, [], ◌∷◌, slice_index}
use Rattle.disk_doors.specs.Images.{Moment, settled, wrote, unread}

-- What was called, a place, and bytes: a file to start with (0), a write (1), one that failed (2), a sync (3), one that
-- failed (any other).
abbrev pub Event : Type 0
Event = ℕ × ℕ × List ℕ

abbrev pub event_of : List ℕ → List ℕ → Event
event_of numbers bytes = (slice_index numbers 0, slice_index numbers 1, bytes)

abbrev pub next_moment : ℕ → ℕ → List ℕ → Moment → Moment
next_moment zero place bytes m = settled bytes
next_moment (suc zero) place bytes m = wrote m place bytes
next_moment (suc (suc zero)) place bytes m = unread m place bytes
next_moment (suc (suc (suc zero))) place bytes m = settled m.file
next_moment (suc (suc (suc (suc other)))) place bytes m = m

-- the present moment of these, the last first
abbrev pub present : List Moment → Moment
present [] = settled []
present (m ∷ ms) = m

abbrev pub before : List Moment → List Moment
before [] = []
before (m ∷ ms) = ms

-- the moments that these calls made, the last first
abbrev pub moments_of : List Event → List Moment
moments_of [] = []
moments_of (e ∷ es) = next_moment e.0 e.1 e.2 (present (moments_of es)) ∷ moments_of es
