-- Nothing is read once a connection ended: what was read before the last read goes on.
use Rattle.std.proofs.Common.{◌≡◌, ℕ, ◌≤◌, false, length, List, [], ◌++◌, Option, refl, sym, subst, append-nil}
use mathlib.Core.Bool.{false≢true}
use Rattle.std.specs.Io.KnownBytes.{Appends}
use Rattle.cut_publisher.specs.History.{Begins, revision}
use Rattle.wire_io.proofs.Joins.{appends_then}
use Rattle.ask_session.specs.declared.close.Close.{Close}
use Rattle.ask_session.specs.declared.close.Close.TheVariants.{Ended, Full, Over, ReadFault, WriteFault}
use Rattle.ask_session.specs.Lines.{HasNoEnd, IsTooMany}
use Rattle.ask_session.specs.Replies.{History}
use Rattle.ask_session.specs.Dialogue.{GoesOn}
use Rattle.station_doors.specs.Doors.{most_heard}
use Rattle.ask_session.specs.Connection.{AppendsThenMore, HasWritten, IsReadNoFurther}
use Rattle.ask_session.specs.Hearing.{Goes}

-- bytes that end no line yet
still_silent : (lanes : ℕ) (history : History) (least : ℕ) (pending : List ℕ) → HasNoEnd pending → (IsTooMany pending → ⊥) → GoesOn lanes history least pending []
still_silent lanes history least pending plain few = record { turns = []; talks = (record { plain = plain; few = few; none = λ h. absurd (false≢true h) }, refl) }

-- what was heard so far goes on
pub still_going : (lanes : ℕ) (s1 s2 history : History) (from pending : List ℕ) (a b : Option (List ℕ)) (n0 n1 : ℕ) → (g : Goes lanes s1 s2 from pending a b n0 n1) → Begins s2 history → GoesOn lanes history (revision s1) from g.written
still_going lanes s1 s2 history from pending a b n0 n1 g later =
    let d = subst (λ (l : List ℕ). GoesOn lanes history (revision s2) l []) (sym (append-nil pending)) (still_silent lanes history (revision s2) pending g.plain g.few) in
    subst (λ (l : List ℕ). GoesOn lanes history (revision s1) from l) (append-nil g.written)
    (subst (λ (l : List ℕ). GoesOn lanes history (revision s1) l (g.written ++ [])) (append-nil from) (g.turns.go ReadFault false history [] [] later d))

-- what was written first, whatever was written then
written_first : (close : Close) (a b c : Option (List ℕ)) (n m : ℕ) (w text : List ℕ) → Appends a b w → HasWritten close text b c n m → AppendsThenMore a c w
written_first Ended a b c n m w text p h = (text, appends_then a b c w text p h.0)
written_first Full a b c n m w text p h = (text, appends_then a b c w text p h.0)
written_first Over a b c n m w text p h = (text, appends_then a b c w text p h.0)
written_first ReadFault a b c n m w text p h = (text, appends_then a b c w text p h.0)
written_first WriteFault a b c n m w text p h = (h.0.front, appends_then a b c w h.0.front p h.0.grown)

pub no_further : (lanes : ℕ) (s1 s2 s3 : History) (bytes from pending piece : List ℕ) (close : Close) (text : List ℕ) (a b c : Option (List ℕ)) (n0 n1 n m : ℕ) → Goes lanes s1 s2 from pending a b n0 n1 → Begins s2 s3 → bytes ≡ from ++ piece → length piece ≤ most_heard
    → HasWritten close text b c n m → IsReadNoFurther lanes s3 (revision s1) bytes a c
no_further lanes s1 s2 s3 bytes from pending piece close text a b c n0 n1 n m g later split short h = record {
  front = from;
  piece = piece;
  split = split;
  short = short;
  replies = g.written;
  going = still_going lanes s1 s2 s3 from pending a b n0 n1 g later;
  written = written_first close a b c n m g.written text g.told_is h;
}
