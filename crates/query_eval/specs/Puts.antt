-- What a call leaves that writes the lines of one lane, and what a call answers that counts its rows.
use Rattle.std.specs.Prelude.{◌≡◌, ℕ, List, length, map, Option, Result, Ok, Err, IfOk}
use Rattle.std.specs.List.{concat}
use Rattle.ask_specs.specs.AskReply.{AsksTraitRow}
use Rattle.ask_specs.specs.Traits.{TraitsValue}
use Rattle.bmp_specs.specs.Query.{QueryValue}
use Rattle.bmp_specs.specs.QueryRows.{AsksRow}
use Rattle.bmp_specs.specs.Reply.{told_count}
use Rattle.bmp_specs.specs.Rows.{RowValue}
use Rattle.bmp_specs.specs.Session.{session_effects}
use Rattle.bmp_specs.specs.TableRows.{AreRows}
use Rattle.bmp_specs.specs.Values.{EntryValue}
use Rattle.wire_io.specs.declared.sink.Failed.{Failed}
use Rattle.wire_io.specs.Aside.{Aside}
use Rattle.wire_io.specs.Faults.{HasCause}
use Rattle.wire_io.specs.Writes.{Writes}

-- whether a call that answers a number wrote all
abbrev pub done : Result ℕ Failed → Result (Unit {0}) Failed
done (Ok count) = Ok tt
done (Err failed) = Err failed

-- All lines were written, and no write failed, and the answer is their number, at most the greatest of 64 bits; or a
-- write failed in this call, and a front of the lines was written.
pub record WritesLines {O : Type 0} (faults : O → ℕ) (told : O → Option (List ℕ)) (aside : O → Aside) (old : O) (lines : List (List ℕ)) (result : Result ℕ Failed) (new : O) : Type 0 where
  pub written : Writes faults told aside old (concat lines) (done result) new
  pub counted : IfOk result (λ count. count ≡ told_count (length lines))

-- For whichever entries, of a lane or of each lane, these lines of them were written, or a front of them where a write
-- failed.
pub record PutsLines {O E : Type 0} (faults : O → ℕ) (told : O → Option (List ℕ)) (aside : O → Aside) (Of : E → Type 0) (AreThese : E → List (List ℕ) → Type 0) (old : O) (result : Result ℕ Failed) (new : O) : Type 0 where
  pub puts : (entries : E) (lines : List (List ℕ)) → Of entries → AreThese entries lines → WritesLines faults told aside old lines result new
  pub kept : aside new ≡ aside old
  pub cause : HasCause (faults old) (faults new) result

-- the rows of a lane with these entries that the query asks for
abbrev pub AreAskedRows : QueryValue → ℕ → List EntryValue → List RowValue → Type 0
AreAskedRows query lane entries rows = AreRows (AsksRow query lane (session_effects entries)) (session_effects entries) rows

-- the rows of a lane with these entries that the query asks for and whose routes have what is asked, and their lines, each told
-- in this way
abbrev pub AreKeptRows : QueryValue → TraitsValue → ℕ → List EntryValue → List RowValue → Type 0
AreKeptRows query traits lane entries rows = AreRows (AsksTraitRow query traits lane (session_effects entries)) (session_effects entries) rows

pub record AreKeptLines (line : ℕ → RowValue → List ℕ) (query : QueryValue) (traits : TraitsValue) (lane : ℕ) (entries : List EntryValue) (lines : List (List ℕ)) : Type 0 where
  pub rows : List RowValue
  pub are_rows : AreKeptRows query traits lane entries rows
  pub told : lines ≡ map (line lane) rows

-- For whichever of these lists of entries, there are the rows of them that the query asks for, and the line of each was
-- written, or a front of these lines where a write failed.
abbrev pub PutsRows : {O : Type 0} → (O → ℕ) → (O → Option (List ℕ)) → (O → Aside) → (List EntryValue → Type 0) → QueryValue → ℕ → (RowValue → List ℕ) → O → Result ℕ Failed → O → Type 0
PutsRows faults told aside Of query lane line old result new = (entries : List EntryValue) → Of entries → (rows : List RowValue) × AreAskedRows query lane entries rows × WritesLines faults told aside old (map line rows) result new

-- For whichever of these lists of entries, it is the number of the rows that are asked for and whose routes have what is
-- asked, at most the greatest of 64 bits.
pub record CountsKeptRows (Of : List EntryValue → Type 0) (query : QueryValue) (traits : TraitsValue) (lane count : ℕ) : Type 0 where
  pub counts : (entries : List EntryValue) (rows : List RowValue) → Of entries → AreKeptRows query traits lane entries rows → count ≡ told_count (length rows)
