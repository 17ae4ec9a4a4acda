-- `full marks`: the line of each mark, and how many rows its peer has in its view and of its family.
use Rattle.std.specs.Prelude.{◌≡◌, ℕ, ◌-◌, ◌<◌, List, [], ◌∷◌, ◌++◌, length, map, take, sum_by, slice_index_or, codes}
use Rattle.bmp_specs.specs.Lines.{line}
use Rattle.bmp_specs.specs.Listed.{AreAll, AreParallel}
use Rattle.bmp_specs.specs.NumberText.{number_text}
use Rattle.bmp_specs.specs.PeerHeader.{IsViewOf}
use Rattle.bmp_specs.specs.PeerLines.{family_text, mark_line, mark_text, named_field}
use Rattle.bmp_specs.specs.PeerText.{key_text, view_text}
use Rattle.bmp_specs.specs.Query.{count}
use Rattle.bmp_specs.specs.QueryReply.{AreAllRows, MarkValue, IsMark, mark_cmp}
use Rattle.bmp_specs.specs.Reply.{told_count}
use Rattle.bmp_specs.specs.Rows.{RowValue, HasRow}
use Rattle.bmp_specs.specs.Selection.{SelectValue, IsSelected}
use Rattle.bmp_specs.specs.Session.{session_effects}
use Rattle.bmp_specs.specs.TableRows.{AreRows}
use Rattle.bmp_specs.specs.Values.{EntryValue}

-- a mark, and the number of rows
pub record RowCountValue : Type 0 where
  pub mark : MarkValue
  pub rows : ℕ

-- the row is of the peer, the view and the family of the mark
pub record IsOfTable (m : MarkValue) (row : RowValue) : Type 0 where
  pub key_is : row.row_key.key ≡ m.key
  pub view_is : row.row_key.view ≡ m.view
  pub family_is : row.row_key.nlri.prefix.address.family ≡ m.family

-- the rows of a table that a peer has, and whether they are complete
pub record IsRowCount (entries : List EntryValue) (c : RowCountValue) : Type 0 where
  pub is_mark : IsMark entries c.mark
  pub rows : List RowValue
  pub are_rows : AreRows (IsOfTable c.mark) (session_effects entries) rows
  pub count_is : c.rows ≡ told_count (length rows)

-- the line of a mark, and then the number of its rows
abbrev pub full_mark_line : ℕ → RowCountValue → List ℕ
full_mark_line lane c = line (codes "mark") (
    number_text lane
    ∷ key_text c.mark.key
    ∷ view_text c.mark.view
    ∷ family_text c.mark.family
    ∷ mark_text c.mark.complete
    ∷ named_field (codes "rows") (number_text c.rows)
    ∷ [])

-- the lines of the marks that are selected, by peer, view and family, as those of a plain `marks`
pub record AreFullMarkLines (lane : ℕ) (entries : List EntryValue) (select : SelectValue) (lines : List (List ℕ)) : Type 0 where
  pub known : List RowCountValue
  pub are_known : AreAll (λ c. c.mark) mark_cmp (λ c. IsRowCount entries c × IsSelected select lane c.mark.key c.mark.view c.mark.family) known
  pub told : lines ≡ map (full_mark_line lane) known

-- the line of a mark, as a plain `marks` tells it
abbrev pub plain_mark_line : ℕ → MarkValue → List ℕ
plain_mark_line lane m = mark_line lane m.key m.view m.family m.complete

-- The full line is the plain line without its end, and then the field.
abbrev pub BeginsWithMark : Type 0
BeginsWithMark = (lane : ℕ) (c : RowCountValue) → full_mark_line lane c ≡ take (length (plain_mark_line lane c.mark) - 1) (plain_mark_line lane c.mark) ++ (32 ∷ (named_field (codes "rows") (number_text c.rows) ++ (10 ∷ [])))

-- a mark has one number of rows
abbrev pub CountsOnce : Type 0
CountsOnce = (entries : List EntryValue) (a b : RowCountValue) → IsRowCount entries a → IsRowCount entries b → a.mark ≡ b.mark → a ≡ b

-- the marks of a lane that are selected, each with the number of its rows
abbrev pub AreRowCounts : SelectValue → ℕ → List EntryValue → List RowCountValue → Type 0
AreRowCounts select lane entries known = AreAll (λ c. c.mark) mark_cmp (λ c. IsRowCount entries c × IsSelected select lane c.mark.key c.mark.view c.mark.family) known

-- a peer has rows in views of its own alone
abbrev pub HasOwnViews : List EntryValue → Type 0
HasOwnViews entries = (row : RowValue) → HasRow (session_effects entries) row → IsViewOf row.row_key.key row.row_key.view

-- The sum of the numbers of rows is the number of `count` with the same selectors, both as they are told.
abbrev pub CountsAddUp : Type 0
CountsAddUp = (select : SelectValue) (lanes : List (List EntryValue)) (counts : List (List RowCountValue)) (rows : List RowValue)
    → ((lane : ℕ) (d : List EntryValue) → lane < length lanes → HasOwnViews (slice_index_or lanes lane d))
    → AreParallel (AreRowCounts select) lanes counts → AreAllRows (count select) lanes rows
    → told_count (sum_by (λ part. sum_by (λ c. c.rows) part) counts) ≡ told_count (length rows)
