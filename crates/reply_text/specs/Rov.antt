-- The line of a row with its origin AS and what the row is judged to be, in a form of ours.
use Rattle.std.specs.Prelude.{ℕ, List, ◌∷◌, Option, None, Some, codes}
use Rattle.bmp_specs.specs.Lines.{line}
use Rattle.bmp_specs.specs.NumberText.{number_text}
use Rattle.bmp_specs.specs.PeerText.{key_text, view_text}
use Rattle.bmp_specs.specs.PrefixText.{prefix_text}
use Rattle.bmp_specs.specs.RouteLine.{id_fields}
use Rattle.bmp_specs.specs.Rows.{RowKeyValue}

-- the origin of a route, or that it has none
abbrev pub origin_word : Option ℕ → List ℕ
origin_word None = codes "none"
origin_word (Some asn) = number_text asn

-- the fields of a row that is judged, from its peer on
abbrev pub judged_fields : RowKeyValue → Option ℕ → List ℕ → List (List ℕ)
judged_fields row origin judged =
    key_text row.key ∷ view_text row.view ∷ prefix_text row.nlri.prefix ∷ origin_word origin ∷ judged ∷ id_fields row.nlri.id

-- the line of a row of this lane
abbrev pub rov_line : ℕ → RowKeyValue → Option ℕ → List ℕ → List ℕ
rov_line lane row origin judged = line (codes "rov") (number_text lane ∷ judged_fields row origin judged)
