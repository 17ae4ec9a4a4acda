-- The lines of rows, table by table and row by row.
use Rattle.std.proofs.Common.{◌≡◌, ℕ, List, [], ◌∷◌, ◌++◌, map, refl, ap, ◌∙◌}
use Rattle.std.proofs.lemmas.List.{map-append}
use Rattle.bmp_specs.specs.declared.peers.View.{View}
use Rattle.bmp_specs.specs.Rows.{RowValue}
use Rattle.bmp_specs.specs.Values.{KeyValue, NlriValue, AttrsValue}
use Rattle.router_tables.specs.Views.{Table}
use Rattle.query_eval.specs.Rows.{Asking, asked_of, asked_rows, lines_by, row_of}
use Rattle.query_eval.specs.RowTables.{PeerTableValue}

-- the lines of the first table and those of the others
pub first_table : (asking : Asking) (line : RowValue → List ℕ) (ts rest : List PeerTableValue) (t : PeerTableValue) → ts ≡ t ∷ rest → map line (asked_rows asking ts) ≡ map line (asked_of asking t) ++ map line (asked_rows asking rest)
first_table asking line ts rest t e = ap (λ (l : List PeerTableValue). map line (asked_rows asking l)) e ∙ map-append line (asked_of asking t) (asked_rows asking rest)

-- the lines of a table's pairs are those of its rows, where the line of each pair is that of its row
pub pairs_told : (line : NlriValue → AttrsValue → List ℕ) (told : RowValue → List ℕ) (key : KeyValue) (view : View) → ((n : NlriValue) (a : AttrsValue) → line n a ≡ told (record { row_key = record { key = key; view = view; nlri = n }; route = a }))
    → (pairs : Table) → lines_by line pairs ≡ map told (map (row_of key view) pairs)
pairs_told line told key view same [] = refl
pairs_told line told key view same (e ∷ es) = λ i. same e.0 e.1 i ∷ pairs_told line told key view same es i
