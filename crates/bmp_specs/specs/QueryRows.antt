-- Which rows the queries of our query language ask for.
use Rattle.std.specs.Prelude.{◌≡◌, ℕ, ◌≤◌, List, Some}
use Rattle.std.specs.Option.{option_and_then}
use Rattle.bmp_specs.specs.Containment.{HoldsAddress, ContainsPrefix}
use Rattle.bmp_specs.specs.MergedPath.{path_origin}
use Rattle.bmp_specs.specs.Query.{QueryValue, routers, cut, peers, marks, table, count, exact, longest, within, origin, stats, changes, quit}
use Rattle.bmp_specs.specs.Rows.{RowValue, HasRow}
use Rattle.bmp_specs.specs.Selection.{IsRowSelected}
use Rattle.bmp_specs.specs.Values.{AddressValue, EffectValue}

-- the row's path has this origin AS (RFC 6811, section 2: the last AS of the path, where its last segment is a sequence)
abbrev pub HasOrigin : RowValue → ℕ → Type 0
HasOrigin row asn = option_and_then path_origin row.route.path ≡ Some asn

-- the row's prefix holds the address, and no row of the same peer and view has a longer prefix that holds it
pub record IsLongestMatch (effects : List EffectValue) (address : AddressValue) (row : RowValue) : Type 0 where
  pub holds : HoldsAddress row.row_key.nlri.prefix address
  pub longest_of : (other : RowValue) → HasRow effects other → other.row_key.key ≡ row.row_key.key → other.row_key.view ≡ row.row_key.view → HoldsAddress other.row_key.nlri.prefix address
      → other.row_key.nlri.prefix.bits ≤ row.row_key.nlri.prefix.bits

-- the query asks for the row, where these effects leave the rows of this lane; some queries ask for no row
abbrev pub AsksRow : QueryValue → ℕ → List EffectValue → RowValue → Type 0
AsksRow (table select) lane effects row = IsRowSelected select lane row
AsksRow (count select) lane effects row = IsRowSelected select lane row
AsksRow (exact prefix select) lane effects row = (row.row_key.nlri.prefix ≡ prefix) × IsRowSelected select lane row
AsksRow (longest address select) lane effects row = IsLongestMatch effects address row × IsRowSelected select lane row
AsksRow (within prefix select) lane effects row = ContainsPrefix prefix row.row_key.nlri.prefix × IsRowSelected select lane row
AsksRow (origin asn select) lane effects row = HasOrigin row asn × IsRowSelected select lane row
AsksRow routers lane effects row = ⊥
AsksRow cut lane effects row = ⊥
AsksRow (peers router peer) lane effects row = ⊥
AsksRow (marks select) lane effects row = ⊥
AsksRow (stats key) lane effects row = ⊥
AsksRow (changes number from prefix) lane effects row = ⊥
AsksRow quit lane effects row = ⊥
