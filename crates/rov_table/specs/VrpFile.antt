-- The file of validated ROA payloads (VRPs). No RFC has its form; it is what validators of the RPKI write: records of
-- comma-separated fields, the first of which is a heading.
use Rattle.std.specs.Prelude.{◌≡◌, ℕ, ◌<◌, ◌≤◌, ◌==◌, if◌then◌else◌, List, [], ◌∷◌, length, take, drop, codes, slice_index_or}
use Rattle.std.specs.List.{AllZip}
use Rattle.std.specs.Cmp.Lexicographic.{pointwise}
use Rattle.csv.specs.Reading.{default_config, records, strip_bom}
use Rattle.bmp_specs.specs.NumberText.{IsNumberText}
use Rattle.bmp_specs.specs.Prefix.{width_of}
use Rattle.bmp_specs.specs.PrefixText.{IsPrefixText}
use Rattle.rov_table.specs.declared.vrp.Vrp.{Vrp}
use Rattle.rov_table.specs.declared.vrp.VrpFault.{VrpFault}
use Rattle.rov_table.specs.declared.vrp.VrpFault.TheVariants.{Bad, NoMemory}

-- The records of a file, each a list of fields: what `csv` reads with its defaults. CR, LF or CRLF ends a record, an empty
-- line is none, a byte order mark at the start is taken off, and a quoted field may have commas and line ends.
unfoldable pub file_records : List ℕ → List (List (List ℕ))
file_records file = records default_config (strip_bom file)

-- a text without `AS` at its front
abbrev pub without_as : List ℕ → List ℕ
without_as text = if pointwise (λ x y. x == y) (take 2 text) (codes "AS") then drop 2 text else text

-- the text is a maximum length: a number of bits, or nothing for the prefix's own
abbrev pub IsMaxText : List ℕ → ℕ → ℕ → Type 0
IsMaxText [] own max = max ≡ own
IsMaxText (b ∷ bs) own max = IsNumberText (b ∷ bs) max

-- three fields are the VRP: its AS, its prefix and its maximum length, which is from the prefix's own to the width of an
-- address
pub record SpellsVrp (asn prefix max : List ℕ) (v : Vrp) : Type 0 where
  pub asn_is : IsNumberText (without_as asn) v.asn
  pub prefix_is : IsPrefixText prefix v.prefix
  pub max_is : IsMaxText max v.prefix.bits v.max
  pub least : v.prefix.bits ≤ v.max
  pub most : v.max ≤ width_of v.prefix.address.family

-- the record is the VRP: its first three fields are, and further ones are passed over
abbrev pub IsVrp : List (List ℕ) → Vrp → Type 0
IsVrp [] v = ⊥
IsVrp (asn ∷ []) v = ⊥
IsVrp (asn ∷ prefix ∷ []) v = ⊥
IsVrp (asn ∷ prefix ∷ max ∷ further) v = SpellsVrp asn prefix max v

-- the records after the first are the VRPs, in their order
abbrev pub AreVrps : List (List (List ℕ)) → List Vrp → Type 0
AreVrps rows vrps = AllZip IsVrp (drop 1 rows) vrps

-- the record of this number is the first after record 0 that is no VRP
pub record IsFirstBad (rows : List (List (List ℕ))) (line : ℕ) : Type 0 where
  pub later : 0 < line
  pub within : line < length rows
  pub before : (vrps : List Vrp) × AreVrps (take line rows) vrps
  pub bad : (v : Vrp) → IsVrp (slice_index_or rows line []) v → ⊥

-- what a fault says of the records
abbrev pub IsFaultOf : List (List (List ℕ)) → VrpFault → Type 0
IsFaultOf rows (Bad line) = IsFirstBad rows line
IsFaultOf rows NoMemory = Unit {0}
