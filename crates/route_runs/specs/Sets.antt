-- What is so of all routes of a table.
use Rattle.std.specs.Prelude.{◌≡◌, Bool, Option, IfSome}
use Rattle.std.specs.Option.{is_some}
use Rattle.bmp_specs.specs.declared.wire.Family.{Family}
use Rattle.bmp_specs.specs.declared.wire.Family.TheVariants.{V4, V6}
use Rattle.bmp_specs.specs.Values.{AttrsValue, NlriValue}

-- what is said of path identifiers of IPv4, and of those of IPv6
abbrev pub of_family : Bool → Bool → Family → Bool
of_family low high V4 = low
of_family low high V6 = high

-- the NLRI has a path identifier exactly where its family has them, and the attributes pass a test
abbrev pub RoutePasses : Bool → Bool → (AttrsValue → Type 0) → NlriValue × AttrsValue → Type 0
RoutePasses low high P e = (is_some e.0.id ≡ of_family low high e.0.prefix.address.family) × P e.1

-- ---- inside
-- the same of a key by its mark, and of a row that may be gone
abbrev pub PairPasses : {K A : Type 0} → (K → Bool) → Bool → (A → Type 0) → K × A → Type 0
PairPasses marked ids P e = (marked e.0 ≡ ids) × P e.1

abbrev pub RowPasses : {K A : Type 0} → (K → Bool) → Bool → (A → Type 0) → K × Option A → Type 0
RowPasses marked ids P e = (marked e.0 ≡ ids) × IfSome e.1 P
