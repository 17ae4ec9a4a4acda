-- Runs of NLRI in their order: those of a family, of one prefix, or of the prefixes within one.
use Rattle.std.specs.Prelude.{Bool, List, true, ◌&&◌, leb, [], ◌∷◌, if◌then◌else◌, replicate, Option, None, Some}
use Rattle.std.specs.Cmp.Lexicographic.{slice_cmp}
use Rattle.std.specs.Ordering.{is_eq, nat_cmp}
use Rattle.bmp_specs.specs.declared.wire.Family.{Family}
use Rattle.bmp_specs.specs.declared.wire.Family.TheVariants.{V4, V6}
use Rattle.bmp_specs.specs.Address.{IsAddressPrefix}
use Rattle.bmp_specs.specs.Orders.{family_cmp, prefix_cmp}
use Rattle.bmp_specs.specs.Prefix.{first_bits}
use Rattle.bmp_specs.specs.Values.{AddressValue, AttrsValue, NlriValue, PrefixValue}
use Rattle.route_runs.specs.declared.walk.Place.{Place}
use Rattle.route_runs.specs.declared.walk.Place.TheVariants.{First, From}
use Rattle.std.specs.Borrow.{Bor}
use Rattle.std.specs.declared.alloc.Global.{Global}
use Rattle.std.specs.declared.sync.Arc.{Arc}
use Rattle.route_runs.specs.Runs.{shared}
use Rattle.router_tables.specs.Views.{Table}
use Rattle.query_eval.specs.declared.run.Part.{Part}
use Rattle.query_eval.specs.declared.run.Part.TheVariants.{Whole, Exact, Within}
use Rattle.query_eval.specs.declared.run.Run.{Run}
use Rattle.query_eval.specs.Selecting.{is_named}

-- whether the prefix holds the address, and whether it contains the other prefix
abbrev pub holds : PrefixValue → AddressValue → Bool
holds p a = is_eq (family_cmp p.address.family a.family) && is_eq (slice_cmp nat_cmp (first_bits p.bits p.address.octets) (first_bits p.bits a.octets))

abbrev pub contains : PrefixValue → PrefixValue → Bool
contains p q = leb p.bits q.bits && holds p q.address

abbrev pub in_part : Part → PrefixValue → Bool
in_part Whole q = true
in_part (Exact p) q = is_eq (prefix_cmp p q)
in_part (Within p) q = contains p q

-- whether the NLRI is in the run
abbrev pub in_run : Run → NlriValue → Bool
in_run run n = is_named family_cmp run.family n.prefix.address.family && in_part run.part n.prefix

-- the first of all NLRI of IPv6
abbrev pub first_of_v6 : NlriValue
first_of_v6 = record { prefix = record { address = record { family = V6; octets = replicate 16 0 }; bits = 0 }; id = None }

-- where a run begins
abbrev pub begin_of_family : Option Family → Place
begin_of_family None = First
begin_of_family (Some V4) = First
begin_of_family (Some V6) = From first_of_v6

abbrev pub begin_of_part : Part → Option Family → Place
begin_of_part Whole family = begin_of_family family
begin_of_part (Exact p) family = From (record { prefix = p; id = None })
begin_of_part (Within p) family = From (record { prefix = p; id = None })

abbrev pub begin_of : Run → Place
begin_of run = begin_of_part run.part run.family

-- the prefix of a part is one
abbrev pub IsPart : Part → Type 0
IsPart Whole = Unit {0}
IsPart (Exact p) = IsAddressPrefix p
IsPart (Within p) = IsAddressPrefix p

-- the pairs up to the first that isn't in the run
abbrev pub front_of : Run → Table → Table
front_of run [] = []
front_of run (e ∷ es) = if in_run run e.0 then e ∷ front_of run es else []

-- the pairs that stand in places, by their NLRI and by the references to their sets
abbrev pub shown_all : List NlriValue → List (Bor (Arc AttrsValue Global)) → Table
shown_all [] routes = []
shown_all (n ∷ nlris) [] = []
shown_all (n ∷ nlris) (route ∷ routes) = (n, shared route) ∷ shown_all nlris routes

-- what was found of the routes in places stands in these places, by the references to their sets
abbrev pub AreFound : {F : Type 0} → (AttrsValue → F → Type 0) → List (Bor (Arc AttrsValue Global)) → List F → Type 0
AreFound Finds [] found = Unit {0}
AreFound Finds (route ∷ routes) [] = ⊥
AreFound Finds (route ∷ routes) (f ∷ found) = Finds (shared route) f × AreFound Finds routes found
