-- The rows whose path has an origin AS, and the index by which they are found.
use Rattle.std.specs.Prelude.{◌≡◌, ℕ, ◌/◌, ◌%◌, Bool, true, false, nat_eq, if◌then◌else◌, List, [], Option, None, Some, option_and_then, MatchOption, ◌<◌, slice_index_or, replicate}
use Rattle.std.specs.declared.cmp.Ordering.{Ordering}
use Rattle.std.specs.declared.cmp.Ordering.TheVariants.{Less}
use Rattle.std.specs.List.{slice_get, Contains, filter}
use Rattle.std.specs.Option.{is_some}
use Rattle.std.specs.Ordering.{is_lt}
use Rattle.bmp_specs.specs.declared.wire.Family.TheVariants.{V4, V6}
use Rattle.bmp_specs.specs.MergedPath.{path_origin}
use Rattle.bmp_specs.specs.Values.{AttrsValue, NlriValue}
use Rattle.route_runs.specs.Keys.{pair_cmp}
use Rattle.route_runs.specs.Override.{value_at}
use Rattle.route_runs.specs.Places.{is_after, is_from}
use Rattle.route_runs.specs.Runs.{latest, seen}

-- the origin AS of a route (RFC 6811, section 2), where it has a path and the path has one
abbrev pub attrs_origin : AttrsValue → Option ℕ
attrs_origin a = option_and_then path_origin a.path

-- whether this is the number
abbrev pub is_number : ℕ → Option ℕ → Bool
is_number asn None = false
is_number asn (Some n) = nat_eq n asn

-- the pairs whose route has this origin AS
abbrev pub with_origin : ℕ → List (NlriValue × AttrsValue) → List (NlriValue × AttrsValue)
with_origin asn es = filter (λ e. is_number asn (attrs_origin e.1)) es

-- ---- inside
-- a set, where it has this origin
abbrev pub of_origin : {A : Type 0} → (A → Option ℕ) → ℕ → Option A → Option A
of_origin origin asn None = None
of_origin origin asn (Some x) = if is_number asn (origin x) then Some x else None

-- whether the index has a pair of an AS and a spot
abbrev pub has_spot : {S U : Type 0} → (S → S → Ordering) → ℕ → List ((ℕ × S) × U) → S → Bool
has_spot cmp asn index s = is_some (value_at (pair_cmp cmp) (asn, s) index)

-- of each listed pair whose set has an origin the spot is in the index
abbrev pub IsIndexed : {K S A U : Type 0} → (K → K → Ordering) → (S → S → Ordering) → (K → S) → (A → Option ℕ) → List (K × A) → List ((ℕ × S) × U) → Type 0
IsIndexed {K} {S} {A} cmp by spot origin pairs index = (q : K) (asn : ℕ) → is_some (of_origin origin asn (value_at cmp q pairs)) ≡ true → has_spot by asn index (spot q) ≡ true

-- whether routes of an AS may have a spot, by the index: all may where there is none
abbrev pub may_have : {S U : Type 0} → (S → S → Ordering) → ℕ → Option (List ((ℕ × S) × U)) → S → Bool
may_have cmp asn None s = true
may_have cmp asn (Some index) s = has_spot cmp asn index s

-- of each listed pair whose set has an origin the spot is in the index, where there is one
abbrev pub IsKnown : {K S A U : Type 0} → (K → K → Ordering) → (S → S → Ordering) → (K → S) → (A → Option ℕ) → List (K × A) → Option (List ((ℕ × S) × U)) → Type 0
IsKnown {K} {S} {A} cmp by spot origin pairs index = (q : K) (asn : ℕ) → is_some (of_origin origin asn (value_at cmp q pairs)) ≡ true → may_have by asn index (spot q) ≡ true

-- the spots of the rows of a run that have an origin are in a list of pairs
abbrev pub AreAdded : {K S A : Type 0} → (K → K → Ordering) → (K → S) → (A → Option ℕ) → List (K × Option A) → List (ℕ × S) → Type 0
AreAdded {K} cmp spot origin run pairs = (q : K) (asn : ℕ) → is_some (of_origin origin asn (seen (value_at cmp q run))) ≡ true → Contains pairs (asn, spot q)

-- the spots of the rows of a run that have an origin are in a run of the index, and no pair there is gone
pub record Covers {K S A U : Type 0} (cmp : K → K → Ordering) (by : S → S → Ordering) (spot : K → S) (origin : A → Option ℕ) (run : List (K × Option A)) (added : List ((ℕ × S) × Option U)) : Type 0 where
  pub there : (q : K) (asn : ℕ) → is_some (of_origin origin asn (seen (value_at cmp q run))) ≡ true → is_some (value_at (pair_cmp by) (asn, spot q) added) ≡ true
  pub none_gone : (p : ℕ × S) → is_some (value_at (pair_cmp by) p added) ≡ true → is_some (seen (value_at (pair_cmp by) p added)) ≡ true

-- the spots of the rows of all runs together that have an origin are in a list of pairs
abbrev pub AreAll : {K S A : Type 0} → (K → K → Ordering) → (K → S) → (A → Option ℕ) → List (List (K × Option A)) → List (ℕ × S) → Type 0
AreAll {K} cmp spot origin runs pairs = (q : K) (asn : ℕ) → is_some (of_origin origin asn (seen (latest cmp q runs))) ≡ true → Contains pairs (asn, spot q)

-- a run of the index has these pairs, and no pair that is gone
pub record HasPairs {K U : Type 0} (cmp : K → K → Ordering) (pairs : List (ℕ × K)) (added : List ((ℕ × K) × Option U)) : Type 0 where
  pub there : (p : ℕ × K) → Contains pairs p → is_some (value_at (pair_cmp cmp) p added) ≡ true
  pub none_gone : (p : ℕ × K) → is_some (value_at (pair_cmp cmp) p added) ≡ true → is_some (seen (value_at (pair_cmp cmp) p added)) ≡ true

-- the origin of the set that a handle names, of the origins of all sets of each pack
abbrev pub told_origin : List (List (Option ℕ)) → ℕ → Option ℕ
told_origin origins h = option_and_then (λ (o : Option ℕ). o) (slice_get (slice_index_or origins (h / 4096) []) (h % 4096))

-- the spots of the first n of these rows that have an origin are in a list of pairs, where a handle has this origin
abbrev pub AreNamed : {K S : Type 0} → (K → S) → (ℕ → Option ℕ) → List K → List ℕ → ℕ → List (ℕ × S) → Type 0
AreNamed {K} spot origin ks vs n pairs = (k : ℕ) (d : K) (asn : ℕ) → k < n → is_number asn (origin (slice_index_or vs k 0)) ≡ true → Contains pairs (asn, spot (slice_index_or ks k d))

-- each key that a list has passes a test
abbrev pub AreKeysBy : {K X : Type 0} → (K → K → Ordering) → (K → Type 0) → List (K × X) → Type 0
AreKeysBy {K} cmp P es = (q : K) → is_some (value_at cmp q es) ≡ true → P q

-- the spot passes, is another one or after it, and no such spot is before it
pub record IsLeastSpot {S : Type 0} (by : S → S → Ordering) (spot : S) (has : S → Bool) (s : S) : Type 0 where
  pub listed : has s ≡ true
  pub beyond : is_from by spot s ≡ true
  pub least : (t : S) → has t ≡ true → is_from by spot t ≡ true → is_lt (by t s) ≡ false

-- the first spot that passes, from one on, or that there is none
abbrev pub IsFirstSpot : {S : Type 0} → (S → S → Ordering) → S → (S → Bool) → Option S → Type 0
IsFirstSpot {S} by spot has found = MatchOption found ((t : S) → has t ≡ true → is_from by spot t ≡ false) (IsLeastSpot by spot has)

-- a key that isn't before another one, and the keys between them have spots before this one
pub record IsReached {K S : Type 0} (cmp : K → K → Ordering) (by : S → S → Ordering) (spot : K → S) (P : K → Type 0) (key : K) (s : S) (to : K) : Type 0 where
  pub further : is_lt (cmp to key) ≡ false
  pub between : (q : K) → P q → is_after cmp (Some key) q ≡ true → is_after cmp (Some to) q ≡ false → by (spot q) s ≡ Less

-- a key that isn't before another one, and no key between them has a spot that passes; or no key at all after it has one
pub record IsSkipTo {K S : Type 0} (cmp : K → K → Ordering) (spot : K → S) (P : K → Type 0) (key : K) (has : S → Bool) (to : K) : Type 0 where
  pub further : is_lt (cmp to key) ≡ false
  pub skipped : (q : K) → P q → is_after cmp (Some key) q ≡ true → is_after cmp (Some to) q ≡ false → has (spot q) ≡ false

abbrev pub IsSkip : {K S : Type 0} → (K → K → Ordering) → (K → S) → (K → Type 0) → K → (S → Bool) → Option K → Type 0
IsSkip {K} cmp spot P key has found = MatchOption found ((q : K) → P q → is_after cmp (Some key) q ≡ true → has (spot q) ≡ false) (IsSkipTo cmp spot P key has)

-- whether a key is after a place, or at it where the place counts
abbrev pub passes : {K : Type 0} → (K → K → Ordering) → Bool → K → K → Bool
passes cmp true place q = is_from cmp place q
passes cmp false place q = is_after cmp (Some place) q

-- the least NLRI
abbrev pub least_nlri : NlriValue
least_nlri = record { prefix = record { address = record { family = V4; octets = replicate 16 0 }; bits = 0 }; id = None }

-- the least NLRI of IPv6
abbrev pub least_high : NlriValue
least_high = record { prefix = record { address = record { family = V6; octets = replicate 16 0 }; bits = 0 }; id = None }

abbrev pub when : {X : Type 0} → Bool → X → Option X
when true x = Some x
when false x = None
