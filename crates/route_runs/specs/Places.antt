-- The first key after a place, and the first live pair.
use Rattle.std.specs.Prelude.{◌≡◌, ℕ, ◌<◌, ◌≤◌, Bool, true, false, not, if◌then◌else◌, List, length, slice_index_or, Option, None, Some, MatchOption}
use Rattle.std.specs.Borrow.{Bor}
use Rattle.std.specs.declared.alloc.Global.{Global}
use Rattle.std.specs.declared.cmp.Ordering.{Ordering}
use Rattle.std.specs.declared.sync.Arc.{Arc}
use Rattle.std.specs.Ordering.{is_lt}
use Rattle.std.specs.Option.{is_some, option_map}
use Rattle.route_runs.specs.Override.{value_at, or_else}
use Rattle.route_runs.specs.Runs.{latest, seen, shared}

-- whether a key is after a place, or there is no place
abbrev pub is_after : {K : Type 0} → (K → K → Ordering) → Option K → K → Bool
is_after cmp None q = true
is_after cmp (Some place) q = is_lt (cmp place q)

-- a pair of a key and what a reference to its set points to
abbrev pub shown : {K A : Type 0} → K × Bor (Arc A Global) → K × A
shown p = (p.0, shared p.1)

-- the pair has its key's value and passes the test, and no key that passes and has a value comes before it
pub record IsFirstPair {K A : Type 0} (cmp : K → K → Ordering) (test : K → Bool) (value : K → Option A) (e : K × A) : Type 0 where
  pub there : value e.0 ≡ Some e.1
  pub beyond : test e.0 ≡ true
  pub first : (q : K) → test q ≡ true → is_some (value q) ≡ true → is_lt (cmp q e.0) ≡ false

-- the first pair whose key passes, or that there is none
abbrev pub IsFirst : {K A : Type 0} → (K → K → Ordering) → (K → Bool) → (K → Option A) → Option (K × A) → Type 0
IsFirst {K} cmp test value found = MatchOption found ((q : K) → test q ≡ true → value q ≡ None) (IsFirstPair cmp test value)

-- whether a key is a place or after it
abbrev pub is_from : {K : Type 0} → (K → K → Ordering) → K → K → Bool
is_from cmp place q = not (is_lt (cmp q place))

-- ---- inside
-- the order turned round: what comes first in it comes last, and what is after a place is before it
abbrev pub turned : {K : Type 0} → (K → K → Ordering) → K → K → Ordering
turned cmp x y = cmp y x

-- the keys from a number on are those after the place
pub record IsAfterPoint {K : Type 0} (cmp : K → K → Ordering) (place : Option K) (ks : List K) (n : ℕ) : Type 0 where
  pub within : n ≤ length ks
  pub before : (k : ℕ) (d : K) → k < n → is_after cmp place (slice_index_or ks k d) ≡ false
  pub behind : (k : ℕ) (d : K) → n ≤ k → k < length ks → is_after cmp place (slice_index_or ks k d) ≡ true

-- the key passes, is after the place, and no such key is before it
pub record IsNextKey {K : Type 0} (cmp : K → K → Ordering) (place : Option K) (has : K → Bool) (k : K) : Type 0 where
  pub listed : has k ≡ true
  pub beyond : is_after cmp place k ≡ true
  pub least : (q : K) → has q ≡ true → is_after cmp place q ≡ true → is_lt (cmp q k) ≡ false

abbrev pub IsNext : {K : Type 0} → (K → K → Ordering) → Option K → (K → Bool) → Option K → Type 0
IsNext {K} cmp place has found = MatchOption found ((q : K) → has q ≡ true → is_after cmp place q ≡ false) (IsNextKey cmp place has)

-- whether a list, or one of the runs, has a key
abbrev pub has_key : {K X : Type 0} → (K → K → Ordering) → List (K × X) → K → Bool
has_key cmp es q = is_some (value_at cmp q es)

abbrev pub has_latest : {K A : Type 0} → (K → K → Ordering) → List (List (K × Option A)) → K → Bool
has_latest cmp runs q = is_some (latest cmp q runs)

-- the lesser of two keys, where there are both
abbrev pub lesser_of : {K : Type 0} → (K → K → Ordering) → Option K → Option K → Option K
lesser_of cmp None b = b
lesser_of cmp (Some a) None = Some a
lesser_of cmp (Some a) (Some b) = if is_lt (cmp b a) then Some b else Some a

-- no live key is between a place and another one after it
pub record IsPassed {K A : Type 0} (cmp : K → K → Ordering) (value : K → Option (Option A)) (place at : Option K) : Type 0 where
  pub passed : (q : K) → is_after cmp place q ≡ true → is_after cmp at q ≡ false → seen (value q) ≡ None
  pub further : (q : K) → is_after cmp at q ≡ true → is_after cmp place q ≡ true

-- the keys below a number are those before the place
pub record IsBeforePoint {K : Type 0} (cmp : K → K → Ordering) (place : Option K) (ks : List K) (n : ℕ) : Type 0 where
  pub within : n ≤ length ks
  pub before : (k : ℕ) (d : K) → k < n → is_after (turned cmp) place (slice_index_or ks k d) ≡ true
  pub behind : (k : ℕ) (d : K) → n ≤ k → k < length ks → is_after (turned cmp) place (slice_index_or ks k d) ≡ false

-- a key and what is said of it: the set that a reference points to, or that it is gone
abbrev pub told : {K A : Type 0} → K × Option (Bor (Arc A Global)) → K × Option A
told p = (p.0, option_map shared p.1)

-- whether a key is that of a pair or after it, or there is no pair
abbrev pub is_no_less : {K X : Type 0} → (K → K → Ordering) → Option (K × X) → K → Bool
is_no_less cmp None q = true
is_no_less cmp (Some e) q = is_from cmp e.0 q

-- where the old pair is the first of earlier values, the new one is the first of them under later values
abbrev pub IsFirstOver : {K X : Type 0} → (K → K → Ordering) → (K → Bool) → (K → Option X) → Option (K × X) → Option (K × X) → Type 0
IsFirstOver {K} {X} cmp test later old new = (earlier : K → Option X) → IsFirst cmp test earlier old → IsFirst cmp test (λ q. or_else (later q) (earlier q)) new
