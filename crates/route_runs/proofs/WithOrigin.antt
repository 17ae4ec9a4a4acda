-- The pairs with an origin AS, and a walk over them.
use Rattle.std.proofs.Common.{◌≡◌, ◌++◌, ℕ, zero, suc, Bool, true, false, not, cond, if◌then◌else◌, List, [], ◌∷◌, length, replicate, option_to_list, Option, None, Some, refl, ap, sym, ◌∙◌, arith}
use Rattle.std.specs.declared.cmp.Ordering.{Ordering}
use Rattle.std.specs.declared.cmp.Ordering.TheVariants.{Less, Equal, Greater}
use Rattle.std.specs.BTreeMap.{is_at}
use Rattle.std.specs.Cmp.Lexicographic.{slice_cmp}
use Rattle.std.specs.List.{AllByRecursion, Contains, filter}
use Rattle.std.specs.Option.{option_cmp}
use Rattle.std.specs.Ordering.{is_lt, nat_cmp, ordering_then, ordering_reverse}
use Rattle.std.proofs.lemmas.Bool.Decides.{nat_tests}
use Rattle.bmp_specs.specs.Orders.{family_number, nlri_cmp}
use Rattle.bmp_specs.specs.Values.{AttrsValue, NlriValue}
use Rattle.bmp_specs.specs.declared.wire.Family.TheVariants.{V6}
use Rattle.bmp_specs.proofs.OrderLaws.{nlri_total, nlri_exact}
use Rattle.route_runs.specs.Cursor.{Walking, moved}
use Rattle.route_runs.specs.Nlri.{IsNlri, IsNlriOf, AreNlri}
use Rattle.route_runs.specs.Origins.{attrs_origin, is_number, of_origin, with_origin, passes, least_nlri, least_high, when}
use Rattle.route_runs.specs.Override.{value_at}
use Rattle.route_runs.specs.Places.{is_from, IsFirst}
use Rattle.route_runs.specs.Walk.{left}
use Rattle.route_runs.proofs.Left.{all_from, walked_on, walked_from, ended_on, ended_from}
use Rattle.route_runs.proofs.Merging.{Rising, all-filter, none_below, rising_head, rising_tail, rising-filter}
use Rattle.route_runs.proofs.Nearer.{listed_has}
use Rattle.route_runs.proofs.Origins.{with_cases}

module _ (asn : ℕ) where
  of_cons : (at : Bool) (x : AttrsValue) (o : Option AttrsValue) → of_origin attrs_origin asn (cond at (Some x) o) ≡ cond at (if is_number asn (attrs_origin x) then Some x else None) (of_origin attrs_origin asn o)
  of_cons true x o = refl
  of_cons false x o = refl

  at_cons : (q : NlriValue) (e : NlriValue × AttrsValue) (es : List (NlriValue × AttrsValue)) (test : Bool) → value_at nlri_cmp q (cond test (e ∷ es) es) ≡ cond test (cond (is_at (nlri_cmp q) e.0) (Some e.1) (value_at nlri_cmp q es)) (value_at nlri_cmp q es)
  at_cons q e es true = refl
  at_cons q e es false = refl

  pub value_with : (q : NlriValue) (es : List (NlriValue × AttrsValue)) → Rising nlri_cmp es → value_at nlri_cmp q (with_origin asn es) ≡ of_origin attrs_origin asn (value_at nlri_cmp q es)
  value_with q [] s = refl
  value_with q (e ∷ es) s =
      let rest = value_with q es (rising_tail nlri_cmp e es s) in
      at_cons q e (with_origin asn es) (is_number asn (attrs_origin e.1))
      ∙ with_cases (is_at (nlri_cmp q) e.0) (is_number asn (attrs_origin e.1)) e.1 (value_at nlri_cmp q (with_origin asn es)) (if is_number asn (attrs_origin e.1) then Some e.1 else None) refl
      (λ at. rest ∙ ap (of_origin attrs_origin asn) (none_below nlri_cmp nlri_total nlri_exact q e.0 es at (rising_head nlri_cmp e es s)))
      ∙ ap (cond (is_at (nlri_cmp q) e.0) (if is_number asn (attrs_origin e.1) then Some e.1 else None)) rest
      ∙ sym (of_cons (is_at (nlri_cmp q) e.0) e.1 (value_at nlri_cmp q es))

  pub rising_with : (es : List (NlriValue × AttrsValue)) → Rising nlri_cmp es → Rising nlri_cmp (with_origin asn es)
  rising_with es s = rising-filter nlri_cmp (λ (e : NlriValue × AttrsValue). is_number asn (attrs_origin e.1)) es s

  -- ---- a step of the walk
  abbrev pub walking : NlriValue → List (NlriValue × AttrsValue) → Walking NlriValue AttrsValue
  walking place es = record { pairs = with_origin asn es; place = Some place }

  module _ (es l : List (NlriValue × AttrsValue)) (s : Rising nlri_cmp es) (place : NlriValue) (r : Option (NlriValue × AttrsValue)) where
    pub origin_next : (at : Bool) (place' : NlriValue) → left nlri_cmp (when at place) (walking place es) ≡ l → IsFirst nlri_cmp (passes nlri_cmp at place) (λ q. value_at nlri_cmp q (with_origin asn es)) r → Some place' ≡ moved (Some place) r
        → l ≡ option_to_list r ++ left nlri_cmp None (walking place' es)
    origin_next true place' view f on = walked_from nlri_cmp nlri_total nlri_exact (Some place) place (walking place es) (walking place' es) l r view refl (rising_with es s) f on refl
    origin_next false place' view f on = walked_on nlri_cmp nlri_total nlri_exact None (walking place es) (walking place' es) l r view refl (rising_with es s) f on refl

    pub origin_ended : (at : Bool) → left nlri_cmp (when at place) (walking place es) ≡ l → IsFirst nlri_cmp (passes nlri_cmp at place) (λ q. value_at nlri_cmp q (with_origin asn es)) r → r ≡ None → l ≡ []
    origin_ended true view f end = ended_from nlri_cmp nlri_total nlri_exact (Some place) place (walking place es) l r view refl f end
    origin_ended false view f end = ended_on nlri_cmp nlri_total nlri_exact None (walking place es) l r view refl f end

-- ---- the least NLRI
abbrev NotLess : Ordering → Type 0
NotLess o = is_lt (ordering_reverse o) ≡ false

le_then : (a b : Ordering) → NotLess a → NotLess b → NotLess (ordering_then a b)
le_then Less b p q = refl
le_then Equal b p q = q
le_then Greater b p q = absurd cc

zero_le : (n : ℕ) → NotLess (nat_cmp 0 n)
zero_le zero = refl
zero_le (suc n) = grind (arith, nat_tests)

zeros_le : (xs : List ℕ) (n : ℕ) → length xs ≡ n → NotLess (slice_cmp nat_cmp (replicate n 0) xs)
zeros_le [] zero e = refl
zeros_le [] (suc n) e = absurd (omega (arith, e))
zeros_le (x ∷ xs) zero e = absurd (omega (arith, e))
zeros_le (x ∷ xs) (suc n) e = le_then (nat_cmp 0 x) (slice_cmp nat_cmp (replicate n 0) xs) (zero_le x) (zeros_le xs n (omega (arith, e)))

none_le : (id : Option ℕ) → NotLess (option_cmp nat_cmp None id)
none_le None = refl
none_le (Some n) = refl

from_least : (q : NlriValue) → IsNlri q → is_from nlri_cmp least_nlri q ≡ true
from_least q h = ap not (ap is_lt (nlri_total.antisymm q least_nlri)
    ∙ le_then _ _ (le_then _ _ (le_then _ _ (zero_le (family_number q.prefix.address.family)) (zeros_le q.prefix.address.octets 16 h.prefix.address.len)) (zero_le q.prefix.bits)) (none_le q.id))

pub all_listed : {X : Type 0} (P : X → Type 0) (xs : List X) → ((x : X) → Contains xs x → P x) → AllByRecursion P xs
all_listed P [] h = tt
all_listed P (x ∷ xs) h = (h x (0, omega arith, refl), all_listed P xs (λ y c. h y (suc c.0, (let l = c.1 in omega (arith, l)), c.2)))

pub from_least_high : (q : NlriValue) → IsNlriOf V6 q → is_from nlri_cmp least_high q ≡ true
from_least_high q h = ap not (ap is_lt (nlri_total.antisymm q least_high)
    ∙ le_then _ _ (le_then _ _ (le_then _ _ (ap (λ f. is_lt (ordering_reverse (nat_cmp 1 (family_number f)))) h.family) (zeros_le q.prefix.address.octets 16 h.nlri.prefix.address.len)) (zero_le q.prefix.bits)) (none_le q.id))

pub all_from_least : (asn : ℕ) (es : List (NlriValue × AttrsValue)) → AreNlri es → filter (λ e. is_from nlri_cmp least_nlri e.0) (with_origin asn es) ≡ with_origin asn es
all_from_least asn es all = all_from nlri_cmp nlri_total nlri_exact (is_from nlri_cmp least_nlri) (with_origin asn es)
    (all-filter (λ (e : NlriValue × AttrsValue). is_from nlri_cmp least_nlri e.0 ≡ true) (λ (e : NlriValue × AttrsValue). is_number asn (attrs_origin e.1)) es
    (all_listed (λ (e : NlriValue × AttrsValue). is_from nlri_cmp least_nlri e.0 ≡ true) es (λ e c. from_least e.0 (all e.0 (listed_has es e c)))))
