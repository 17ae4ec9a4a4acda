-- The pairs with an origin AS of a joined list.
use Rattle.std.proofs.Common.{◌≡◌, ◌++◌, ℕ, Bool, true, false, cond, List, [], ◌∷◌, Option, None, Some, refl, ap, sym, ◌∙◌}
use Rattle.std.specs.Option.{is_some}
use Rattle.bmp_specs.specs.declared.wire.Family.TheVariants.{V4, V6}
use Rattle.bmp_specs.specs.Orders.{nlri_cmp}
use Rattle.bmp_specs.specs.Values.{AttrsValue, NlriValue}
use Rattle.route_runs.specs.Nlri.{IsNlriOf, AreKeys, AreHalves}
use Rattle.route_runs.specs.Origins.{attrs_origin, is_number, of_origin, with_origin, passes, least_high}
use Rattle.route_runs.specs.Override.{value_at}
use Rattle.route_runs.specs.Places.{is_from, IsFirst}
use Rattle.route_runs.proofs.Halves.{other_test, after_low, not_after_high, from_low, not_from_high}
use Rattle.route_runs.proofs.Merging.{Rising}
use Rattle.route_runs.proofs.Searching.{first_ext}
use Rattle.route_runs.proofs.WithOrigin.{value_with, from_least_high}

of_some : (asn : ℕ) (o : Option AttrsValue) → is_some (of_origin attrs_origin asn o) ≡ true → is_some o ≡ true
of_some asn None h = h
of_some asn (Some x) h = refl

module _ (asn : ℕ) where
  keys_with : (P : NlriValue → Type 0) (es : List (NlriValue × AttrsValue)) → Rising nlri_cmp es → AreKeys P es → AreKeys P (with_origin asn es)
  keys_with P es s h q has = h q (of_some asn (value_at nlri_cmp q es) (ap is_some (sym (value_with asn q es s)) ∙ has))

  pub with_halves : (es fs : List (NlriValue × AttrsValue)) → Rising nlri_cmp es → Rising nlri_cmp fs → AreHalves es fs → AreHalves (with_origin asn es) (with_origin asn fs)
  with_halves es fs s t h = record { low = keys_with (IsNlriOf V4) es s h.low; high = keys_with (IsNlriOf V6) fs t h.high }

  pub with_cat : (es fs : List (NlriValue × AttrsValue)) → with_origin asn es ++ with_origin asn fs ≡ with_origin asn (es ++ fs)
  with_cat [] fs = refl
  with_cat (e ∷ es) fs = cases (is_number asn (attrs_origin e.1)) (with_cat es fs)
    where
      cases : (b : Bool) → with_origin asn es ++ with_origin asn fs ≡ with_origin asn (es ++ fs) → cond b (e ∷ with_origin asn es) (with_origin asn es) ++ with_origin asn fs ≡ cond b (e ∷ with_origin asn (es ++ fs)) (with_origin asn (es ++ fs))
      cases true h = ap (λ l. e ∷ l) h
      cases false h = h

  pub first_with : (test : NlriValue → Bool) (es : List (NlriValue × AttrsValue)) → Rising nlri_cmp es → (r : Option (NlriValue × AttrsValue)) → IsFirst nlri_cmp test (λ q. of_origin attrs_origin asn (value_at nlri_cmp q es)) r → IsFirst nlri_cmp test (λ q. value_at nlri_cmp q (with_origin asn es)) r
  first_with test es s r f = first_ext nlri_cmp test (λ q. of_origin attrs_origin asn (value_at nlri_cmp q es)) (λ q. value_at nlri_cmp q (with_origin asn es)) r (λ q. value_with asn q es s) f

-- from the least one on are all of IPv6
pub all_of_high : (fs : List (NlriValue × AttrsValue)) → AreKeys (IsNlriOf V6) fs → (r : Option (NlriValue × AttrsValue)) → IsFirst nlri_cmp (is_from nlri_cmp least_high) (λ q. value_at nlri_cmp q fs) r → IsFirst nlri_cmp (λ q. true) (λ q. value_at nlri_cmp q fs) r
all_of_high fs keys r f = other_test [] fs (record { low = λ q h. absurd cc; high = keys }) (λ q. true) (is_from nlri_cmp least_high) from_least_high r f

pub high_with : (asn : ℕ) (fs : List (NlriValue × AttrsValue)) → Rising nlri_cmp fs → AreKeys (IsNlriOf V6) fs → AreKeys (IsNlriOf V6) (with_origin asn fs)
high_with asn fs s keys = keys_with asn (IsNlriOf V6) fs s keys

pub passes_low : (at : Bool) (place q : NlriValue) → place.prefix.address.family ≡ V4 → q.prefix.address.family ≡ V6 → passes nlri_cmp at place q ≡ true
passes_low true place q a b = from_low place q a b
passes_low false place q a b = after_low place q a b

pub not_passes_high : (at : Bool) (place q : NlriValue) → place.prefix.address.family ≡ V6 → q.prefix.address.family ≡ V4 → passes nlri_cmp at place q ≡ false
not_passes_high true place q a b = not_from_high place q a b
not_passes_high false place q a b = not_after_high place q a b
