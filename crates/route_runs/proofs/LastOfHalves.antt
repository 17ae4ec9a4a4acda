-- The last pair of a list of IPv4 pairs and behind it one of IPv6 pairs.
use Rattle.std.proofs.Common.{◌≡◌, ◌++◌, Bool, true, false, not, List, Option, None, Some, refl, ap, sym, ◌∙◌, subst}
use Rattle.std.specs.Option.{is_some, option_map}
use Rattle.bmp_specs.specs.declared.wire.Family.{Family}
use Rattle.bmp_specs.specs.declared.wire.Family.TheVariants.{V4, V6}
use Rattle.bmp_specs.specs.Orders.{nlri_cmp}
use Rattle.bmp_specs.specs.Values.{NlriValue}
use Rattle.route_runs.specs.Nlri.{AreHalves}
use Rattle.route_runs.specs.Override.{value_at, or_else}
use Rattle.route_runs.specs.Places.{turned, is_from, IsFirst, IsFirstPair}
use Rattle.route_runs.proofs.Halves.{value_cat, value_low, value_high, low_none, high_none, after_low, not_after_high}
use Rattle.route_runs.proofs.Searching.{not_both}

-- an NLRI is of one family or the other
of_family : {P : Type 0} (q : NlriValue) → (q.prefix.address.family ≡ V4 → P) → (q.prefix.address.family ≡ V6 → P) → P
of_family {P = P} q low high = cases q.prefix.address.family refl
  where
    cases : (f : Family) → q.prefix.address.family ≡ f → P
    cases V4 e = low e
    cases V6 e = high e

module _ {X : Type 0} (es fs : List (NlriValue × X)) (halves : AreHalves es fs) (test : NlriValue → Bool) where
  abbrev last_of_both : Option (NlriValue × X) → Type 0
  last_of_both r = IsFirst (turned nlri_cmp) test (λ q. value_at nlri_cmp q (es ++ fs)) r

  pub last_high : (e : NlriValue × X) → IsFirstPair (turned nlri_cmp) test (λ q. value_at nlri_cmp q fs) e → IsFirstPair (turned nlri_cmp) test (λ q. value_at nlri_cmp q (es ++ fs)) e
  last_high e f =
      let high : e.0.prefix.address.family ≡ V6 = (halves.high e.0 (ap is_some f.there)).family in
      record {
        there = value_high es fs halves e.0 high ∙ f.there;
        beyond = f.beyond;
        first = λ q passes has. of_family q (not_after_high e.0 q high) (λ h. f.first q passes (ap is_some (sym (value_high es fs halves q h)) ∙ has));
      }

  pub last_low : ((q : NlriValue) → test q ≡ true → value_at nlri_cmp q fs ≡ None) → (r : Option (NlriValue × X)) → IsFirst (turned nlri_cmp) test (λ q. value_at nlri_cmp q es) r → last_of_both r
  last_low none None f = λ q passes. value_cat q es fs ∙ ap (λ o. or_else o (value_at nlri_cmp q fs)) (f q passes) ∙ none q passes
  last_low none (Some e) f = record {
    there = value_low es fs halves e.0 (halves.low e.0 (ap is_some f.there)).family ∙ f.there;
    beyond = f.beyond;
    first = λ q passes has. of_family q
        (λ l. f.first q passes (ap is_some (sym (value_low es fs halves q l)) ∙ has))
        (λ h. absurd (not_both (is_some (value_at nlri_cmp q (es ++ fs))) has (ap is_some (value_high es fs halves q h ∙ none q passes))));
  }

  -- tests that agree on all of the low half
  pub other_low : (test' : NlriValue → Bool) → ((q : NlriValue) → q.prefix.address.family ≡ V4 → test' q ≡ test q) → (r : Option (NlriValue × X)) → IsFirst (turned nlri_cmp) test' (λ q. value_at nlri_cmp q es) r → IsFirst (turned nlri_cmp) test (λ q. value_at nlri_cmp q es) r
  other_low test' same None f = λ q passes. of_family q (λ l. f q (same q l ∙ passes)) (low_none es fs halves q)
  other_low test' same (Some e) f = record {
    there = f.there;
    beyond = sym (same e.0 (halves.low e.0 (ap is_some f.there)).family) ∙ f.beyond;
    first = λ q passes has. f.first q (same q (halves.low q has).family ∙ passes) has;
  }

  -- the last one of the high half, or else the last one of the low half, all of which pass
  pub joined_last : ((q : NlriValue) → q.prefix.address.family ≡ V4 → test q ≡ true) → {Y : Type 0} (g : Y → NlriValue × X) (x : Option Y) (s : Option (NlriValue × X)) → IsFirst (turned nlri_cmp) test (λ q. value_at nlri_cmp q fs) (option_map g x)
      → (is_some x ≡ true → s ≡ option_map g x) → (is_some x ≡ false → IsFirst (turned nlri_cmp) (λ q. true) (λ q. value_at nlri_cmp q es) s) → last_of_both s
  joined_last all g None s f some none = last_low f s (other_low (λ q. true) (λ q l. sym (all q l)) s (none refl))
  joined_last all g (Some y) s f some none = subst last_of_both (sym (some refl)) (last_high (g y) f)

  -- where none of the high half passes
  pub last_alone : ((q : NlriValue) → q.prefix.address.family ≡ V6 → test q ≡ false) → (r : Option (NlriValue × X)) → IsFirst (turned nlri_cmp) test (λ q. value_at nlri_cmp q es) r → last_of_both r
  last_alone fails r f = last_low (λ q passes. of_family q (high_none es fs halves q) (λ h. absurd (not_both (test q) passes (fails q h)))) r f

-- ---- places
pub up_to_high : (place q : NlriValue) → place.prefix.address.family ≡ V6 → q.prefix.address.family ≡ V4 → is_from (turned nlri_cmp) place q ≡ true
up_to_high place q a b = ap not (not_after_high place q a b)

pub not_up_to_low : (place q : NlriValue) → place.prefix.address.family ≡ V4 → q.prefix.address.family ≡ V6 → is_from (turned nlri_cmp) place q ≡ false
not_up_to_low place q a b = ap not (after_low place q a b)
