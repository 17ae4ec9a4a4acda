-- A list of IPv4 pairs and behind it one of IPv6 pairs.
use Rattle.std.proofs.Common.{◌≡◌, ◌++◌, inl, inr, ◌⊎◌, Bool, true, false, not, cond, List, [], ◌∷◌, Option, None, Some, refl, ap, sym, ◌∙◌, subst, append-nil}
use Rattle.std.specs.declared.cmp.Ordering.TheVariants.{Less, Greater}
use Rattle.std.proofs.lemmas.List.Elements.{filter-append}
use Rattle.std.specs.BTreeMap.{is_at}
use Rattle.std.specs.List.{AllByRecursion}
use Rattle.std.specs.Option.{is_some, option_map}
use Rattle.std.specs.Ordering.{is_lt}
use Rattle.bmp_specs.specs.declared.wire.Family.{Family}
use Rattle.bmp_specs.specs.declared.wire.Family.TheVariants.{V4, V6}
use Rattle.bmp_specs.specs.Orders.{nlri_cmp}
use Rattle.bmp_specs.specs.Values.{NlriValue}
use Rattle.route_runs.specs.Nlri.{IsNlriOf, AreNlri, AreKeys, AreHalves, is_family, is_same, with_family}
use Rattle.route_runs.specs.Override.{value_at, or_else}
use Rattle.route_runs.specs.Places.{is_after, is_from, IsFirst, IsFirstPair}
use Rattle.route_runs.proofs.Merging.{Rising, rising_cons, rising_head, rising_tail}
use Rattle.route_runs.proofs.Nearer.{listed_has}
use Rattle.route_runs.proofs.WithOrigin.{all_listed}

-- ---- what a joined list has
value_cases : {X : Type 0} (b : Bool) (x : X) (a c d : Option X) → d ≡ or_else a c → cond b (Some x) d ≡ or_else (cond b (Some x) a) c
value_cases true x a c d e = refl
value_cases false x a c d e = e

pub value_cat : {X : Type 0} (q : NlriValue) (low high : List (NlriValue × X)) → value_at nlri_cmp q (low ++ high) ≡ or_else (value_at nlri_cmp q low) (value_at nlri_cmp q high)
value_cat q [] high = refl
value_cat q (e ∷ low) high = value_cases (is_at (nlri_cmp q) e.0) e.1 (value_at nlri_cmp q low) (value_at nlri_cmp q high) (value_at nlri_cmp q (low ++ high)) (value_cat q low high)

-- every one is of one family or the other
low_before : (x y : NlriValue) → x.prefix.address.family ≡ V4 → y.prefix.address.family ≡ V6 → nlri_cmp x y ≡ Less
low_before x y a b = rw (a, b) refl

high_after : (x y : NlriValue) → x.prefix.address.family ≡ V6 → y.prefix.address.family ≡ V4 → nlri_cmp x y ≡ Greater
high_after x y a b = rw (a, b) refl

by_some : {X : Type 0} (P : Type 0) (o : Option X) → (is_some o ≡ true → P) → (P → ⊥) → o ≡ None
by_some P None h n = refl
by_some P (Some x) h n = absurd (n (h refl))

none_if : {X : Type 0} (o : Option X) → (is_some o ≡ true → o ≡ None) → o ≡ None
none_if None h = refl
none_if (Some x) h = h refl

is_both : (f : Family) → f ≡ V4 → f ≡ V6 → ⊥
is_both f a b = let clash : V4 ≡ V6 = sym a ∙ b in absurd cc

module _ {X : Type 0} (low high : List (NlriValue × X)) (halves : AreHalves low high) where
  pub low_none : (q : NlriValue) → q.prefix.address.family ≡ V6 → value_at nlri_cmp q low ≡ None
  low_none q f = by_some (q.prefix.address.family ≡ V4) (value_at nlri_cmp q low) (λ h. (halves.low q h).family) (λ a. is_both q.prefix.address.family a f)

  pub high_none : (q : NlriValue) → q.prefix.address.family ≡ V4 → value_at nlri_cmp q high ≡ None
  high_none q f = by_some (q.prefix.address.family ≡ V6) (value_at nlri_cmp q high) (λ h. (halves.high q h).family) (λ b. is_both q.prefix.address.family f b)

  pub value_low : (q : NlriValue) → q.prefix.address.family ≡ V4 → value_at nlri_cmp q (low ++ high) ≡ value_at nlri_cmp q low
  value_low q f = value_cat q low high ∙ ap (or_else (value_at nlri_cmp q low)) (high_none q f) ∙ or_none (value_at nlri_cmp q low)
    where
      or_none : (a : Option X) → or_else a None ≡ a
      or_none None = refl
      or_none (Some x) = refl

  pub value_high : (q : NlriValue) → q.prefix.address.family ≡ V6 → value_at nlri_cmp q (low ++ high) ≡ value_at nlri_cmp q high
  value_high q f = value_cat q low high ∙ ap (λ o. or_else o (value_at nlri_cmp q high)) (low_none q f)

some_of_both : {X : Type 0} (a b : Option X) → is_some (or_else a b) ≡ true → (is_some a ≡ true) ⊎ (is_some b ≡ true)
some_of_both None b h = inr h
some_of_both (Some x) b h = inl refl

pub nlri_cat : {X : Type 0} (es fs : List (NlriValue × X)) → AreHalves es fs → AreNlri (es ++ fs)
nlri_cat es fs halves q has = elim (some_of_both (value_at nlri_cmp q es) (value_at nlri_cmp q fs) (ap is_some (sym (value_cat q es fs)) ∙ has)) [
  | inl h ↦ (halves.low q h).nlri
  | inr h ↦ (halves.high q h).nlri
]

-- ---- the order of a joined list
pub all_cat : {Y : Type 0} (P : Y → Type 0) (xs ys : List Y) → AllByRecursion P xs → AllByRecursion P ys → AllByRecursion P (xs ++ ys)
all_cat P [] ys a b = b
all_cat P (x ∷ xs) ys a b = (a.0, all_cat P xs ys a.1 b)

all_to : {Y : Type 0} (P Q : Y → Type 0) (xs : List Y) → ((y : Y) → P y → Q y) → AllByRecursion P xs → AllByRecursion Q xs
all_to P Q [] h a = tt
all_to P Q (x ∷ xs) h a = (h x a.0, all_to P Q xs h a.1)

pub keys_are : {X : Type 0} (P : NlriValue → Type 0) (es : List (NlriValue × X)) → AreKeys P es → AllByRecursion (λ (e : NlriValue × X). P e.0) es
keys_are {X = X} P es h = all_listed (λ (e : NlriValue × X). P e.0) es (λ e c. h e.0 (listed_has es e c))

rising_both : {X : Type 0} (es fs : List (NlriValue × X)) → AllByRecursion (λ (e : NlriValue × X). IsNlriOf V4 e.0) es → AllByRecursion (λ (e : NlriValue × X). IsNlriOf V6 e.0) fs → Rising nlri_cmp es → Rising nlri_cmp fs → Rising nlri_cmp (es ++ fs)
rising_both [] fs a b r s = s
rising_both {X = X} (e ∷ es) fs a b r s =
    rising_cons nlri_cmp e (es ++ fs)
    (all_cat (λ (f : NlriValue × X). nlri_cmp e.0 f.0 ≡ Less) es fs (rising_head nlri_cmp e es r) (all_to (λ (f : NlriValue × X). IsNlriOf V6 f.0) (λ (f : NlriValue × X). nlri_cmp e.0 f.0 ≡ Less) fs (λ f h. low_before e.0 f.0 a.0.family h.family) b))
    (rising_both es fs a.1 b (rising_tail nlri_cmp e es r) s)

pub rising_cat : {X : Type 0} (es fs : List (NlriValue × X)) → AreHalves es fs → Rising nlri_cmp es → Rising nlri_cmp fs → Rising nlri_cmp (es ++ fs)
rising_cat es fs h r s = rising_both es fs (keys_are (IsNlriOf V4) es h.low) (keys_are (IsNlriOf V6) fs h.high) r s

-- ---- the pairs of a family
same_itself : (f : Family) → is_same f f ≡ true
same_itself V4 = refl
same_itself V6 = refl

all_kept : {X : Type 0} (family : Family) (es : List (NlriValue × X)) → AllByRecursion (λ (e : NlriValue × X). IsNlriOf family e.0) es → with_family family es ≡ es
all_kept family [] a = refl
all_kept family (e ∷ es) a =
    let kept : is_family family e.0 ≡ true = ap (λ (f : Family). is_same f family) a.0.family ∙ same_itself family in
    rw (kept, all_kept family es a.1) refl

none_kept : {X : Type 0} (family other : Family) (es : List (NlriValue × X)) → is_same other family ≡ false → AllByRecursion (λ (e : NlriValue × X). IsNlriOf other e.0) es → with_family family es ≡ []
none_kept family other [] differ a = refl
none_kept family other (e ∷ es) differ a =
    let dropped : is_family family e.0 ≡ false = ap (λ (f : Family). is_same f family) a.0.family ∙ differ in
    rw (dropped, none_kept family other es differ a.1) refl

pub low_of_family : {X : Type 0} (es fs : List (NlriValue × X)) → AreHalves es fs → with_family V4 (es ++ fs) ≡ es
low_of_family {X = X} es fs h =
    filter-append (λ (e : NlriValue × X). is_family V4 e.0) es fs ∙ ap (λ l. l ++ with_family V4 fs) (all_kept V4 es (keys_are (IsNlriOf V4) es h.low)) ∙ ap (λ l. es ++ l) (none_kept V4 V6 fs refl (keys_are (IsNlriOf V6) fs h.high)) ∙ append-nil es

pub high_of_family : {X : Type 0} (es fs : List (NlriValue × X)) → AreHalves es fs → with_family V6 (es ++ fs) ≡ fs
high_of_family {X = X} es fs h =
    filter-append (λ (e : NlriValue × X). is_family V6 e.0) es fs ∙ ap (λ l. l ++ with_family V6 fs) (none_kept V6 V4 es refl (keys_are (IsNlriOf V4) es h.low)) ∙ all_kept V6 fs (keys_are (IsNlriOf V6) fs h.high)

-- ---- the first pair of a joined list
module _ {X : Type 0} (es fs : List (NlriValue × X)) (halves : AreHalves es fs) (test : NlriValue → Bool) where
  abbrev first_of_both : Option (NlriValue × X) → Type 0
  first_of_both r = IsFirst nlri_cmp test (λ q. value_at nlri_cmp q (es ++ fs)) r

  has_of : (q : NlriValue) → is_some (value_at nlri_cmp q (es ++ fs)) ≡ true → (is_some (value_at nlri_cmp q es) ≡ true) ⊎ ((value_at nlri_cmp q es ≡ None) × (is_some (value_at nlri_cmp q fs) ≡ true))
  has_of q h = cases (value_at nlri_cmp q es) (value_at nlri_cmp q fs) refl (ap is_some (sym (value_cat q es fs)) ∙ h)
    where
      cases : (a b : Option X) → value_at nlri_cmp q es ≡ a → is_some (or_else a b) ≡ true → (is_some (value_at nlri_cmp q es) ≡ true) ⊎ ((value_at nlri_cmp q es ≡ None) × (is_some b ≡ true))
      cases None b e h = inr (e, h)
      cases (Some x) b e h = inl (ap is_some e)

  pub first_low : (e : NlriValue × X) → IsFirstPair nlri_cmp test (λ q. value_at nlri_cmp q es) e → IsFirstPair nlri_cmp test (λ q. value_at nlri_cmp q (es ++ fs)) e
  first_low e f =
      let low : e.0.prefix.address.family ≡ V4 = (halves.low e.0 (ap is_some f.there)).family in
      record {
        there = value_low es fs halves e.0 low ∙ f.there;
        beyond = f.beyond;
        first = λ q passes has. elim (has_of q has) [
          | inl h ↦ f.first q passes h
          | inr h ↦ ap is_lt (high_after q e.0 (halves.high q h.1).family low)
        ];
      }

  pub first_high : ((q : NlriValue) → test q ≡ true → value_at nlri_cmp q es ≡ None) → (r : Option (NlriValue × X)) → IsFirst nlri_cmp test (λ q. value_at nlri_cmp q fs) r → first_of_both r
  first_high none None f = λ q passes. value_cat q es fs ∙ ap (λ o. or_else o (value_at nlri_cmp q fs)) (none q passes) ∙ f q passes
  first_high none (Some e) f = record {
    there = value_cat e.0 es fs ∙ ap (λ o. or_else o (value_at nlri_cmp e.0 fs)) (none e.0 f.beyond) ∙ f.there;
    beyond = f.beyond;
    first = λ q passes has. elim (has_of q has) [
      | inl h ↦ absurd (some_none (value_at nlri_cmp q es) h (none q passes))
      | inr h ↦ f.first q passes h.1
    ];
  }
    where
      some_none : (o : Option X) → is_some o ≡ true → o ≡ None → ⊥
      some_none o h e = let clash : false ≡ true = sym (ap is_some e) ∙ h in absurd cc

  -- tests that agree on all that is there
  pub other_test : (test' : NlriValue → Bool) → ((q : NlriValue) → IsNlriOf V6 q → test' q ≡ test q) → (r : Option (NlriValue × X)) → IsFirst nlri_cmp test' (λ q. value_at nlri_cmp q fs) r → IsFirst nlri_cmp test (λ q. value_at nlri_cmp q fs) r
  other_test test' same None f = λ q passes. none_if (value_at nlri_cmp q fs) (λ h. f q (same q (halves.high q h) ∙ passes))
  other_test test' same (Some e) f = record {
    there = f.there;
    beyond = sym (same e.0 (halves.high e.0 (ap is_some f.there))) ∙ f.beyond;
    first = λ q passes has. f.first q (same q (halves.high q has) ∙ passes) has;
  }

  -- the first one of the low half, or else the first one of the high half, all of which pass
  pub joined_first : ((q : NlriValue) → q.prefix.address.family ≡ V6 → test q ≡ true) → (r s : Option (NlriValue × X)) → IsFirst nlri_cmp test (λ q. value_at nlri_cmp q es) r
      → (is_some r ≡ true → s ≡ r) → (is_some r ≡ false → IsFirst nlri_cmp (λ q. true) (λ q. value_at nlri_cmp q fs) s) → first_of_both s
  joined_first all None s f some none = first_high f s (other_test (λ q. true) (λ q h. sym (all q h.family)) s (none refl))
  joined_first all (Some e) s f some none = subst first_of_both (sym (some refl)) (first_low e f)

  -- where none of the low half passes
  pub first_alone : ((q : NlriValue) → q.prefix.address.family ≡ V4 → test q ≡ false) → (r : Option (NlriValue × X)) → IsFirst nlri_cmp test (λ q. value_at nlri_cmp q fs) r → first_of_both r
  first_alone fails r f = first_high (λ q passes. by_some (q.prefix.address.family ≡ V4) (value_at nlri_cmp q es) (λ h. (halves.low q h).family) (λ low. let clash : true ≡ false = sym passes ∙ fails q low in absurd cc)) r f

  pub joined_map : ((q : NlriValue) → q.prefix.address.family ≡ V6 → test q ≡ true) → {Y : Type 0} (g : Y → NlriValue × X) (x : Option Y) (s : Option (NlriValue × X)) → IsFirst nlri_cmp test (λ q. value_at nlri_cmp q es) (option_map g x)
      → (is_some x ≡ true → s ≡ option_map g x) → (is_some x ≡ false → IsFirst nlri_cmp (λ q. true) (λ q. value_at nlri_cmp q fs) s) → first_of_both s
  joined_map all g None s f some none = joined_first all None s f some none
  joined_map all g (Some y) s f some none = joined_first all (Some (g y)) s f some none

-- ---- places
pub after_low : (place q : NlriValue) → place.prefix.address.family ≡ V4 → q.prefix.address.family ≡ V6 → is_after nlri_cmp (Some place) q ≡ true
after_low place q a b = ap is_lt (low_before place q a b)

pub not_after_high : (place q : NlriValue) → place.prefix.address.family ≡ V6 → q.prefix.address.family ≡ V4 → is_after nlri_cmp (Some place) q ≡ false
not_after_high place q a b = ap is_lt (high_after place q a b)

pub from_low : (place q : NlriValue) → place.prefix.address.family ≡ V4 → q.prefix.address.family ≡ V6 → is_from nlri_cmp place q ≡ true
from_low place q a b = ap (λ o. not (is_lt o)) (high_after q place b a)

pub not_from_high : (place q : NlriValue) → place.prefix.address.family ≡ V6 → q.prefix.address.family ≡ V4 → is_from nlri_cmp place q ≡ false
not_from_high place q a b = ap (λ o. not (is_lt o)) (low_before q place b a)
