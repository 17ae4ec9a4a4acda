-- A family that is told by name, counted at its place.
use Rattle.std.proofs.Common.{◌≡◌, inl, inr, ℕ, ◌+◌, ◌<◌, ◌≤◌, zero, suc, Bool, true, false, cond, List, [], ◌∷◌, length, get_or, Some, None, refl, sym, ap, ◌∙◌, arith}
use Rattle.std.specs.Prelude.{◌||◌, not, position, slice_set}
use Rattle.std.specs.List.{list_any, position_or_len}
use Rattle.std.proofs.lemmas.Bool.{cases_lt, cond-true, cond-false, lt-ltb, or_left}
use Rattle.std.proofs.lemmas.List.Quantifiers.{position-Some}
use Rattle.bmp_specs.specs.Reply.{told_count}
use Rattle.bmp_specs.specs.Values.{FamilyCodeValue}
use Rattle.ask_specs.specs.Connection.{FamilyCountValue, same_family}
use Rattle.stats_book.specs.Others.{counted, is_named}

-- ---- none passes where there is no place
module _ {X : Type 0} (test : X → Bool) where
  none_before : (xs : List X) → length xs ≤ position_or_len test xs → list_any test xs ≡ false
  none_before [] long = refl
  none_before (x ∷ xs) long = go (test x) long (λ l. none_before xs l)
    where
      go : (b : Bool) → length (x ∷ xs) ≤ cond (not b) (1 + position_or_len test xs) 0 → (length xs ≤ position_or_len test xs → list_any test xs ≡ false) → (b || list_any test xs) ≡ false
      go true l rest = absurd (omega (arith, l))
      go false l rest = rest (omega (arith, l))

  pub none_placed : (xs : List X) → None ≡ position test xs → list_any test xs ≡ false
  none_placed xs none = elim (cases_lt (position_or_len test xs) (length xs)) [
    | inl below ↦ let some : None ≡ Some (position_or_len test xs) = none ∙ cond-true _ _ _ (lt-ltb _ _ below) in absurd cc
    | inr over ↦ none_before xs over
  ]

  pub one_placed : (xs : List X) (i : ℕ) (d : X) → i < length xs → test (get_or xs i d) ≡ true → list_any test xs ≡ true
  one_placed [] i d within is = absurd (omega arith)
  one_placed (x ∷ xs) zero d within is = or_left (test x) (list_any test xs) is
  one_placed (x ∷ xs) (suc i) d within is = go (test x) (one_placed xs i d (omega arith) is)
    where
      go : (b : Bool) → list_any test xs ≡ true → (b || list_any test xs) ≡ true
      go true h = refl
      go false h = h

-- ---- counted at its place
abbrev pub with_one : FamilyCountValue → FamilyCountValue
with_one o = record { family = o.family; count = told_count (o.count + 1) }

module _ (f : FamilyCodeValue) where
  -- those that aren't it stay
  pub uncounted : (xs : List FamilyCountValue) → is_named f xs ≡ false → xs ≡ counted f xs
  uncounted [] none = refl
  uncounted (x ∷ xs) none = go (same_family f x.family) none (uncounted xs)
    where
      go : (b : Bool) → (b || is_named f xs) ≡ false → (is_named f xs ≡ false → xs ≡ counted f xs) → x ∷ xs ≡ cond b (with_one x ∷ xs) (x ∷ counted f xs)
      go true n rest = absurd cc
      go false n rest = ap (λ (l : List FamilyCountValue). x ∷ l) (rest n)

  counted_at : (xs : List FamilyCountValue) (i : ℕ) (d : FamilyCountValue) → i < length xs → same_family f (get_or xs i d).family ≡ true → ((k : ℕ) → k < i → same_family f (get_or xs k d).family ≡ false)
      → slice_set xs i (with_one (get_or xs i d)) ≡ counted f xs
  counted_at [] i d within is before = absurd (omega arith)
  counted_at (x ∷ xs) zero d within is before = sym (cond-true (same_family f x.family) _ _ is)
  counted_at (x ∷ xs) (suc i) d within is before =
      ap (λ (l : List FamilyCountValue). x ∷ l) (counted_at xs i d (omega arith) is (λ k below. before (suc k) (omega arith)))
      ∙ sym (cond-false (same_family f x.family) _ _ (before zero (omega arith)))

  pub counted_placed : (xs : List FamilyCountValue) (i : ℕ) (o : FamilyCountValue) → Some i ≡ position (λ y. same_family f y.family) xs → o ≡ get_or xs i o → (slice_set xs i (with_one o) ≡ counted f xs) × (true ≡ is_named f xs)
  counted_placed xs i o at is =
      let found = position-Some (λ (y : FamilyCountValue). same_family f y.family) xs i o (sym at) in
      (ap (λ (y : FamilyCountValue). slice_set xs i (with_one y)) is ∙ counted_at xs i o found.0 found.1 found.2, sym (one_placed (λ (y : FamilyCountValue). same_family f y.family) xs i o found.0 found.1))
