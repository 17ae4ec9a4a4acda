-- Families by their numbers, and the list of the first ones as one more comes.
use Rattle.std.proofs.Common.{◌≡◌, inl, inr, ℕ, ◌+◌, ◌≤◌, Bool, true, false, cond, List, [], ◌∷◌, ◌++◌, length, refl, sym, ap, ◌∙◌, subst, arith, append_assoc, append-nil}
use Rattle.std.specs.Prelude.{◌==◌, ◌||◌, ⊤, not, nat_le, count_by}
use Rattle.std.specs.List.{list_any}
use Rattle.std.proofs.lemmas.Bool.{and_parts, and_from, cases_Bool, false≢true, or_parts}
use Rattle.std.proofs.lemmas.Bool.Decides.{Decides-eqb}
use Rattle.std.proofs.lemmas.List.Sums.{sum_by-cons, sum_by_push}
use Rattle.bmp_specs.specs.Values.{FamilyCodeValue}
use Rattle.ask_specs.specs.Connection.{first_others, most_others, same_family}

-- ---- one family
pub same_exact : (a b : FamilyCodeValue) → same_family a b ≡ true → a ≡ b
same_exact a b is =
    let parts = and_parts (a.afi == b.afi) (a.safi == b.safi) is in
    let afi : a.afi ≡ b.afi = (Decides-eqb a.afi b.afi).0 parts.0 in
    let safi : a.safi ≡ b.safi = (Decides-eqb a.safi b.safi).0 parts.1 in
    λ i. record { afi = afi i; safi = safi i }

pub same_itself : (a : FamilyCodeValue) → same_family a a ≡ true
same_itself a = and_from (a.afi == a.afi) (a.safi == a.safi) ((Decides-eqb a.afi a.afi).1 refl) ((Decides-eqb a.safi a.safi).1 refl)

pub same_turned : (a b : FamilyCodeValue) → same_family a b ≡ false → same_family b a ≡ false
same_turned a b apart = elim (cases_Bool (same_family b a)) [
  | inl is ↦ absurd (false≢true (sym apart ∙ ap (same_family a) (same_exact b a is) ∙ same_itself a))
  | inr isnt ↦ isnt
]

-- ---- tests of lists
any_pushed : {X : Type 0} (test : X → Bool) (xs : List X) (x : X) → list_any test (xs ++ x ∷ []) ≡ (list_any test xs || test x)
any_pushed test [] x = go (test x)
  where
    go : (b : Bool) → (b || false) ≡ (false || b)
    go true = refl
    go false = refl
any_pushed test (y ∷ ys) x = go (test y) (any_pushed test ys x)
  where
    go : (b : Bool) → list_any test (ys ++ x ∷ []) ≡ (list_any test ys || test x) → (b || list_any test (ys ++ x ∷ [])) ≡ ((b || list_any test ys) || test x)
    go true h = refl
    go false h = h

pub count_pushed : {X : Type 0} (test : X → Bool) (xs : List X) (x : X) → count_by test (xs ++ x ∷ []) ≡ count_by test xs + cond (test x) 1 0
count_pushed test xs x = sum_by_push (λ y. cond (test y) 1 0) xs x

-- what passes the first test passes the second one
pub count_less : {X : Type 0} (p q : X → Bool) → ((x : X) → p x ≡ true → q x ≡ true) → (xs : List X) → count_by p xs ≤ count_by q xs
count_less p q weaker [] = omega arith
count_less p q weaker (x ∷ xs) =
    let front : cond (p x) 1 0 ≤ cond (q x) 1 0 = go (p x) (weaker x) in
    omega (arith, sum_by-cons (λ y. cond (p y) 1 0) x xs, sum_by-cons (λ y. cond (q y) 1 0) x xs, count_less p q weaker xs)
  where
    go : (b : Bool) → (b ≡ true → q x ≡ true) → cond b 1 0 ≤ cond (q x) 1 0
    go true w = let e : cond {A = ℕ} (q x) 1 0 ≡ 1 = ap (λ (t : Bool). cond {A = ℕ} t 1 0) (w refl) in omega (arith, e)
    go false w = omega arith

-- ---- the first families
-- those that aren't among them
abbrev pub is_later : List FamilyCodeValue → FamilyCodeValue → Bool
is_later kept f = not (list_any (same_family f) kept)

-- with one more
abbrev pub one_more : List FamilyCodeValue → FamilyCodeValue → List FamilyCodeValue
one_more kept f = cond (list_any (same_family f) kept || nat_le most_others (length kept)) kept (kept ++ f ∷ [])

pub first_pushed : (kept all : List FamilyCodeValue) (f : FamilyCodeValue) → first_others kept (all ++ f ∷ []) ≡ one_more (first_others kept all) f
unfolding first_others
first_pushed kept [] f = refl
first_pushed kept (g ∷ gs) f = first_pushed (one_more kept g) gs f

-- each once
abbrev pub AreApart : List FamilyCodeValue → Type 0
AreApart [] = ⊤
AreApart (f ∷ fs) = (list_any (same_family f) fs ≡ false) × AreApart fs

-- each once, and all there were, as long as there is room
pub record AreFirst (all kept : List FamilyCodeValue) : Type 0 where
  pub apart : AreApart kept
  pub covers : nat_le most_others (length kept) ≡ false → count_by (is_later kept) all ≡ 0

apart_pushed : (kept : List FamilyCodeValue) (f : FamilyCodeValue) → AreApart kept → list_any (same_family f) kept ≡ false → AreApart (kept ++ f ∷ [])
apart_pushed [] f apart new = (refl, tt)
apart_pushed (g ∷ gs) f apart new =
    let parts = or_parts (same_family f g) (list_any (same_family f) gs) new in
    let others : (list_any (same_family g) gs || same_family g f) ≡ false = cc (apart.0, same_turned f g parts.0) in
    (any_pushed (same_family g) gs f ∙ others, apart_pushed gs f apart.1 parts.1)

-- a list of which nothing is there has nothing in a shorter test
none_less : {X : Type 0} (p q : X → Bool) → ((x : X) → p x ≡ true → q x ≡ true) → (xs : List X) → count_by q xs ≡ 0 → count_by p xs ≡ 0
none_less p q weaker xs none = omega (arith, count_less p q weaker xs, none)

module _ (all kept : List FamilyCodeValue) (f : FamilyCodeValue) where
  -- one that is among them
  pub known_counts : list_any (same_family f) kept ≡ true → count_by (is_later kept) (all ++ f ∷ []) ≡ count_by (is_later kept) all
  known_counts known = count_pushed (is_later kept) all f ∙ (let none : cond {A = ℕ} (is_later kept f) 1 0 ≡ 0 = ap (λ (b : Bool). cond {A = ℕ} (not b) 1 0) known in omega (arith, none))

  -- one for which there is no room
  pub later_counts : list_any (same_family f) kept ≡ false → count_by (is_later kept) (all ++ f ∷ []) ≡ count_by (is_later kept) all + 1
  later_counts new = count_pushed (is_later kept) all f ∙ (let one : cond {A = ℕ} (is_later kept f) 1 0 ≡ 1 = ap (λ (b : Bool). cond {A = ℕ} (not b) 1 0) new in omega (arith, one))

  -- one that comes among them
  later_still : (g : FamilyCodeValue) → is_later (kept ++ f ∷ []) g ≡ true → is_later kept g ≡ true
  later_still g later = go (list_any (same_family g) kept) (sym (ap not (any_pushed (same_family g) kept f)) ∙ later)
    where
      go : (b : Bool) → not (b || same_family g f) ≡ true → not b ≡ true
      go true l = l
      go false l = refl

  is_last : not (list_any (same_family f) (kept ++ f ∷ [])) ≡ false
  is_last = ap not (any_pushed (same_family f) kept f) ∙ go (list_any (same_family f) kept)
    where
      go : (b : Bool) → not (b || same_family f f) ≡ false
      go true = refl
      go false = ap not (same_itself f)

  pub pushed_counts : count_by (is_later kept) all ≡ 0 → count_by (is_later (kept ++ f ∷ [])) (all ++ f ∷ []) ≡ 0
  pushed_counts none =
      let before = none_less (is_later (kept ++ f ∷ [])) (is_later kept) later_still all none in
      let last : cond {A = ℕ} (is_later (kept ++ f ∷ []) f) 1 0 ≡ 0 = ap (λ (b : Bool). cond {A = ℕ} b 1 0) is_last in
      omega (arith, count_pushed (is_later (kept ++ f ∷ [])) all f, before, last)

  -- and there was none of it
  pub first_time : list_any (same_family f) kept ≡ false → count_by (is_later kept) all ≡ 0 → count_by (same_family f) all ≡ 0
  first_time new none = none_less (same_family f) (is_later kept) (λ g same. subst (λ (h : FamilyCodeValue). is_later kept h ≡ true) (same_exact f g same) (ap not new)) all none

  first_one : AreFirst all kept → AreFirst (all ++ f ∷ []) (one_more kept f)
  first_one first = go (list_any (same_family f) kept) (nat_le most_others (length kept)) refl refl
    where
      go : (known full : Bool) → list_any (same_family f) kept ≡ known → nat_le most_others (length kept) ≡ full → AreFirst (all ++ f ∷ []) (cond (known || full) kept (kept ++ f ∷ []))
      go true full known room = record { apart = first.apart; covers = λ r. known_counts known ∙ first.covers r }
      go false true known room = record { apart = first.apart; covers = λ r. absurd (false≢true (sym r ∙ room)) }
      go false false known room = record { apart = apart_pushed kept f first.apart known; covers = λ _. pushed_counts (first.covers room) }

are_first_from : (before kept all : List FamilyCodeValue) → AreFirst before kept → AreFirst (before ++ all) (first_others kept all)
unfolding first_others
are_first_from before kept [] first = subst (λ (l : List FamilyCodeValue). AreFirst l kept) (sym (append-nil before)) first
are_first_from before kept (f ∷ fs) first =
    subst (λ (l : List FamilyCodeValue). AreFirst l (first_others (one_more kept f) fs)) (append_assoc before (f ∷ []) fs)
    (are_first_from (before ++ f ∷ []) (one_more kept f) fs (first_one before kept f first))

pub are_first : (all : List FamilyCodeValue) → AreFirst all (first_others [] all)
are_first all = are_first_from [] [] all (record { apart = tt; covers = λ _. refl })
