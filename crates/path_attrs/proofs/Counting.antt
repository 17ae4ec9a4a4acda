-- The attributes of a field counted, and their types marked, as the loop does.
use Rattle.std.proofs.Common.{◌≡◌, ◌≢◌, ◌+◌, ◌≤◌, ◌<◌, ℕ, zero, suc, Bool, true, false, eqb, ◌||◌, List, [], ◌∷◌, ◌++◌, length, get_or, set, map, replicate, refl, sym, ap, subst, ◌∙◌, arith, length-append, length-set}
use Rattle.std.specs.Prelude.{◌==◌}
use Rattle.std.specs.List.{AllByRecursion, IsDistinct, list_any}
use Rattle.std.specs.Cmp.{nat_eq_equiv}
use Rattle.std.proofs.lemmas.Grind.{get_or-set_at}
use Rattle.std.proofs.lemmas.List.{get_or-set_other, map-append, length-map}
use Rattle.std.proofs.lemmas.List.Folds.{list_any-append}
use Rattle.std.proofs.lemmas.Bool.Decides.{nat_tests}
use Rattle.std.proofs.lemmas.Map.Keys.{IsDistinct-push, IsDistinct-head, IsDistinct-tail}
use Rattle.std.proofs.lemmas.Map.Steps.{length-le_from_distinct_below}
use Rattle.bmp_specs.specs.Attribute.{IsAttribute}
use Rattle.bmp_specs.specs.Parts.{AreParts}
use Rattle.bmp_specs.specs.Sequence.{HasFront}
use Rattle.bmp_specs.specs.Values.{OtherValue}
use Rattle.bmp_specs.proofs.AttributesOne.{attribute_code}
use Rattle.bmp_specs.proofs.PartsRead.{HasRead, HasRead-nil, HasRead-front, HasRead-none}
use Rattle.path_attrs.proofs.Reading.{front_part}

abbrev pub codes_of : List OtherValue → List ℕ
codes_of parts = map (λ a. a.code) parts

-- the attributes up to the rest were counted, and exactly their types are marked
pub record Counts (field rest : List ℕ) (seen : List Bool) (count : ℕ) : Type 0 where
  pub parts : List OtherValue
  pub read : HasRead IsAttribute field parts rest
  pub distinct : IsDistinct (λ j k. j == k) (codes_of parts)
  pub marks : (k : ℕ) → get_or seen k false ≡ list_any (eqb k) (codes_of parts)
  pub wide : length seen ≡ 256
  pub count_is : count ≡ length parts

-- nothing is marked at first
pub falses : (n k : ℕ) → get_or (replicate n false) k false ≡ false
falses zero k = refl
falses (suc n) zero = refl
falses (suc n) (suc k) = falses n k

pub none_distinct : IsDistinct (λ j k. j == k) []
unfolding IsDistinct
none_distinct = tt

abbrev pub counts_first : (field : List ℕ) → Counts field field (replicate 256 false) 0
counts_first field = record { parts = []; read = HasRead-nil IsAttribute field; distinct = none_distinct; marks = falses 256; wide = refl; count_is = refl }

-- a mark more
pub mark_more : (seen : List Bool) (codes : List ℕ) (c k : ℕ) → c < length seen → get_or seen k false ≡ list_any (eqb k) codes
    → get_or (set seen c true) k false ≡ (list_any (eqb k) codes || (eqb k c || false))
mark_more seen codes c k lt e = go (eqb k c) refl
  where
    with_true : (b : Bool) → true ≡ (b || (true || false))
    with_true true = refl
    with_true false = refl

    with_false : (b : Bool) → b ≡ (b || (false || false))
    with_false true = refl
    with_false false = refl

    go : (b : Bool) → eqb k c ≡ b → get_or (set seen c true) k false ≡ (list_any (eqb k) codes || (eqb k c || false))
    go true p =
        let same : k ≡ c = grind (arith, nat_tests) in
        get_or-set_at seen c k true false same lt ∙ with_true (list_any (eqb k) codes) ∙ ap (λ (b : Bool). list_any (eqb k) codes || (b || false)) (sym p)
    go false p =
        let apart : k ≢ c = grind (arith, nat_tests) in
        get_or-set_other seen c k true false apart ∙ e ∙ with_false (list_any (eqb k) codes) ∙ ap (λ (b : Bool). list_any (eqb k) codes || (b || false)) (sym p)

-- only types below 256 are marked
marked_below : (seen : List Bool) (k : ℕ) → get_or seen k false ≡ true → k < length seen
marked_below [] k e = absurd cc
marked_below (b ∷ seen) zero e = omega arith
marked_below (b ∷ seen) (suc k) e = omega (arith, marked_below seen k e)

pub counts_most : (field rest : List ℕ) (seen : List Bool) (count : ℕ) → Counts field rest seen count → count ≤ 256
counts_most field rest seen count c =
    let below : (q : ℕ) → list_any (eqb q) (codes_of c.parts) ≡ true → q < 256 = λ q e. omega (arith, c.wide, marked_below seen q (c.marks q ∙ e)) in
    omega (arith, c.count_is, length-map c.parts (λ (a : OtherValue). a.code), length-le_from_distinct_below (codes_of c.parts) 256 c.distinct below)

abbrev pub counts_more : (field rest after : List ℕ) (seen : List Bool) (count : ℕ) (a : OtherValue) → Counts field rest seen count → HasFront IsAttribute rest a after → a.code < 256 → get_or seen a.code false ≡ false
    → Counts field after (set seen a.code true) (count + 1)
counts_more field rest after seen count a c here fits fresh =
    let codes = codes_of c.parts in
    let together : codes_of (c.parts ++ a ∷ []) ≡ codes ++ a.code ∷ [] = map-append (λ (d : OtherValue). d.code) c.parts (a ∷ []) in
    record {
      parts = c.parts ++ a ∷ [];
      read = HasRead-front IsAttribute attribute_code field c.parts rest after a c.read here;
      distinct = subst (λ (l : List ℕ). IsDistinct (λ j k. j == k) l) (sym together) (IsDistinct-push nat_eq_equiv codes a.code c.distinct (sym (c.marks a.code) ∙ fresh));
      marks = λ k. mark_more seen codes a.code k (omega (arith, fits, c.wide)) (c.marks k) ∙ sym (ap (λ (l : List ℕ). list_any (eqb k) l) together ∙ list_any-append (eqb k) codes (a.code ∷ []));
      wide = length-set seen a.code true ∙ c.wide;
      count_is = omega (arith, c.count_is, length-append c.parts (a ∷ []));
    }

all_at : (P : ℕ → Type 0) (xs zs : List ℕ) (y : ℕ) → AllByRecursion P (xs ++ y ∷ zs) → P y
all_at P [] zs y p = p.0
all_at P (x ∷ xs) zs y p = all_at P xs zs y p.1

-- a type that is marked stands there twice
pub twice : (xs zs : List ℕ) (y : ℕ) → list_any (eqb y) xs ≡ true → IsDistinct (λ j k. j == k) (xs ++ y ∷ zs) → ⊥
twice [] zs y e d = absurd cc
twice (x ∷ xs) zs y e d =
    let apart : eqb x y ≡ false = all_at (λ z. eqb x z ≡ false) xs zs y (IsDistinct-head (λ j k. j == k) x (xs ++ y ∷ zs) d) in
    let other : eqb y x ≡ false = nat_eq_equiv.symm y x ∙ apart in
    twice xs zs y (ap (λ (b : Bool). b || list_any (eqb y) xs) (sym other) ∙ e) (IsDistinct-tail (λ j k. j == k) x (xs ++ y ∷ zs) d)

-- an attribute of a type that was read stands there
pub stands_twice : (field rest after : List ℕ) (read : List OtherValue) (a : OtherValue) → HasRead IsAttribute field read rest → HasFront IsAttribute rest a after → list_any (eqb a.code) (codes_of read) ≡ true
    → (parts : List OtherValue) → AreParts IsAttribute field parts → IsDistinct (λ j k. j == k) (codes_of parts) → ⊥
stands_twice field rest after read a has here marked parts are distinct =
    let q = has.only parts are in
    let r = front_part rest after a q.0 here q.2 in
    let together : codes_of parts ≡ codes_of read ++ a.code ∷ codes_of r.0 =
    ap codes_of (q.1 ∙ ap (λ (l : List OtherValue). read ++ l) r.1) ∙ map-append (λ (d : OtherValue). d.code) read (a ∷ r.0) in
    twice (codes_of read) (codes_of r.0) a.code marked (subst (λ (l : List ℕ). IsDistinct (λ j k. j == k) l) together distinct)

pub counts_twice : (field rest after : List ℕ) (seen : List Bool) (count : ℕ) (a : OtherValue) → Counts field rest seen count → HasFront IsAttribute rest a after → get_or seen a.code false ≡ true
    → (parts : List OtherValue) → AreParts IsAttribute field parts → IsDistinct (λ j k. j == k) (codes_of parts) → ⊥
counts_twice field rest after seen count a c here marked = stands_twice field rest after c.parts a c.read here (sym (c.marks a.code) ∙ marked)

pub counts_stuck : (field rest : List ℕ) (seen : List Bool) (count : ℕ) → Counts field rest seen count → 0 < length rest → ((a : OtherValue) (after : List ℕ) → HasFront IsAttribute rest a after → ⊥)
    → (parts : List OtherValue) → AreParts IsAttribute field parts → ⊥
counts_stuck field rest seen count c left none parts are = HasRead-none IsAttribute field c.parts rest c.read left none parts are
