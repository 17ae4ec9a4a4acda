-- Bytes stand in the order of the numbers that they spell.
use Rattle.std.proofs.Common.{◌≡◌, ℕ, zero, suc, ◌+◌, ◌*◌, ◌<◌, ◌≤◌, List, [], ◌∷◌, length, take, drop, get_or, refl, sym, ap, subst, ◌∙◌, arith, length-drop}
use Rattle.std.proofs.lemmas.List.{get_or-drop, take_all}
use Rattle.std.specs.declared.cmp.Ordering.{Ordering}
use Rattle.std.specs.declared.cmp.Ordering.TheVariants.{Less, Equal, Greater}
use Rattle.std.specs.Cmp.{ranks, nat_cmp_is}
use Rattle.std.specs.Cmp.Lexicographic.{slice_cmp}
use Rattle.std.specs.Ordering.{nat_cmp, ordering_then, MatchOrdering}
use Rattle.std.specs.Slice.Scan.{big_endian}

then_equal : (r : Ordering) → ordering_then r Equal ≡ r
then_equal Less = refl
then_equal Equal = refl
then_equal Greater = refl

then_assoc : (r s t : Ordering) → ordering_then (ordering_then r s) t ≡ ordering_then r (ordering_then s t)
then_assoc Less s t = refl
then_assoc Equal s t = refl
then_assoc Greater s t = refl

-- one more byte tells where the numbers before it tie
one_more : (a b x y : ℕ) → x < 256 → y < 256 → nat_cmp (a * 256 + x) (b * 256 + y) ≡ ordering_then (nat_cmp a b) (nat_cmp x y)
one_more a b x y p q = by (nat_cmp a b) (ranks a b)
  where
    last : a ≡ b → (r : Ordering) → MatchOrdering r (x < y) (x ≡ y) (y < x) → nat_cmp (a * 256 + x) (b * 256 + y) ≡ r
    last e Less l = let t : x < y = l in sym (nat_cmp_is (a * 256 + x) (b * 256 + y) Less (omega arith))
    last e Equal l = let t : x ≡ y = l in sym (nat_cmp_is (a * 256 + x) (b * 256 + y) Equal (omega arith))
    last e Greater l = let t : y < x = l in sym (nat_cmp_is (a * 256 + x) (b * 256 + y) Greater (omega arith))

    by : (r : Ordering) → MatchOrdering r (a < b) (a ≡ b) (b < a) → nat_cmp (a * 256 + x) (b * 256 + y) ≡ ordering_then r (nat_cmp x y)
    by Less l = let t : a < b = l in sym (nat_cmp_is (a * 256 + x) (b * 256 + y) Less (omega arith))
    by Equal l = last l (nat_cmp x y) (ranks x y)
    by Greater l = let t : b < a = l in sym (nat_cmp_is (a * 256 + x) (b * 256 + y) Greater (omega arith))

abbrev Bytes : List ℕ → Type 0
Bytes xs = (k : ℕ) → get_or xs k 0 < 256

numbers_cmp : (n a b : ℕ) (xs ys : List ℕ) → n ≤ length xs → n ≤ length ys → Bytes xs → Bytes ys
    → nat_cmp (big_endian a (take n xs)) (big_endian b (take n ys)) ≡ ordering_then (nat_cmp a b) (slice_cmp nat_cmp (take n xs) (take n ys))
numbers_cmp zero a b xs ys p q f g = sym (then_equal (nat_cmp a b))
numbers_cmp (suc n) a b [] ys p q f g = absurd (omega arith)
numbers_cmp (suc n) a b (x ∷ xs) [] p q f g = absurd (omega arith)
numbers_cmp (suc n) a b (x ∷ xs) (y ∷ ys) p q f g =
    numbers_cmp n (a * 256 + x) (b * 256 + y) xs ys (omega arith) (omega arith) (λ k. f (suc k)) (λ k. g (suc k))
    ∙ ap (λ (r : Ordering). ordering_then r (slice_cmp nat_cmp (take n xs) (take n ys))) (one_more a b x y (f 0) (g 0))
    ∙ then_assoc (nat_cmp a b) (nat_cmp x y) (slice_cmp nat_cmp (take n xs) (take n ys))

split_cmp : (n : ℕ) (xs ys : List ℕ) → n ≤ length xs → n ≤ length ys → slice_cmp nat_cmp xs ys ≡ ordering_then (slice_cmp nat_cmp (take n xs) (take n ys)) (slice_cmp nat_cmp (drop n xs) (drop n ys))
split_cmp zero xs ys p q = refl
split_cmp (suc n) [] ys p q = absurd (omega arith)
split_cmp (suc n) (x ∷ xs) [] p q = absurd (omega arith)
split_cmp (suc n) (x ∷ xs) (y ∷ ys) p q =
    ap (ordering_then (nat_cmp x y)) (split_cmp n xs ys (omega arith) (omega arith))
    ∙ sym (then_assoc (nat_cmp x y) (slice_cmp nat_cmp (take n xs) (take n ys)) (slice_cmp nat_cmp (drop n xs) (drop n ys)))

decides : (x y : ℕ) (r : Ordering) → (x ≡ y → ⊥) → ordering_then (nat_cmp x y) r ≡ nat_cmp x y
decides x y r apart = by (nat_cmp x y) (ranks x y)
  where
    by : (s : Ordering) → MatchOrdering s (x < y) (x ≡ y) (y < x) → ordering_then s r ≡ s
    by Less l = refl
    by Equal l = absurd (apart l)
    by Greater l = refl

ties : (x y : ℕ) (r : Ordering) → x ≡ y → ordering_then (nat_cmp x y) r ≡ r
ties x y r e = ap (λ (s : Ordering). ordering_then s r) (sym (nat_cmp_is x y Equal e))

-- sixteen bytes, by the number of the first eight and that of the last eight
module _ (xs ys : List ℕ) (p : length xs ≡ 16) (q : length ys ≡ 16) (f : Bytes xs) (g : Bytes ys) where
  front : nat_cmp (big_endian 0 (take 8 xs)) (big_endian 0 (take 8 ys)) ≡ slice_cmp nat_cmp (take 8 xs) (take 8 ys)
  front = numbers_cmp 8 0 0 xs ys (omega arith) (omega arith) f g

  all : (zs : List ℕ) → length zs ≡ 16 → take 8 (drop 8 zs) ≡ drop 8 zs
  all zs l = take_all 8 (drop 8 zs) (omega (arith, length-drop 8 zs))

  back : nat_cmp (big_endian 0 (take 8 (drop 8 xs))) (big_endian 0 (take 8 (drop 8 ys))) ≡ slice_cmp nat_cmp (drop 8 xs) (drop 8 ys)
  back =
      numbers_cmp 8 0 0 (drop 8 xs) (drop 8 ys) (omega (arith, length-drop 8 xs)) (omega (arith, length-drop 8 ys))
      (λ k. subst (λ (b : ℕ). b < 256) (sym (get_or-drop 8 xs k 0)) (f (8 + k))) (λ k. subst (λ (b : ℕ). b < 256) (sym (get_or-drop 8 ys k 0)) (g (8 + k)))
      ∙ (λ i. slice_cmp nat_cmp (all xs p i) (all ys q i))

  whole : ordering_then (nat_cmp (big_endian 0 (take 8 xs)) (big_endian 0 (take 8 ys))) (nat_cmp (big_endian 0 (take 8 (drop 8 xs))) (big_endian 0 (take 8 (drop 8 ys)))) ≡ slice_cmp nat_cmp xs ys
  whole = (λ i. ordering_then (front i) (back i)) ∙ sym (split_cmp 8 xs ys (omega arith) (omega arith))

  module _ (x y : ℕ) (x_is : x ≡ big_endian 0 (take 8 xs)) (y_is : y ≡ big_endian 0 (take 8 ys)) where
    pub by_front : (x ≡ y → ⊥) → nat_cmp x y ≡ slice_cmp nat_cmp xs ys
    by_front apart =
        let rest = nat_cmp (big_endian 0 (take 8 (drop 8 xs))) (big_endian 0 (take 8 (drop 8 ys))) in
        sym (decides x y rest apart) ∙ (λ i. ordering_then (nat_cmp (x_is i) (y_is i)) rest) ∙ whole

    pub by_back : (z w : ℕ) → x ≡ y → z ≡ big_endian 0 (take 8 (drop 8 xs)) → w ≡ big_endian 0 (take 8 (drop 8 ys)) → nat_cmp z w ≡ slice_cmp nat_cmp xs ys
    by_back z w tied z_is w_is = sym (ties x y (nat_cmp z w) tied) ∙ (λ i. ordering_then (nat_cmp (x_is i) (y_is i)) (nat_cmp (z_is i) (w_is i))) ∙ whole
