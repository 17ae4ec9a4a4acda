-- The numbers of NLRI stand in the order of the NLRI.
use Rattle.std.proofs.Common.{◌≡◌, ℕ, zero, suc, ◌+◌, ◌*◌, ◌/◌, ◌%◌, ◌<◌, false, List, refl, sym, ap, ◌∙◌, arith}
use Rattle.std.specs.declared.cmp.Ordering.{Ordering}
use Rattle.std.specs.declared.cmp.Ordering.TheVariants.{Less, Equal, Greater}
use Rattle.std.specs.Cmp.{ranks, nat_cmp_is}
use Rattle.std.specs.Cmp.Lexicographic.{slice_cmp}
use Rattle.std.specs.Option.{option_cmp}
use Rattle.std.specs.Ordering.{is_eq, nat_cmp, ordering_then, MatchOrdering}
use Rattle.bmp_specs.specs.declared.wire.Family.{Family}
use Rattle.bmp_specs.specs.declared.wire.Family.TheVariants.{V4, V6}
use Rattle.bmp_specs.specs.Orders.{nlri_cmp}
use Rattle.route_runs.specs.AddressOrder.{next_decides}
use Rattle.route_runs.specs.NumberKeys.{id_at, nlri_of}

then_assoc : (r s t : Ordering) → ordering_then (ordering_then r s) t ≡ ordering_then r (ordering_then s t)
then_assoc Less s t = refl
then_assoc Equal s t = refl
then_assoc Greater s t = refl

-- a bit more tells where the numbers before it tie
doubled : (a b x y : ℕ) → x < 2 → y < 2 → nat_cmp (a * 2 + x) (b * 2 + y) ≡ ordering_then (nat_cmp a b) (nat_cmp x y)
doubled a b x y p q = by (nat_cmp a b) (ranks a b)
  where
    last : a ≡ b → (r : Ordering) → MatchOrdering r (x < y) (x ≡ y) (y < x) → nat_cmp (a * 2 + x) (b * 2 + y) ≡ r
    last e Less l = let t : x < y = l in sym (nat_cmp_is (a * 2 + x) (b * 2 + y) Less (omega arith))
    last e Equal l = let t : x ≡ y = l in sym (nat_cmp_is (a * 2 + x) (b * 2 + y) Equal (omega arith))
    last e Greater l = let t : y < x = l in sym (nat_cmp_is (a * 2 + x) (b * 2 + y) Greater (omega arith))

    by : (r : Ordering) → MatchOrdering r (a < b) (a ≡ b) (b < a) → nat_cmp (a * 2 + x) (b * 2 + y) ≡ ordering_then r (nat_cmp x y)
    by Less l = let t : a < b = l in sym (nat_cmp_is (a * 2 + x) (b * 2 + y) Less (omega arith))
    by Equal l = last l (nat_cmp x y) (ranks x y)
    by Greater l = let t : b < a = l in sym (nat_cmp_is (a * 2 + x) (b * 2 + y) Greater (omega arith))

halves : (b c : ℕ) → ordering_then (nat_cmp (b / 2) (c / 2)) (nat_cmp (b % 2) (c % 2)) ≡ nat_cmp b c
halves b c =
    let whole : (n : ℕ) → n / 2 * 2 + n % 2 ≡ n = λ n. omega arith in
    sym (doubled (b / 2) (c / 2) (b % 2) (c % 2) (omega arith) (omega arith)) ∙ (λ i. nat_cmp (whole b i) (whole c i))

-- an identifier that isn't there comes first, as its mark does
marks : (r s i j : ℕ) → r < 2 → s < 2 → (r ≡ 0 → i ≡ 0) → (s ≡ 0 → j ≡ 0) → option_cmp nat_cmp (id_at r i) (id_at s j) ≡ ordering_then (nat_cmp r s) (nat_cmp i j)
marks zero zero i j p q f g = nat_cmp_is i j Equal (f refl ∙ sym (g refl))
marks zero (suc s) i j p q f g = ap (λ (o : Ordering). ordering_then o (nat_cmp i j)) (nat_cmp_is 0 (suc s) Less (omega arith))
marks (suc r) zero i j p q f g = ap (λ (o : Ordering). ordering_then o (nat_cmp i j)) (nat_cmp_is (suc r) 0 Greater (omega arith))
marks (suc r) (suc s) i j p q f g = next_decides (suc r) (suc s) (nat_cmp i j) (omega arith)

-- the length of a prefix and its identifier, after the address
lengths : (o : Ordering) (b c i j : ℕ) → (b % 2 ≡ 0 → i ≡ 0) → (c % 2 ≡ 0 → j ≡ 0)
    → ordering_then (ordering_then o (nat_cmp (b / 2) (c / 2))) (option_cmp nat_cmp (id_at (b % 2) i) (id_at (c % 2) j)) ≡ ordering_then o (ordering_then (nat_cmp b c) (nat_cmp i j))
lengths o b c i j f g =
    let front = nat_cmp (b / 2) (c / 2) in
    then_assoc o front (option_cmp nat_cmp (id_at (b % 2) i) (id_at (c % 2) j))
    ∙ ap (λ (r : Ordering). ordering_then o (ordering_then front r)) (marks (b % 2) (c % 2) i j (omega arith) (omega arith) f g)
    ∙ ap (ordering_then o) (sym (then_assoc front (nat_cmp (b % 2) (c % 2)) (nat_cmp i j)) ∙ ap (λ (r : Ordering). ordering_then r (nat_cmp i j)) (halves b c))

-- what doesn't tie decides, whatever comes next
pub other_decides : (o r : Ordering) → is_eq o ≡ false → o ≡ ordering_then o r
other_decides Less r e = refl
other_decides Equal r e = absurd cc
other_decides Greater r e = refl

-- the address decides; then the length, and then the identifier
pub key_cmp : (family : Family) (os ps : List ℕ) (b c i j : ℕ) → (b % 2 ≡ 0 → i ≡ 0) → (c % 2 ≡ 0 → j ≡ 0) → (o : Ordering) → o ≡ slice_cmp nat_cmp os ps
    → ordering_then o (ordering_then (nat_cmp b c) (nat_cmp i j)) ≡ nlri_cmp (nlri_of family os b i) (nlri_of family ps c j)
key_cmp V4 os ps b c i j f g o e = ap (λ (r : Ordering). ordering_then r (ordering_then (nat_cmp b c) (nat_cmp i j))) e ∙ sym (lengths (slice_cmp nat_cmp os ps) b c i j f g)
key_cmp V6 os ps b c i j f g o e = ap (λ (r : Ordering). ordering_then r (ordering_then (nat_cmp b c) (nat_cmp i j))) e ∙ sym (lengths (slice_cmp nat_cmp os ps) b c i j f g)
