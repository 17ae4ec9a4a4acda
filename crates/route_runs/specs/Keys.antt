-- Pairs of a number and a key that tie are the same.
use Rattle.std.specs.Prelude.{◌≡◌, ℕ}
use Rattle.std.specs.declared.cmp.Ordering.{Ordering}
use Rattle.std.specs.Ordering.{nat_cmp, ordering_then}
use Rattle.std.specs.declared.cmp.Ordering.TheVariants.{Less, Equal, Greater}
use Rattle.std.proofs.lemmas.Map.Lookups.{exact_unsigned}

-- pairs in the order of their numbers, and then of their keys
abbrev pub pair_cmp : {K : Type 0} → (K → K → Ordering) → ℕ × K → ℕ × K → Ordering
pair_cmp cmp x y = ordering_then (nat_cmp x.0 y.0) (cmp x.1 y.1)

both_tie : (a b : Ordering) → ordering_then a b ≡ Equal → (a ≡ Equal) × (b ≡ Equal)
both_tie Less b e = absurd cc
both_tie Equal b e = (λ _. Equal, e)
both_tie Greater b e = absurd cc

pub pairs_exact : {K : Type 0} (cmp : K → K → Ordering) → ((x y : K) → cmp x y ≡ Equal → x ≡ y) → (x y : ℕ × K) → pair_cmp cmp x y ≡ Equal → x ≡ y
pairs_exact cmp exact x y e =
    let tie = both_tie (nat_cmp x.0 y.0) (cmp x.1 y.1) e in
    let first = exact_unsigned x.0 y.0 tie.0 in
    let second = exact x.1 y.1 tie.1 in
    λ i. (first i, second i)
