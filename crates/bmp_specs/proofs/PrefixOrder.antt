-- The order of prefixes by their bytes and bits, and that the prefixes that one contains are a run of it.
use Rattle.std.proofs.Common.{◌≡◌, ℕ, ◌≤◌, length, get_or, drop, false, List, [], ◌∷◌, refl, ap, sym, ◌∙◌, subst, inl, inr, arith}
use Rattle.std.specs.declared.cmp.Ordering.{Ordering}
use Rattle.std.specs.declared.cmp.Ordering.TheVariants.{Less, Equal, Greater}
use Rattle.std.specs.Ordering.{nat_cmp, ordering_then, is_lt, is_gt}
use Rattle.std.specs.Cmp.Lexicographic.{slice_cmp}
use Rattle.std.proofs.lemmas.Bool.{cases_lt}
use Rattle.std.proofs.lemmas.Bool.Decides.{nat_tests}
use Rattle.bmp_specs.specs.declared.wire.Family.{Family}
use Rattle.bmp_specs.specs.declared.wire.Family.TheVariants.{V4, V6}
use Rattle.bmp_specs.specs.Address.{IsAddressPrefix}
use Rattle.bmp_specs.specs.Containment.{ContainsPrefix}
use Rattle.bmp_specs.specs.Orders.{family_number, family_cmp, prefix_cmp}
use Rattle.bmp_specs.specs.Prefix.{first_bits}
use Rattle.bmp_specs.specs.Values.{PrefixValue}
use Rattle.bmp_specs.proofs.FirstBits.{IsAtMost, first_up, first_below, first_fewer, at_most_both, at_most_from, at_most_back, at_most_cases}

one_family : (a b : Family) (o : Ordering) → a ≡ b → ordering_then (family_cmp a b) o ≡ o
one_family V4 V4 o e = refl
one_family V6 V6 o e = refl
one_family V4 V6 o e = absurd cc
one_family V6 V4 o e = absurd cc

then_unit : (o p : Ordering) → o ≡ Equal → ordering_then o p ≡ p
then_unit o p e = ap (λ q. ordering_then q p) e

-- the order of two prefixes of one family
by_octets : (p q : PrefixValue) → p.address.family ≡ q.address.family → prefix_cmp p q ≡ ordering_then (slice_cmp nat_cmp p.address.octets q.address.octets) (nat_cmp p.bits q.bits)
by_octets p q e = ap (λ o. ordering_then o (nat_cmp p.bits q.bits)) (one_family p.address.family q.address.family (slice_cmp nat_cmp p.address.octets q.address.octets) e)

gt_first : (o p : Ordering) → is_gt (ordering_then o p) ≡ false → is_gt o ≡ false
gt_first Less p e = refl
gt_first Equal p e = refl
gt_first Greater p e = e

lt_first : (o p : Ordering) → is_lt (ordering_then o p) ≡ false → is_lt o ≡ false
lt_first Less p e = e
lt_first Equal p e = refl
lt_first Greater p e = refl

no_more_than : (m n : ℕ) → is_gt (nat_cmp m n) ≡ false → m ≤ n
no_more_than m n e = grind (arith, nat_tests, e)

no_less_than : (m n : ℕ) → is_lt (nat_cmp m n) ≡ false → n ≤ m
no_less_than m n e = grind (arith, nat_tests, e)

at_most_is : (m n : ℕ) → m ≤ n → is_gt (nat_cmp m n) ≡ false
at_most_is m n h = grind (arith, nat_tests)

-- bytes tie with themselves
slice_self : (xs ys : List ℕ) → xs ≡ ys → slice_cmp nat_cmp xs ys ≡ Equal
slice_self [] [] e = refl
slice_self [] (y ∷ ys) e = absurd (omega (arith, ap length e))
slice_self (x ∷ xs) [] e = absurd (omega (arith, ap length e))
slice_self (x ∷ xs) (y ∷ ys) e =
    let head : x ≡ y = ap (λ (l : List ℕ). get_or l 0 0) e in
    let tail : xs ≡ ys = ap (λ (l : List ℕ). drop 1 l) e in
    let tie : nat_cmp x y ≡ Equal = grind (arith, nat_tests) in
    ap (λ o. ordering_then o (slice_cmp nat_cmp xs ys)) tie ∙ slice_self xs ys tail

module _ (p q : PrefixValue) (one : p.address.family ≡ q.address.family) (long : length p.address.octets ≡ length q.address.octets) where
  pub octets_up_to : is_gt (prefix_cmp p q) ≡ false → IsAtMost p.address.octets q.address.octets
  octets_up_to e = at_most_from _ _ long (gt_first _ (nat_cmp p.bits q.bits) (ap is_gt (sym (by_octets p q one)) ∙ e))

  pub bits_up_to : is_gt (prefix_cmp p q) ≡ false → p.address.octets ≡ q.address.octets → p.bits ≤ q.bits
  bits_up_to e same = no_more_than _ _ (ap is_gt (sym (then_unit _ (nat_cmp p.bits q.bits) (slice_self _ _ same))) ∙ ap is_gt (sym (by_octets p q one)) ∙ e)

  pub octets_from : is_lt (prefix_cmp p q) ≡ false → IsAtMost q.address.octets p.address.octets
  octets_from e = at_most_back _ _ long (lt_first _ (nat_cmp p.bits q.bits) (ap is_lt (sym (by_octets p q one)) ∙ e))

  pub bits_from : is_lt (prefix_cmp p q) ≡ false → p.address.octets ≡ q.address.octets → q.bits ≤ p.bits
  bits_from e same = no_less_than _ _ (ap is_lt (sym (then_unit _ (nat_cmp p.bits q.bits) (slice_self _ _ same))) ∙ ap is_lt (sym (by_octets p q one)) ∙ e)

  pub up_to : IsAtMost p.address.octets q.address.octets → p.bits ≤ q.bits → is_gt (prefix_cmp p q) ≡ false
  up_to a h = ap is_gt (by_octets p q one) ∙ elim (at_most_cases _ _ a) [
    | inl less ↦ ap (λ o. is_gt (ordering_then o (nat_cmp p.bits q.bits))) less
    | inr tie ↦ ap (λ o. is_gt (ordering_then o (nat_cmp p.bits q.bits))) tie.0 ∙ at_most_is _ _ h
  ]

-- of prefixes in order the families stand in order
family_up : (a b : Family) (o : Ordering) → is_gt (ordering_then (family_cmp a b) o) ≡ false → family_number a ≤ family_number b
family_up V4 V4 o e = omega arith
family_up V4 V6 o e = omega arith
family_up V6 V6 o e = omega arith
family_up V6 V4 o e = absurd cc

first_of : (o p q : Ordering) → is_gt (ordering_then (ordering_then o p) q) ≡ false → is_gt (ordering_then o p) ≡ false
first_of o p q e = gt_first (ordering_then o p) q e

families_up : (p q : PrefixValue) → is_gt (prefix_cmp p q) ≡ false → family_number p.address.family ≤ family_number q.address.family
families_up p q e = family_up p.address.family q.address.family (slice_cmp nat_cmp p.address.octets q.address.octets) (first_of (family_cmp p.address.family q.address.family) (slice_cmp nat_cmp p.address.octets q.address.octets) (nat_cmp p.bits q.bits) e)

same_family : (a b : Family) → family_number a ≡ family_number b → a ≡ b
same_family V4 V4 e = refl
same_family V6 V6 e = refl
same_family V4 V6 e = absurd (omega arith)
same_family V6 V4 e = absurd (omega arith)

-- a prefix comes before those that it contains, or is one of them
pub contained_later : (p q : PrefixValue) → IsAddressPrefix p → IsAddressPrefix q → ContainsPrefix p q → is_gt (prefix_cmp p q) ≡ false
contained_later p q exact of_q c =
    let long : length p.address.octets ≡ length q.address.octets = exact.address.len ∙ sym of_q.address.len in
    let bytes : p.address.octets ≡ first_bits p.bits q.address.octets = sym exact.clear ∙ c.holds.agree in
    up_to p q c.holds.family long (subst (λ (l : List ℕ). IsAtMost l q.address.octets) (sym bytes) (first_below p.bits q.address.octets)) c.shorter

-- what stands between a prefix and one that it contains, it contains too
pub contained_between : (p q r : PrefixValue) → IsAddressPrefix p → IsAddressPrefix q → IsAddressPrefix r → is_gt (prefix_cmp p q) ≡ false → is_gt (prefix_cmp q r) ≡ false → ContainsPrefix p r → ContainsPrefix p q
contained_between p q r exact of_q of_r from_p up_to_r c =
    let family : p.address.family ≡ q.address.family = same_family _ _ (omega (arith, families_up p q from_p, families_up q r up_to_r, ap family_number c.holds.family)) in
    let other : q.address.family ≡ r.address.family = sym family ∙ c.holds.family in
    let long : length p.address.octets ≡ length q.address.octets = exact.address.len ∙ sym of_q.address.len in
    let longer : length q.address.octets ≡ length r.address.octets = of_q.address.len ∙ sym of_r.address.len in
    let low : IsAtMost p.address.octets q.address.octets = octets_up_to p q family long from_p in
    let high : IsAtMost q.address.octets r.address.octets = octets_up_to q r other longer up_to_r in
    let front : IsAtMost (first_bits p.bits p.address.octets) (first_bits p.bits q.address.octets) = first_up p.bits _ _ long exact.address.bytes of_q.address.bytes low in
    let back : IsAtMost (first_bits p.bits q.address.octets) (first_bits p.bits p.address.octets) =
    subst (IsAtMost (first_bits p.bits q.address.octets)) (sym c.holds.agree) (first_up p.bits _ _ longer of_q.address.bytes of_r.address.bytes high) in
    let agree : first_bits p.bits p.address.octets ≡ first_bits p.bits q.address.octets = at_most_both _ _ front back in
    record { shorter = shorter family long low agree; holds = record { family = family; agree = agree } }
  where
    -- a shorter one would come first
    shorter : (family : p.address.family ≡ q.address.family) (long : length p.address.octets ≡ length q.address.octets) → IsAtMost p.address.octets q.address.octets
        → first_bits p.bits p.address.octets ≡ first_bits p.bits q.address.octets → p.bits ≤ q.bits
    shorter family long low agree = elim (cases_lt q.bits p.bits) [
      | inl less ↦
          let few : IsAtMost (first_bits q.bits q.address.octets) (first_bits p.bits q.address.octets) = first_fewer q.bits p.bits q.address.octets (omega arith) in
          let bytes : first_bits p.bits q.address.octets ≡ p.address.octets = sym agree ∙ exact.clear in
          let back : IsAtMost q.address.octets p.address.octets = subst (λ (l : List ℕ). IsAtMost l p.address.octets) of_q.clear (subst (IsAtMost (first_bits q.bits q.address.octets)) bytes few) in
          bits_up_to p q family long from_p (at_most_both _ _ low back)
      | inr more ↦ more
    ]
