-- What the last prefix at a place or before it says of those that hold an address.
use Rattle.std.proofs.Common.{◌≡◌, ℕ, ◌<◌, ◌≤◌, length, get_or, drop, false, List, [], ◌∷◌, refl, ap, sym, ◌∙◌, subst, inl, inr, arith}
use Rattle.std.specs.declared.cmp.Ordering.{Ordering}
use Rattle.std.specs.declared.cmp.Ordering.TheVariants.{Less, Equal, Greater}
use Rattle.std.specs.Ordering.{nat_cmp, ordering_then, is_lt, is_gt}
use Rattle.std.specs.Cmp.Lexicographic.{slice_cmp}
use Rattle.std.proofs.lemmas.Bool.{cases_lt}
use Rattle.std.proofs.lemmas.Bool.Decides.{nat_tests}
use Rattle.bmp_specs.specs.declared.wire.Family.{Family}
use Rattle.bmp_specs.specs.declared.wire.Family.TheVariants.{V4, V6}
use Rattle.bmp_specs.specs.Address.{IsAddress, IsAddressPrefix, prefix_at}
use Rattle.bmp_specs.specs.Containment.{HoldsAddress}
use Rattle.bmp_specs.specs.Orders.{family_cmp, prefix_cmp}
use Rattle.bmp_specs.specs.Prefix.{first_bits}
use Rattle.bmp_specs.specs.Values.{AddressValue, PrefixValue}
use Rattle.bmp_specs.proofs.Widths.{width_within}
use Rattle.ip_prefix.proofs.Kept.{length-first_bits, first_bits_below}
use Rattle.bmp_specs.proofs.PrefixOrder.{octets_up_to, bits_up_to, octets_from, bits_from, up_to}
use Rattle.prefix_trie.specs.Agreement.{AgreesFor}
use Rattle.prefix_trie.specs.Table.{IsOfFamily}
use Rattle.bmp_specs.proofs.FirstBits.{IsAtMost, first_few, first_up, first_below, first_fewer, at_most_both, at_most_from, at_most_back, at_most_cases}

-- the bytes of a prefix that holds the address
held_octets : (q : PrefixValue) (a : AddressValue) → IsAddressPrefix q → HoldsAddress q a → q.address.octets ≡ first_bits q.bits a.octets
held_octets q a exact h = sym exact.clear ∙ h.agree

-- a search for the prefixes of at most c bits that hold the address
module _ (a : AddressValue) (address : IsAddress a) (c : ℕ) where
  place_long : length (first_bits c a.octets) ≡ 16
  place_long = length-first_bits c a.octets ∙ address.len

  -- each such prefix is at the place or before it
  pub holder_up_to : (q : PrefixValue) → IsOfFamily a.family q → HoldsAddress q a → q.bits ≤ c → is_gt (prefix_cmp q (prefix_at a c)) ≡ false
  holder_up_to q of h less =
      up_to q (prefix_at a c) of.same (of.exact.address.len ∙ sym place_long)
      (subst (λ (l : List ℕ). IsAtMost l (first_bits c a.octets)) (sym (held_octets q a of.exact h)) (first_fewer q.bits c a.octets less)) less

  module _ (p : PrefixValue) (of : IsOfFamily a.family p) (before : is_gt (prefix_cmp p (prefix_at a c)) ≡ false) where
    at_most_place : IsAtMost p.address.octets (first_bits c a.octets)
    at_most_place = octets_up_to p (prefix_at a c) of.same (of.exact.address.len ∙ sym place_long) before

    -- where the last one before the place doesn't hold the address, it shares fewer bits with it
    pub shares_fewer : (s : ℕ) → AgreesFor p.address.octets a.octets s → s < p.bits → s < c
    shares_fewer s agreed less = elim (cases_lt s c) [
      | inl fewer ↦ fewer
      | inr more ↦
          let top : first_bits c p.address.octets ≡ first_bits c a.octets =
          sym (first_few c s p.address.octets more) ∙ ap (first_bits c) agreed.agree ∙ first_few c s a.octets more in
          let back : IsAtMost (first_bits c a.octets) p.address.octets = subst (λ (l : List ℕ). IsAtMost l p.address.octets) top (first_below c p.address.octets) in
          let same : p.address.octets ≡ first_bits c a.octets = at_most_both _ _ at_most_place back in
          absurd (omega (arith, less, more, bits_up_to p (prefix_at a c) of.same (of.exact.address.len ∙ sym place_long) before same))
    ]

    -- each that holds the address and is no later has no more bits than are shared
    pub holder_shares : (s : ℕ) → AgreesFor p.address.octets a.octets s → (q : PrefixValue) → IsOfFamily a.family q → HoldsAddress q a → q.bits ≤ c → is_lt (prefix_cmp p q) ≡ false → q.bits ≤ s
    holder_shares s agreed q in_family h less later =
        let own : q.address.octets ≡ first_bits q.bits a.octets = held_octets q a in_family.exact h in
        let long : length p.address.octets ≡ length q.address.octets = of.exact.address.len ∙ sym in_family.exact.address.len in
        let low : IsAtMost (first_bits q.bits q.address.octets) (first_bits q.bits p.address.octets) =
        first_up q.bits q.address.octets p.address.octets (sym long) in_family.exact.address.bytes of.exact.address.bytes (octets_from p q (of.same ∙ sym in_family.same) long later) in
        let high : IsAtMost (first_bits q.bits p.address.octets) (first_bits q.bits (first_bits c a.octets)) =
        first_up q.bits p.address.octets (first_bits c a.octets) (of.exact.address.len ∙ sym place_long) of.exact.address.bytes (first_bits_below c a.octets address.bytes) at_most_place in
        let low' : IsAtMost (first_bits q.bits a.octets) (first_bits q.bits p.address.octets) = subst (λ (l : List ℕ). IsAtMost l (first_bits q.bits p.address.octets)) h.agree low in
        let high' : IsAtMost (first_bits q.bits p.address.octets) (first_bits q.bits a.octets) = subst (IsAtMost (first_bits q.bits p.address.octets)) (first_few q.bits c a.octets less) high in
        agreed.most q.bits (omega (arith, in_family.exact.within, width_within q.address.family, of.exact.address.len)) (at_most_both _ _ high' low')

    -- one that holds the address too is no longer
    pub holder_shorter : HoldsAddress p a → (q : PrefixValue) → IsOfFamily a.family q → HoldsAddress q a → is_lt (prefix_cmp p q) ≡ false → q.bits ≤ p.bits
    holder_shorter holds q in_family h later = elim (cases_lt p.bits q.bits) [
      | inl longer ↦
          let long : length p.address.octets ≡ length q.address.octets = of.exact.address.len ∙ sym in_family.exact.address.len in
          let one = of.same ∙ sym in_family.same in
          let up : IsAtMost p.address.octets q.address.octets =
          subst (λ (l : List ℕ). IsAtMost l q.address.octets) (sym (held_octets p a of.exact holds))
          (subst (IsAtMost (first_bits p.bits a.octets)) (sym (held_octets q a in_family.exact h)) (first_fewer p.bits q.bits a.octets (omega arith))) in
          bits_from p q one long later (at_most_both _ _ up (octets_from p q one long later))
      | inr most ↦ most
    ]

    -- it holds the address where its bits are shared
    pub holds_shared : (s : ℕ) → AgreesFor p.address.octets a.octets s → p.bits ≤ s → HoldsAddress p a
    holds_shared s agreed less = record { family = of.same; agree = sym (first_few p.bits s p.address.octets less) ∙ ap (first_bits p.bits) agreed.agree ∙ first_few p.bits s a.octets less }
