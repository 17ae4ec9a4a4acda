-- The groups of an IPv6 address, here and in std, which also takes a dotted quad.
use Rattle.std.proofs.Common.{◌≡◌, ◌≢◌, ℕ, ◌+◌, ◌-◌, ◌≤◌, Bool, true, false, List, [], ◌∷◌, ◌++◌, length, refl, sym, ap, subst, ◌∙◌, arith, append_assoc, append-nil, replicate, Contains, inl, inr}
use Rattle.std.proofs.lemmas.List.Elements.{All-nil, All-cons, All-append, Contains-append_left, Contains-append_right}
use Rattle.std.specs.Char.{digit_value}
use Rattle.std.specs.List.{join_with_byte, AllZip}
use Rattle.std.specs.Net.Grammar.{IsGroup, IsGroups, IsGroupsAfter, IsColonHex}
use Rattle.bmp_specs.specs.AddressText.{IsGroupText, AreGroups, IsV6Text}
use Rattle.ip_prefix.proofs.V4Text.{Lacks, digits_lack, v4_has_dot}

-- the pieces, after a colon where there are any
after_colon : List (List ℕ) → List ℕ
after_colon [] = []
after_colon (p ∷ ps) = 58 ∷ join_with_byte 58 (p ∷ ps)

join-cons : (p : List ℕ) (ps : List (List ℕ)) → join_with_byte 58 (p ∷ ps) ≡ p ++ after_colon ps
unfolding after_colon
join-cons p [] = sym (append-nil p)
join-cons p (q ∷ ps) = refl

group_to : (text : List ℕ) (group : ℕ) → IsGroupText text group → IsGroup text group
group_to text group is = ((is.digits, is.value), is.short)

group_from : (text : List ℕ) (group : ℕ) → IsGroup text group → IsGroupText text group
group_from text group is = record { digits = is.0.0; short = is.1; value = is.0.1 }

-- groups of this grammar are groups of std's
after_to : (ipv4 : Bool) (lead text : List ℕ) (p : List ℕ) (ps : List (List ℕ)) (groups : List ℕ) → AllZip IsGroupText (p ∷ ps) groups → text ≡ lead ++ join_with_byte 58 (p ∷ ps) → IsGroupsAfter ipv4 lead text groups
after_to ipv4 lead text p ps [] each e = absurd each
after_to ipv4 lead text p [] (g ∷ []) each e = inl (p, [], e ∙ sym (append-nil (lead ++ p)), group_to p g each.0, refl)
after_to ipv4 lead text p [] (g ∷ h ∷ groups) each e = absurd each.1
after_to ipv4 lead text p (q ∷ ps) (g ∷ groups) each e =
    inl (p, 58 ∷ join_with_byte 58 (q ∷ ps), e ∙ sym (append_assoc lead p (58 ∷ join_with_byte 58 (q ∷ ps))), group_to p g each.0, after_to ipv4 (58 ∷ []) (58 ∷ join_with_byte 58 (q ∷ ps)) q ps groups each.1 refl)

groups_to : (ipv4 : Bool) (text groups : List ℕ) → AreGroups text groups → IsGroups ipv4 text groups
groups_to ipv4 text groups are = by are.pieces groups are.spelled are.each
  where
    by : (pieces : List (List ℕ)) (gs : List ℕ) → text ≡ join_with_byte 58 pieces → AllZip IsGroupText pieces gs → IsGroupsAfter ipv4 [] text gs
    by [] [] e each = e
    by [] (g ∷ gs) e each = absurd each
    by (p ∷ ps) gs e each = after_to ipv4 [] text p ps gs each e

-- and back, where the text has no dot
record Pieces (lead text groups : List ℕ) : Type 0 where
  pieces : List (List ℕ)
  each : AllZip IsGroupText pieces groups
  none : pieces ≡ [] → text ≡ []
  some : (p : List ℕ) (ps : List (List ℕ)) → pieces ≡ p ∷ ps → text ≡ lead ++ join_with_byte 58 (p ∷ ps)

after_from : (ipv4 : Bool) (lead text groups : List ℕ) → (Contains text 46 → ⊥) → IsGroupsAfter ipv4 lead text groups → Pieces lead text groups
after_from ipv4 lead text [] lacks are = record { pieces = []; each = tt; none = λ _. are; some = λ p ps e. absurd cc }
after_from ipv4 lead text (g ∷ groups) lacks (inl (group, rest, e, is, are)) =
    let later = after_from ipv4 (58 ∷ []) rest groups (λ has. lacks (subst (λ (l : List ℕ). Contains l 46) (sym e) (Contains-append_right (lead ++ group) rest 46 has))) are in
    by later.pieces later.each later.none later.some
  where
    by : (pieces : List (List ℕ)) → AllZip IsGroupText pieces groups → (pieces ≡ [] → rest ≡ []) → ((p : List ℕ) (ps : List (List ℕ)) → pieces ≡ p ∷ ps → rest ≡ (58 ∷ []) ++ join_with_byte 58 (p ∷ ps)) → Pieces lead text (g ∷ groups)
    by [] each none some = record {
      pieces = group ∷ [];
      each = (group_from group g is, each);
      none = λ f. absurd cc;
      some = λ p ps f. e ∙ ap (λ (l : List ℕ). (lead ++ group) ++ l) (none refl) ∙ append-nil (lead ++ group) ∙ ap (λ (l : List (List ℕ)). lead ++ join_with_byte 58 l) f;
    }
    by (q ∷ qs) each none some = record {
      pieces = group ∷ q ∷ qs;
      each = (group_from group g is, each);
      none = λ f. absurd cc;
      some = λ p ps f. e ∙ ap (λ (l : List ℕ). (lead ++ group) ++ l) (some q qs refl) ∙ append_assoc lead group (58 ∷ join_with_byte 58 (q ∷ qs)) ∙ ap (λ (l : List (List ℕ)). lead ++ join_with_byte 58 l) f;
    }
after_from ipv4 lead text (g ∷ groups) lacks (inr (last, octets, four, e, is, value)) =
    absurd (lacks (subst (λ (l : List ℕ). Contains l 46) (sym e) (Contains-append_right lead last 46 (v4_has_dot last octets is))))

groups_from : (ipv4 : Bool) (text groups : List ℕ) → (Contains text 46 → ⊥) → IsGroups ipv4 text groups → AreGroups text groups
groups_from ipv4 text groups lacks are =
    let found = after_from ipv4 [] text groups lacks are in
    by found.pieces found.each found.none found.some
  where
    by : (pieces : List (List ℕ)) → AllZip IsGroupText pieces groups → (pieces ≡ [] → text ≡ []) → ((p : List ℕ) (ps : List (List ℕ)) → pieces ≡ p ∷ ps → text ≡ [] ++ join_with_byte 58 (p ∷ ps)) → AreGroups text groups
    by [] each none some = record { pieces = []; spelled = none refl; each = each }
    by (p ∷ ps) each none some = record { pieces = p ∷ ps; spelled = some p ps refl; each = each }

left_over : (front back : List ℕ) → front ++ replicate (8 - (length front + length back)) 0 ++ back ≡ front ++ replicate (8 - length front - length back) 0 ++ back
left_over front back = ap (λ (n : ℕ). front ++ replicate n 0 ++ back) (omega arith)

pub v6_to : (text groups : List ℕ) → IsV6Text text groups → IsColonHex text groups
v6_to text groups (inl (are, eight)) = inl (groups_to true text groups are, eight)
v6_to text groups (inr is) = inr (record {
  head_text = is.front_text;
  tail_text = is.back_text;
  head = is.front;
  tail = is.back;
  spelled = is.spelled ∙ sym (append_assoc is.front_text (58 ∷ 58 ∷ []) is.back_text);
  head_groups = groups_to false is.front_text is.front is.front_groups;
  tail_groups = groups_to true is.back_text is.back is.back_groups;
  room = is.fewer;
  value = is.value ∙ left_over is.front is.back;
})

pub v6_from : (text groups : List ℕ) → (Contains text 46 → ⊥) → IsColonHex text groups → IsV6Text text groups
v6_from text groups lacks (inl (are, eight)) = inl (groups_from true text groups lacks are, eight)
v6_from text groups lacks (inr is) =
    let whole : text ≡ is.head_text ++ (58 ∷ 58 ∷ is.tail_text) = is.spelled ∙ append_assoc is.head_text (58 ∷ 58 ∷ []) is.tail_text in
    let lacks_front : Contains is.head_text 46 → ⊥ = λ has. lacks (subst (λ (l : List ℕ). Contains l 46) (sym whole) (Contains-append_left is.head_text (58 ∷ 58 ∷ is.tail_text) 46 has)) in
    let lacks_back : Contains is.tail_text 46 → ⊥ = λ has. lacks (subst (λ (l : List ℕ). Contains l 46) (sym is.spelled) (Contains-append_right (is.head_text ++ (58 ∷ 58 ∷ [])) is.tail_text 46 has)) in
    inr (record {
      front_text = is.head_text;
      back_text = is.tail_text;
      front = is.head;
      back = is.tail;
      spelled = whole;
      front_groups = groups_from false is.head_text is.head lacks_front is.head_groups;
      back_groups = groups_from true is.tail_text is.tail lacks_back is.tail_groups;
      fewer = is.room;
      value = is.value ∙ sym (left_over is.head is.tail);
    })

-- only hexadecimal digits and colons stand in the text
module _ (c : ℕ) (none : 16 ≤ digit_value c) (other : c ≢ 58) where
  pieces_lack : (pieces : List (List ℕ)) (groups : List ℕ) → AllZip IsGroupText pieces groups → Lacks c (join_with_byte 58 pieces)
  pieces_lack [] [] each = All-nil (λ b. b ≢ c)
  pieces_lack [] (g ∷ groups) each = absurd each
  pieces_lack (p ∷ ps) [] each = absurd each
  pieces_lack (p ∷ []) (g ∷ groups) each = digits_lack 16 c none p each.0.digits.1
  pieces_lack (p ∷ q ∷ ps) (g ∷ groups) each =
      All-append (λ b. b ≢ c) p (58 ∷ join_with_byte 58 (q ∷ ps)) (digits_lack 16 c none p each.0.digits.1) (All-cons (λ b. b ≢ c) 58 (join_with_byte 58 (q ∷ ps)) (λ e. other (sym e)) (pieces_lack (q ∷ ps) groups each.1))

  groups_lack : (text groups : List ℕ) → AreGroups text groups → Lacks c text
  groups_lack text groups are = subst (Lacks c) (sym are.spelled) (pieces_lack are.pieces groups are.each)

  pub v6_lacks : (text groups : List ℕ) → IsV6Text text groups → Lacks c text
  v6_lacks text groups (inl (are, eight)) = groups_lack text groups are
  v6_lacks text groups (inr is) =
      let colon : 58 ≢ c = λ e. other (sym e) in
      let back = All-cons (λ b. b ≢ c) 58 (58 ∷ is.back_text) colon (All-cons (λ b. b ≢ c) 58 is.back_text colon (groups_lack is.back_text is.back is.back_groups)) in
      subst (Lacks c) (sym is.spelled) (All-append (λ b. b ≢ c) is.front_text (58 ∷ 58 ∷ is.back_text) (groups_lack is.front_text is.front is.front_groups) back)
