-- Three words, and the three numbers that they are.
use Rattle.std.proofs.Common.{◌≡◌, ℕ, ◌<◌, ◌≤◌, List, [], ◌∷◌, length, map, get_or, subst, arith}
use Rattle.bmp_specs.specs.NumberText.{IsNumberText}
use Rattle.ip_prefix.proofs.PrefixReading.{same_number}
use Rattle.station_words.specs.DrillWords.{IsDrill, MayDrill}
use Rattle.station_words.specs.declared.drill_words.DrillWords.{DrillWords}

-- the words, where they are three
pub three_words : {X : Type 0} (text : X → List ℕ) (words : List X) (a b c : X) → 3 ≤ length words → length words < 4 → a ≡ get_or words 0 a → b ≡ get_or words 1 b → c ≡ get_or words 2 c → map text words ≡ text a ∷ text b ∷ text c ∷ []
three_words text [] a b c least most at_a at_b at_c = absurd (omega (arith, least))
three_words text (x ∷ []) a b c least most at_a at_b at_c = absurd (omega (arith, least))
three_words text (x ∷ y ∷ []) a b c least most at_a at_b at_c = absurd (omega (arith, least))
three_words text (x ∷ y ∷ z ∷ []) a b c least most at_a at_b at_c =
    let is_a : a ≡ x = at_a in
    let is_b : b ≡ y = at_b in
    let is_c : c ≡ z = at_c in
    cc (is_a, is_b, is_c)
three_words text (x ∷ y ∷ z ∷ w ∷ more) a b c least most at_a at_b at_c = absurd (omega (arith, most))

-- each word is one number at most, so those that are found may be asked for where the words are a call
pub same_drill : (seed lanes messages : List ℕ) (found drill : DrillWords) → IsNumberText lanes found.lanes → IsNumberText messages found.messages → IsDrill drill (seed ∷ lanes ∷ messages ∷ []) → MayDrill found
same_drill seed lanes messages found drill is_lanes is_messages is =
    let spelled = is.spelled in
    let same_lanes : is.lanes ≡ lanes = cc spelled in
    let same_messages : is.messages ≡ messages = cc spelled in
    let of_lanes = same_number lanes drill.lanes found.lanes (subst (λ (l : List ℕ). IsNumberText l drill.lanes) same_lanes is.is_lanes) is_lanes in
    let of_messages = same_number messages drill.messages found.messages (subst (λ (l : List ℕ). IsNumberText l drill.messages) same_messages is.is_messages) is_messages in
    record {
      lanes = subst (λ (n : ℕ). (1 ≤ n) × (n ≤ 16)) of_lanes is.may_drill.lanes;
      messages = subst (λ (n : ℕ). (1 ≤ n) × (n ≤ 100000)) of_messages is.may_drill.messages;
    }
