-- Selectors of path attributes are taken from the end of a line in one way.
use Rattle.std.proofs.Common.{◌≡◌, ◌≢◌, ℕ, ◌≤◌, true, false, List, [], ◌∷◌, ◌++◌, Option, None, Some, length, refl, sym, ap, subst, ◌∙◌, arith, append_assoc, append-nil, length-append, codes}
use Rattle.std.proofs.lemmas.Bool.{true≢false}
use Rattle.bmp_specs.specs.Query.{QueryValue, IsSelector}
use Rattle.ask_specs.specs.Traits.{CommunityValue, TraitsValue}
use Rattle.ask_specs.specs.TraitText.{IsThroughText, IsCommunityText, IsTypeText}
use Rattle.ask_specs.proofs.CommunityOne.{community_one}
use Rattle.ask_specs.proofs.PlainWords.{ArePaired, IsHeaded, by_one, by_two, is_trait, rows_headed}
use Rattle.ask_specs.proofs.TraitOne.{through_one, type_one}
use Rattle.query_lang.specs.Reading.{words_of, AsksWith, BreaksLast, EndsWith, TakesLast, Unended}
use Rattle.query_lang.proofs.LastWords.{end_two, some_words}
use Rattle.query_lang.proofs.SelectorLaws.{differ_at}

-- a selector that is named and its value
pub takes_last : {A : Type 0} (word : List ℕ) (IsText : List ℕ → A → Type 0) (words others : List (List ℕ)) (text : List ℕ) (value : A) → words ≡ others ++ word ∷ text ∷ [] → IsText text value → TakesLast word IsText words (Some value) others
takes_last word IsText words others text value spelled is = record { back = word ∷ text ∷ []; is_selector = (text, is, refl); spelled = spelled; unended = tt }

pub takes_none : {A : Type 0} (word : List ℕ) (IsText : List ℕ → A → Type 0) (words : List (List ℕ)) → Unended word words → TakesLast word IsText words None words
takes_none word IsText words unended = record { back = []; is_selector = refl; spelled = sym (append-nil words); unended = unended }

pub breaks_last : {A : Type 0} (word : List ℕ) (IsText : List ℕ → A → Type 0) (words : List (List ℕ)) (rest text : List ℕ) → words ≡ words_of rest ++ word ∷ text ∷ [] → ((value : A) → IsText text value → ⊥) → BreaksLast word IsText words
breaks_last word IsText words rest text spelled none = record { text = text; others = words_of rest; some = some_words rest; spelled = spelled; no_value = none }

-- what was taken is the only way to take a selector
last_one : {A : Type 0} (word : List ℕ) (IsText : List ℕ → A → Type 0) → ((text : List ℕ) (a b : A) → IsText text a → IsText text b → a ≡ b) → (words : List (List ℕ)) (v : Option A) (others : List (List ℕ)) → TakesLast word IsText words v others → 1 ≤ length others
    → (w : Option A) (front back : List (List ℕ)) → 1 ≤ length front → IsSelector word IsText w back → Unended word front → words ≡ front ++ back → (w ≡ v) × (front ≡ others)
last_one word IsText one words None others taken more None front back some is unended spelled =
    (refl, sym (append-nil front) ∙ ap (λ (l : List (List ℕ)). front ++ l) (sym is) ∙ sym spelled ∙ taken.spelled ∙ ap (λ (l : List (List ℕ)). others ++ l) taken.is_selector ∙ append-nil others)
last_one word IsText one words None others taken more (Some b) front back some (text, is_text, is) unended spelled =
    let whole : others ≡ front ++ word ∷ text ∷ [] = sym (append-nil others) ∙ ap (λ (l : List (List ℕ)). others ++ l) (sym taken.is_selector) ∙ sym taken.spelled ∙ spelled ∙ ap (λ (l : List (List ℕ)). front ++ l) is in
    absurd (taken.unended front text some whole)
last_one word IsText one words (Some a) others taken more None front back some is unended spelled =
    let (text, is_text, taken_is) = taken.is_selector in
    let whole : front ≡ others ++ word ∷ text ∷ [] = sym (append-nil front) ∙ ap (λ (l : List (List ℕ)). front ++ l) (sym is) ∙ sym spelled ∙ taken.spelled ∙ ap (λ (l : List (List ℕ)). others ++ l) taken_is in
    absurd (unended others text more whole)
last_one word IsText one words (Some a) others taken more (Some b) front back some (text, is_text, is) unended spelled =
    let (said, is_said, taken_is) = taken.is_selector in
    let h = end_two front others word text word said (ap (λ (l : List (List ℕ)). front ++ l) (sym is) ∙ sym spelled ∙ taken.spelled ∙ ap (λ (l : List (List ℕ)). others ++ l) taken_is) in
    (ap Some (one said b a (subst (λ (l : List ℕ). IsText l b) h.2 is_text) is_said), h.0)

-- where the text of a selector has no value, the words end with no selector of this word
last_none : {A : Type 0} (word : List ℕ) (IsText : List ℕ → A → Type 0) (words : List (List ℕ)) → BreaksLast word IsText words → (w : Option A) (front back : List (List ℕ)) → IsSelector word IsText w back → Unended word front → words ≡ front ++ back → ⊥
last_none word IsText words broken None front back is unended spelled =
    unended broken.others broken.text broken.some (sym (append-nil front) ∙ ap (λ (l : List (List ℕ)). front ++ l) (sym is) ∙ sym spelled ∙ broken.spelled)
last_none word IsText words broken (Some w) front back (text, is_text, is) unended spelled =
    let h = end_two front broken.others word text word broken.text (ap (λ (l : List (List ℕ)). front ++ l) (sym is) ∙ sym spelled ∙ broken.spelled) in
    broken.no_value w (subst (λ (l : List ℕ). IsText l w) h.2 is_text)

-- ---- the words before them
-- pairs of words of which none begins with this one
abbrev PairsLack : List ℕ → List (List ℕ) → Type 0
PairsLack word [] = Unit {0}
PairsLack word (w ∷ []) = ⊥
PairsLack word (w ∷ t ∷ rest) = (w ≢ word) × PairsLack word rest

lack_join : (word : List ℕ) (a b : List (List ℕ)) → PairsLack word a → PairsLack word b → PairsLack word (a ++ b)
lack_join word [] b p q = q
lack_join word (w ∷ []) b p q = absurd p
lack_join word (w ∷ t ∷ rest) b p q = (p.0, lack_join word rest b p.1 q)

paired_lack : (word : List ℕ) (a : List (List ℕ)) → is_trait word ≡ true → ArePaired false a → PairsLack word a
paired_lack word [] new p = tt
paired_lack word (w ∷ []) new p = absurd p
paired_lack word (w ∷ t ∷ rest) new p = (λ e. true≢false (sym new ∙ ap is_trait (sym e) ∙ p.0), paired_lack word rest new p.1)

selector_lack : {A : Type 0} (word other : List ℕ) (IsText : List ℕ → A → Type 0) (value : Option A) (words : List (List ℕ)) → other ≢ word → IsSelector other IsText value words → PairsLack word words
selector_lack word other IsText None words differs is = subst (PairsLack word) (sym is) tt
selector_lack word other IsText (Some value) words differs (text, is_text, is) = subst (PairsLack word) (sym is) (differs, tt)

pairs_unended : (word : List ℕ) (rest front : List (List ℕ)) (text : List ℕ) → PairsLack word rest → rest ≡ front ++ word ∷ text ∷ [] → ⊥
pairs_unended word [] front text p e = omega (arith, ap length e, length-append front (word ∷ text ∷ []))
pairs_unended word (w ∷ []) front text p e = p
pairs_unended word (w ∷ t ∷ rest) [] text p e = let same : w ≡ word = cc in p.0 same
pairs_unended word (w ∷ t ∷ rest) (a ∷ []) text p e = let back : rest ≡ text ∷ [] = cc in subst (PairsLack word) back p.1
pairs_unended word (w ∷ t ∷ rest) (a ∷ b ∷ front) text p e = let back : rest ≡ front ++ word ∷ text ∷ [] = cc in pairs_unended word rest front text p.1 back

behind_one : (word verb : List ℕ) (rest : List (List ℕ)) → PairsLack word rest → Unended word (verb ∷ rest)
behind_one word verb rest p [] text some e = omega (arith, some)
behind_one word verb rest p (f ∷ front) text some e = let back : rest ≡ front ++ word ∷ text ∷ [] = cc in pairs_unended word rest front text p back

behind_two : (word verb said : List ℕ) (rest : List (List ℕ)) → PairsLack word rest → Unended word (verb ∷ said ∷ rest)
behind_two word verb said rest p [] text some e = omega (arith, some)
behind_two word verb said rest p (f ∷ []) text some e = let back : rest ≡ text ∷ [] = cc in subst (PairsLack word) back p
behind_two word verb said rest p (f ∷ g ∷ front) text some e = let back : rest ≡ front ++ word ∷ text ∷ [] = cc in pairs_unended word rest front text p back

headed_unended : (word : List ℕ) (a x : List (List ℕ)) → is_trait word ≡ true → IsHeaded a → PairsLack word x → Unended word (a ++ x)
headed_unended word a x new (by_one verb rest is front n p) q =
    subst (λ (l : List (List ℕ)). Unended word (l ++ x)) (sym is) (behind_one word verb (rest ++ x) (lack_join word rest x (paired_lack word rest new p) q))
headed_unended word a x new (by_two verb said rest is front n p) q =
    subst (λ (l : List (List ℕ)). Unended word (l ++ x)) (sym is) (behind_two word verb said (rest ++ x) (lack_join word rest x (paired_lack word rest new p) q))

pub headed_some : (a x : List (List ℕ)) → IsHeaded a → 1 ≤ length (a ++ x)
headed_some a x (by_one verb rest is front n p) = omega (arith, ap length is, length-append a x)
headed_some a x (by_two verb said rest is front n p) = omega (arith, ap length is, length-append a x)

-- ---- all three
abbrev through : List ℕ
through = codes "through"

abbrev community : List ℕ
community = codes "community"

abbrev other : List ℕ
other = codes "other"

pub ends_with : (words first second third : List (List ℕ)) (t : TraitsValue) → TakesLast (codes "other") IsTypeText words t.other first → TakesLast (codes "community") IsCommunityText first t.community second
    → TakesLast (codes "through") IsThroughText second t.through third → EndsWith t words third
ends_with words first second third t one two three = record {
  back = three.back ++ (two.back ++ one.back);
  are_traits = record {
    through_words = three.back;
    community_words = two.back;
    other_words = one.back;
    is_through = three.is_selector;
    is_community = two.is_selector;
    is_other = one.is_selector;
    spelled = refl;
  };
  spelled =
      one.spelled ∙ ap (λ (l : List (List ℕ)). l ++ one.back) (two.spelled ∙ ap (λ (l : List (List ℕ)). l ++ two.back) three.spelled)
      ∙ append_assoc (third ++ three.back) two.back one.back ∙ append_assoc third three.back (two.back ++ one.back);
}

module _ (words : List (List ℕ)) (v : QueryValue) (t : TraitsValue) (asks : AsksWith v t words) where
  abbrev front : List (List ℕ)
  front = asks.front

  abbrev tw : List (List ℕ)
  tw = asks.are_traits.through_words

  abbrev cw : List (List ℕ)
  cw = asks.are_traits.community_words

  abbrev ow : List (List ℕ)
  ow = asks.are_traits.other_words

  headed : IsHeaded front
  headed = rows_headed v front asks.asks asks.is_query

  whole : words ≡ (front ++ (tw ++ cw)) ++ ow
  whole =
      asks.spelled ∙ ap (λ (l : List (List ℕ)). front ++ l) (asks.are_traits.spelled ∙ sym (append_assoc tw cw ow)) ∙ sym (append_assoc front (tw ++ cw) ow)

  no_other : Unended other (front ++ (tw ++ cw))
  no_other = headed_unended other front (tw ++ cw) refl headed
      (lack_join other tw cw (selector_lack other through IsThroughText t.through tw (differ_at 1 through other (λ e. omega (arith, e))) asks.are_traits.is_through)
      (selector_lack other community IsCommunityText t.community cw (differ_at 0 community other (λ e. omega (arith, e))) asks.are_traits.is_community))

  no_community : Unended community (front ++ tw)
  no_community = headed_unended community front tw refl headed (selector_lack community through IsThroughText t.through tw (differ_at 0 through community (λ e. omega (arith, e))) asks.are_traits.is_through)

  no_through : Unended through front
  no_through = subst (Unended through) (append-nil front) (headed_unended through front [] refl headed tt)

  pub no_first : BreaksLast (codes "other") IsTypeText words → ⊥
  no_first broken = last_none other IsTypeText words broken t.other (front ++ (tw ++ cw)) ow asks.are_traits.is_other no_other whole

  module _ (first : List (List ℕ)) (a : Option ℕ) (one : TakesLast (codes "other") IsTypeText words a first) (some_first : 1 ≤ length first) where
    by_one_taken : (t.other ≡ a) × (front ++ (tw ++ cw) ≡ first)
    by_one_taken = last_one other IsTypeText type_one words a first one some_first t.other (front ++ (tw ++ cw)) ow (headed_some front (tw ++ cw) headed) asks.are_traits.is_other no_other whole

    first_is : first ≡ (front ++ tw) ++ cw
    first_is = sym by_one_taken.1 ∙ sym (append_assoc front tw cw)

    pub no_second : BreaksLast (codes "community") IsCommunityText first → ⊥
    no_second broken = last_none community IsCommunityText first broken t.community (front ++ tw) cw asks.are_traits.is_community no_community first_is

    module _ (second : List (List ℕ)) (b : Option CommunityValue) (two : TakesLast (codes "community") IsCommunityText first b second) (some_second : 1 ≤ length second) where
      by_two_taken : (t.community ≡ b) × (front ++ tw ≡ second)
      by_two_taken = last_one community IsCommunityText community_one first b second two some_second t.community (front ++ tw) cw (headed_some front tw headed) asks.are_traits.is_community no_community first_is

      pub no_third : BreaksLast (codes "through") IsThroughText second → ⊥
      no_third broken = last_none through IsThroughText second broken t.through front tw asks.are_traits.is_through no_through (sym by_two_taken.1)

      pub three_taken : (third : List (List ℕ)) (c : Option (List ℕ)) → TakesLast (codes "through") IsThroughText second c third → 1 ≤ length third → (t.through ≡ c) × (t.community ≡ b) × (t.other ≡ a) × (front ≡ third)
      three_taken third c three some_third =
          let h = last_one through IsThroughText through_one second c third three some_third t.through front tw (subst (λ (l : List (List ℕ)). 1 ≤ length l) (append-nil front) (headed_some front [] headed)) asks.are_traits.is_through no_through (sym by_two_taken.1) in
          (h.0, by_two_taken.0, by_one_taken.0, h.1)

pub same_traits : (t u : TraitsValue) → t.through ≡ u.through → t.community ≡ u.community → t.other ≡ u.other → t ≡ u
same_traits t u a b c = λ i. record { through = a i; community = b i; other = c i }
