-- The text of a community, by its colons.
use Rattle.std.proofs.Common.{◌≡◌, inl, inr, ℕ, ◌+◌, ◌*◌, ◌/◌, ◌%◌, ◌<◌, ◌≤◌, List, [], ◌∷◌, ◌++◌, All, Contains, length, Option, Some, unwrap_or, codes, refl, sym, ap, subst, ◌∙◌, arith}
use Rattle.std.specs.Prelude.{IfSome}
use Rattle.bmp_specs.specs.NumberText.{number_text, most_number, IsNumberText, IsNumberUpTo}
use Rattle.bmp_specs.specs.PeerText.{hex_text}
use Rattle.ask_specs.specs.Traits.{CommunityValue, plain, large, extended}
use Rattle.ask_specs.specs.TraitText.{IsCommunityText, colon, extended_text, extended_word}
use Rattle.ask_specs.proofs.CommunityOne.{eight, view_of, word_cases, word_lacks}
use Rattle.ask_specs.proofs.TraitOne.{Octets, hex_lacks, octets_all}
use Rattle.ask_specs.proofs.WordLaws.{Lacks, cut_one, lacks_from, lacks_middle, number_lacks}
use Rattle.query_lang.specs.CommunityTexts.{worded, IsNoNumbers}
use Rattle.query_lang.specs.Reading.{CutsFirst}
use Rattle.query_lang.proofs.ExtendedReading.{IsLow}

number_free : (n : ℕ) → n ≤ most_number → Lacks colon (number_text n)
number_free n fits = number_lacks colon n (omega arith) (omega (arith, fits))

-- ---- an extended community
-- its text is in hexadecimal, or begins with a word
data Form (text octets : List ℕ) : Type 0 where
  in_hex : Octets octets → text ≡ hex_text octets → Form text octets
  in_words : (l : ℕ) (word back : List ℕ) → extended_word l ≡ Some word → text ≡ word ++ (colon ∷ back) → Form text octets

form : (text octets : List ℕ) → IsCommunityText text (extended octets) → Form text octets
form text octets p =
    let u = eight octets p.0 in
    let os = octets_all octets p.1 in
    elim (view_of text u.h u.l u.a u.b u.c u.d u.e u.f (elim p.2 [ inl same ↦ inl (same ∙ ap (λ (o : List ℕ). extended_text o) u.is) | inr same ↦ inr (same ∙ ap hex_text u.is) ])) [
      | inl hex ↦ in_hex os (hex ∙ ap hex_text (sym u.is))
      | inr w ↦ in_words u.l w.word w.back w.word_is w.spelled
    ]

hex_free : (octets : List ℕ) → Octets octets → Lacks colon (hex_text octets)
hex_free octets os = hex_lacks colon (omega arith) octets os

word_free : (l : ℕ) (word : List ℕ) → extended_word l ≡ Some word → Lacks colon word
word_free l word is = word_lacks l colon word (λ x. omega (arith, x)) (λ x. omega (arith, x)) (λ x. omega (arith, x)) is

pub octets_are : (text o : List ℕ) → length o ≡ 8 → All (λ octet. octet < 256) o → text ≡ hex_text o → IsCommunityText text (extended o)
octets_are text o long all is = (long, all, inr is)

-- ---- a text without a colon
pub no_colon : (text : List ℕ) → (Contains text colon → ⊥) → ((o : List ℕ) → length o ≡ 8 → All (λ octet. octet < 256) o → text ≡ hex_text o → ⊥) → (v : CommunityValue) → IsCommunityText text v → ⊥
no_colon text free none (plain c) p = lacks_middle colon (number_text (c / 65536)) (number_text (c % 65536)) (subst (Lacks colon) p.1 (lacks_from colon text free))
no_colon text free none (large a b c) p = lacks_middle colon (number_text a) (number_text b ++ (colon ∷ number_text c)) (subst (Lacks colon) p.3 (lacks_from colon text free))
no_colon text free none (extended o) p = by_form (form text o p)
  where
    by_form : Form text o → ⊥
    by_form (in_hex os is) = none o p.0 p.1 is
    by_form (in_words l word back w is) = lacks_middle colon word back (subst (Lacks colon) is (lacks_from colon text free))

-- ---- a word and a colon
number_is_no_word : (l n : ℕ) (word : List ℕ) → n ≤ most_number → extended_word l ≡ Some word → word ≡ number_text n → ⊥
number_is_no_word l n word fits is same =
    let digits : Lacks 114 word = subst (Lacks 114) (sym same) (number_lacks 114 n (omega arith) (omega (arith, fits))) in
    elim (word_cases l word is) [
      | inl p ↦ let them = subst (Lacks 114) p.1 digits in them.0 refl
      | inr p ↦ let them = subst (Lacks 114) p.1 digits in them.0 refl
    ]

low_word : (low : ℕ) → IsLow low → extended_word low ≡ Some (unwrap_or (extended_word low) [])
low_word low (inl e) = subst (λ (n : ℕ). extended_word n ≡ Some (unwrap_or (extended_word n) [])) (sym e) refl
low_word low (inr e) = subst (λ (n : ℕ). extended_word n ≡ Some (unwrap_or (extended_word n) [])) (sym e) refl

pub worded_is : (low : ℕ) (text first rest : List ℕ) → CutsFirst colon text first rest → first ≡ unwrap_or (extended_word low) [] → text ≡ worded low rest
worded_is low text first rest cut same = cut.spelled ∙ ap (λ (w : List ℕ). w ++ (colon ∷ rest)) same

pub no_word : (low : ℕ) (text first rest : List ℕ) → IsLow low → CutsFirst colon text first rest → first ≡ unwrap_or (extended_word low) [] → ((o : List ℕ) → IsCommunityText (worded low rest) (extended o) → ⊥) → (v : CommunityValue) → IsCommunityText text v → ⊥
no_word low text first rest is cut same none (plain c) p =
    let word = unwrap_or (extended_word low) [] in
    let h = cut_one colon word (number_text (c / 65536)) rest (number_text (c % 65536)) (word_free low word (low_word low is)) (number_free (c / 65536) (omega (arith, p.0))) (sym (worded_is low text first rest cut same) ∙ p.1) in
    number_is_no_word low (c / 65536) word (omega (arith, p.0)) (low_word low is) h.0
no_word low text first rest is cut same none (large a b c) p =
    let word = unwrap_or (extended_word low) [] in
    let h = cut_one colon word (number_text a) rest (number_text b ++ (colon ∷ number_text c)) (word_free low word (low_word low is)) (number_free a p.0) (sym (worded_is low text first rest cut same) ∙ p.3) in
    number_is_no_word low a word p.0 (low_word low is) h.0
no_word low text first rest is cut same none (extended o) p = none o (subst (λ (t : List ℕ). IsCommunityText t (extended o)) (worded_is low text first rest cut same) p)

-- ---- another front and a colon
pub no_front : (text first rest : List ℕ) → CutsFirst colon text first rest → (first ≡ codes "rt" → ⊥) → (first ≡ codes "ro" → ⊥) → IsNoNumbers (first ++ (colon ∷ rest)) → (v : CommunityValue) → IsCommunityText text v → ⊥
no_front text first rest cut no_target no_origin none (plain c) p = none.no_plain c (subst (λ (t : List ℕ). IsCommunityText t (plain c)) cut.spelled p)
no_front text first rest cut no_target no_origin none (large a b c) p = none.no_large a b c (subst (λ (t : List ℕ). IsCommunityText t (large a b c)) cut.spelled p)
no_front text first rest cut no_target no_origin none (extended o) p = by_form (form text o p)
  where
    by_form : Form text o → ⊥
    by_form (in_hex os is) = lacks_middle colon first rest (subst (Lacks colon) (sym is ∙ cut.spelled) (hex_free o os))
    by_form (in_words l word back w is) =
        let h = cut_one colon word first back rest (word_free l word w) (lacks_from colon first cut.first) (sym is ∙ cut.spelled) in
        elim (word_cases l word w) [
          | inl e ↦ no_target (sym h.0 ∙ e.1)
          | inr e ↦ no_origin (sym h.0 ∙ e.1)
        ]

pub numbers_some : (text first rest : List ℕ) (r : Option CommunityValue) → CutsFirst colon text first rest → IfSome r (λ c. IsCommunityText (first ++ (colon ∷ rest)) c) → IfSome r (λ c. IsCommunityText text c)
numbers_some text first rest r cut is = subst (λ (t : List ℕ). IfSome r (λ c. IsCommunityText t c)) (sym cut.spelled) is

-- ---- numbers
pub plain_is : (first rest : List ℕ) (high low : ℕ) → IsNumberUpTo 65535 first high → IsNumberUpTo 65535 rest low → IsCommunityText (first ++ (colon ∷ rest)) (plain (high * 65536 + low))
plain_is first rest high low p q =
    let h : (high * 65536 + low) / 65536 ≡ high = omega (arith, q.within) in
    let l : (high * 65536 + low) % 65536 ≡ low = omega (arith, q.within) in
    (omega (arith, p.within, q.within), λ i. (p.spelled ∙ ap number_text (sym h)) i ++ (colon ∷ (q.spelled ∙ ap number_text (sym l)) i))

-- a front without a colon, and a rest without one
pub no_pair : (first rest : List ℕ) → (Contains first colon → ⊥) → (Contains rest colon → ⊥) → ((a b : ℕ) → IsNumberUpTo 65535 first a → IsNumberUpTo 65535 rest b → ⊥) → IsNoNumbers (first ++ (colon ∷ rest))
no_pair first rest free rest_free none = record {
  no_plain = λ c p.
      let h = cut_one colon first (number_text (c / 65536)) rest (number_text (c % 65536)) (lacks_from colon first free) (number_free (c / 65536) (omega (arith, p.0))) p.1 in
      none (c / 65536) (c % 65536) (record { within = omega (arith, p.0); spelled = h.0 }) (record { within = omega arith; spelled = h.1 });
  no_large = λ a b c p.
      let h = cut_one colon first (number_text a) rest (number_text b ++ (colon ∷ number_text c)) (lacks_from colon first free) (number_free a p.0) p.3 in
      lacks_middle colon (number_text b) (number_text c) (subst (Lacks colon) h.1 (lacks_from colon rest rest_free));
}

-- and a rest with one
pub no_three : (first rest second third : List ℕ) → (Contains first colon → ⊥) → CutsFirst colon rest second third → ((a b c : ℕ) → IsNumberText first a → IsNumberText second b → IsNumberText third c → ⊥) → IsNoNumbers (first ++ (colon ∷ rest))
no_three first rest second third free cut none = record {
  no_plain = λ c p.
      let h = cut_one colon first (number_text (c / 65536)) rest (number_text (c % 65536)) (lacks_from colon first free) (number_free (c / 65536) (omega (arith, p.0))) p.1 in
      lacks_middle colon second third (subst (Lacks colon) (sym h.1 ∙ cut.spelled) (number_free (c % 65536) (omega arith)));
  no_large = λ a b c p.
      let h = cut_one colon first (number_text a) rest (number_text b ++ (colon ∷ number_text c)) (lacks_from colon first free) (number_free a p.0) p.3 in
      let k = cut_one colon second (number_text b) third (number_text c) (lacks_from colon second cut.first) (number_free b p.1) (sym cut.spelled ∙ h.1) in
      none a b c (record { within = p.0; spelled = h.0 }) (record { within = p.1; spelled = k.0 }) (record { within = p.2; spelled = k.1 });
}

pub large_is : (first rest second third : List ℕ) (a b c : ℕ) → CutsFirst colon rest second third → IsNumberText first a → IsNumberText second b → IsNumberText third c → IsCommunityText (first ++ (colon ∷ rest)) (large a b c)
large_is first rest second third a b c cut p q r = (p.within, q.within, r.within, λ i. p.spelled i ++ (colon ∷ (cut.spelled ∙ (λ j. q.spelled j ++ (colon ∷ r.spelled j))) i))
