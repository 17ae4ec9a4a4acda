-- AS numbers with commas between them.
use Rattle.std.proofs.Common.{◌≡◌, ℕ, ◌+◌, ◌<◌, ◌≤◌, List, [], ◌∷◌, ◌++◌, All, Contains, length, map, Option, Some, None, refl, sym, ap, subst, ◌∙◌, arith, length-append}
use Rattle.std.specs.List.{join_with_byte}
use Rattle.std.specs.Prelude.{IfSome}
use Rattle.std.proofs.lemmas.List.Elements.{All-nil, All-cons, All-head, All-tail}
use Rattle.bmp_specs.specs.NumberText.{number_text, IsNumberText}
use Rattle.bmp_specs.specs.RouteLine.{comma}
use Rattle.ask_specs.specs.TraitText.{IsThroughText}
use Rattle.ask_specs.proofs.TraitOne.{Small}
use Rattle.ask_specs.proofs.WordLaws.{Lacks, cut_one, lacks_from, lacks_middle, number_lacks}
use Rattle.query_lang.specs.Reading.{CutsFirst}

-- numbers, each with a comma behind it, and what is left
abbrev pub before : List ℕ → List ℕ → List ℕ
before [] left = left
before (n ∷ ns) left = number_text n ++ (comma ∷ before ns left)

abbrev joined : List ℕ → List ℕ
joined ns = join_with_byte comma (map number_text ns)

pub record Seen (seen text left : List ℕ) : Type 0 where
  pub small : All Small seen
  pub spelled : text ≡ before seen left

pub before_more : (seen : List ℕ) (n : ℕ) (left : List ℕ) → before (seen ++ n ∷ []) left ≡ before seen (number_text n ++ (comma ∷ left))
before_more [] n left = refl
before_more (m ∷ ms) n left = ap (λ (l : List ℕ). number_text m ++ (comma ∷ l)) (before_more ms n left)

before_joined : (seen : List ℕ) (n : ℕ) → before seen (number_text n) ≡ joined (seen ++ n ∷ [])
before_joined [] n = refl
before_joined (m ∷ []) n = refl
before_joined (m ∷ k ∷ ms) n = ap (λ (l : List ℕ). number_text m ++ (comma ∷ l)) (before_joined (k ∷ ms) n)

all_more : (seen : List ℕ) (n : ℕ) → All Small seen → Small n → All Small (seen ++ n ∷ [])
all_more [] n all small = All-cons Small n [] small (All-nil Small)
all_more (m ∷ ms) n all small = All-cons Small m (ms ++ n ∷ []) (All-head Small m ms all) (all_more ms n (All-tail Small m ms all) small)

-- the next number, with a comma behind it
pub seen_more : (seen text left piece rest : List ℕ) (n : ℕ) → Seen seen text left → CutsFirst comma left piece rest → IsNumberText piece n → Seen (seen ++ n ∷ []) text rest
seen_more seen text left piece rest n is cut number = record {
  small = all_more seen n is.small number.within;
  spelled = is.spelled ∙ ap (λ (l : List ℕ). before seen l) (cut.spelled ∙ ap (λ (l : List ℕ). l ++ (comma ∷ rest)) number.spelled) ∙ sym (before_more seen n rest);
}

-- and the last one
pub asns_are : (seen text left : List ℕ) (n : ℕ) → length seen < 4 → Seen seen text left → IsNumberText left n → IsThroughText text (seen ++ n ∷ [])
asns_are seen text left n few is number = record {
  some = omega (arith, length-append seen (n ∷ []));
  few = omega (arith, few, length-append seen (n ∷ []));
  each = all_more seen n is.small number.within;
  spelled = is.spelled ∙ ap (λ (l : List ℕ). before seen l) number.spelled ∙ before_joined seen n;
}

pub asns_some : (r : Option (List ℕ)) (ns text : List ℕ) → IfSome r (λ a. a ≡ ns) → IsThroughText text ns → IfSome r (λ a. IsThroughText text a)
asns_some None ns text same is = tt
asns_some (Some a) ns text same is = subst (IsThroughText text) (sym same) is

-- ---- whatever numbers the text is, those that were read are the first of them
number_free : (n : ℕ) → Small n → Lacks comma (number_text n)
number_free n small = number_lacks comma n (omega arith) (omega (arith, small))

-- numbers that are left
pub record Left (left : List ℕ) (size : ℕ) : Type 0 where
  pub n : ℕ
  pub others : List ℕ
  pub small : All Small (n ∷ others)
  pub spelled : left ≡ joined (n ∷ others)
  pub size_is : size + length (n ∷ others) ≤ 4

left_over : (seen ns left : List ℕ) (size : ℕ) → All Small seen → All Small ns → size + length ns ≤ 4 → 1 ≤ length ns → before seen left ≡ joined ns → Left left (size + length seen)
left_over [] [] left size few all fits some e = absurd (omega (arith, some))
left_over [] (n ∷ ns) left size few all fits some e = record { n = n; others = ns; small = all; spelled = e; size_is = omega (arith, fits) }
left_over (m ∷ ms) [] left size few all fits some e = absurd (omega (arith, some))
left_over (m ∷ ms) (n ∷ []) left size few all fits some e = absurd (lacks_middle comma (number_text m) (before ms left) (subst (Lacks comma) (sym e) (number_free n (All-head Small n [] all))))
left_over (m ∷ ms) (n ∷ k ∷ ns) left size few all fits some e =
    let cut = cut_one comma (number_text m) (number_text n) (before ms left) (joined (k ∷ ns)) (number_free m (All-head Small m ms few)) (number_free n (All-head Small n (k ∷ ns) all)) e in
    let h = left_over ms (k ∷ ns) left (size + 1) (All-tail Small m ms few) (All-tail Small n (k ∷ ns) all) (omega (arith, fits)) (omega arith) cut.1 in
    subst (Left left) (omega arith) h

pub left_of : (seen text left ns : List ℕ) → Seen seen text left → IsThroughText text ns → Left left (length seen)
left_of seen text left ns is are = subst (Left left) (omega arith) (left_over seen ns left 0 is.small are.each (omega (arith, are.few)) are.some (sym is.spelled ∙ are.spelled))

-- without a comma one number is left
pub no_last : (left : List ℕ) (size : ℕ) → (Contains left comma → ⊥) → ((n : ℕ) → IsNumberText left n → ⊥) → Left left size → ⊥
no_last left size free none is = go is.n is.others is.small is.spelled
  where
    go : (n : ℕ) (others : List ℕ) → All Small (n ∷ others) → left ≡ joined (n ∷ others) → ⊥
    go n [] small e = none n (record { within = All-head Small n [] small; spelled = e })
    go n (k ∷ others) small e = lacks_middle comma (number_text n) (joined (k ∷ others)) (subst (Lacks comma) e (lacks_from comma left free))

-- with one, two at least are left
pub record Two (piece : List ℕ) (size : ℕ) : Type 0 where
  pub n : ℕ
  pub is : IsNumberText piece n
  pub few : size + 2 ≤ 4

pub two_left : (left piece rest : List ℕ) (size : ℕ) → CutsFirst comma left piece rest → Left left size → Two piece size
two_left left piece rest size cut is = go is.n is.others is.small is.spelled is.size_is
  where
    go : (n : ℕ) (others : List ℕ) → All Small (n ∷ others) → left ≡ joined (n ∷ others) → size + length (n ∷ others) ≤ 4 → Two piece size
    go n [] small e fits = absurd (lacks_middle comma piece rest (subst (Lacks comma) (sym e ∙ cut.spelled) (number_free n (All-head Small n [] small))))
    go n (k ∷ others) small e fits =
        let h = cut_one comma piece (number_text n) rest (joined (k ∷ others)) (lacks_from comma piece cut.first) (number_free n (All-head Small n (k ∷ others) small)) (sym cut.spelled ∙ e) in
        record { n = n; is = record { within = All-head Small n (k ∷ others) small; spelled = h.0 }; few = omega (arith, fits) }
