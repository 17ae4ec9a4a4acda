-- The attributes of a field, judged one after another, and the values at their types, gathered one after another, as the
-- loops do.
use Rattle.std.proofs.Common.{◌≡◌, ◌≢◌, ◌+◌, ◌<◌, ◌≤◌, ℕ, zero, suc, Bool, true, false, cond, eqb, ◌||◌, List, [], ◌∷◌, ◌++◌, length, get_or, set, replicate, Option, Some, None, refl, sym, ap, subst, ◌∙◌, append-nil, arith, length-set}
use Rattle.std.specs.Prelude.{◌==◌, find, option_copied}
use Rattle.std.specs.Borrow.{Bor}
use Rattle.std.specs.Option.{option_map}
use Rattle.std.specs.List.{AllByRecursion, IsDistinct, list_any}
use Rattle.std.specs.Cmp.{nat_eq_equiv}
use Rattle.std.proofs.lemmas.Bool.{eq-eqb}
use Rattle.std.proofs.lemmas.Grind.{get_or-set_at}
use Rattle.std.proofs.lemmas.List.{get_or-set_other}
use Rattle.std.proofs.lemmas.Bool.Decides.{nat_tests}
use Rattle.bmp_specs.specs.declared.wire.Width.{Width}
use Rattle.bmp_specs.specs.Attribute.{IsAttribute}
use Rattle.bmp_specs.specs.Attributes.{as4_aggregator, mp_reach_nlri, mp_unreach_nlri, value_of}
use Rattle.bmp_specs.specs.Parts.{AreParts}
use Rattle.bmp_specs.specs.Sequence.{HasFront}
use Rattle.bmp_specs.specs.Values.{OtherValue}
use Rattle.bmp_specs.proofs.AttributesOne.{attribute_code}
use Rattle.bmp_specs.proofs.PartsRead.{HasRead, HasRead-nil, HasRead-front, HasRead-end}
use Rattle.path_attrs.specs.Field.{value_at}
use Rattle.path_attrs.specs.Judged.{FitsType, IsFound}
use Rattle.path_attrs.proofs.Counting.{Counts, codes_of, counts_first, counts_more, stands_twice}

-- each attribute has the form of its type
abbrev pub HaveForms : Width → List OtherValue → Type 0
HaveForms width parts = AllByRecursion (λ a. FitsType width a.code a.value) parts

forms_push : (width : Width) (parts : List OtherValue) (a : OtherValue) → HaveForms width parts → FitsType width a.code a.value → HaveForms width (parts ++ a ∷ [])
forms_push width [] a all here = (here, tt)
forms_push width (p ∷ parts) a all here = (all.0, forms_push width parts a all.1 here)

-- an attribute of another type changes nothing
pub value_of_other : (k : ℕ) (parts : List OtherValue) (a : OtherValue) → eqb a.code k ≡ false → value_of k (parts ++ a ∷ []) ≡ value_of k parts
value_of_other k [] a e = ap (λ (b : Bool). option_map (λ (d : OtherValue). d.value) (cond b (Some a) None)) e
value_of_other k (p ∷ parts) a e = go (eqb p.code k) (value_of_other k parts a e)
  where
    go : (b : Bool) → value_of k (parts ++ a ∷ []) ≡ value_of k parts → option_map (λ (d : OtherValue). d.value) (cond b (Some p) (find (λ d. d.code == k) (parts ++ a ∷ []))) ≡ option_map (λ (d : OtherValue). d.value) (cond b (Some p) (find (λ d. d.code == k) parts))
    go true later = refl
    go false later = later

-- the first of its type has the value of the type, whatever follows
pub value_of_first : (k : ℕ) (parts others : List OtherValue) (a : OtherValue) → list_any (eqb k) (codes_of parts) ≡ false → eqb a.code k ≡ true → value_of k (parts ++ a ∷ others) ≡ Some a.value
value_of_first k [] others a none e = ap (λ (b : Bool). option_map (λ (d : OtherValue). d.value) (cond b (Some a) (find (λ d. d.code == k) others))) e
value_of_first k (p ∷ parts) others a none e = go (eqb k p.code) refl none (λ h. value_of_first k parts others a h e)
  where
    go : (b : Bool) → eqb k p.code ≡ b → (b || list_any (eqb k) (codes_of parts)) ≡ false → (list_any (eqb k) (codes_of parts) ≡ false → value_of k (parts ++ a ∷ others) ≡ Some a.value) → value_of k (p ∷ parts ++ a ∷ others) ≡ Some a.value
    go true q h later = absurd cc
    go false q h later =
        let other : eqb p.code k ≡ false = nat_eq_equiv.symm p.code k ∙ q in
        ap (λ (b : Bool). option_map (λ (d : OtherValue). d.value) (cond b (Some p) (find (λ d. d.code == k) (parts ++ a ∷ others)))) other ∙ later h

-- the value of a type, where an attribute more is of the type and none before was
pub value_of_now : (k : ℕ) (parts : List OtherValue) (a : OtherValue) → list_any (eqb a.code) (codes_of parts) ≡ false → a.code ≡ k → value_of k (parts ++ a ∷ []) ≡ Some a.value
value_of_now k parts a none e =
    value_of_first k parts [] a (subst (λ (j : ℕ). list_any (eqb j) (codes_of parts) ≡ false) e none) (eq-eqb a.code k e)

-- the same, where it is of another type
pub value_of_still : (k : ℕ) (parts : List OtherValue) (a : OtherValue) → a.code ≢ k → value_of k (parts ++ a ∷ []) ≡ value_of k parts
value_of_still k parts a apart = let other : eqb a.code k ≡ false = grind (arith, nat_tests) in value_of_other k parts a other

-- Judging.

-- the attributes up to the rest were counted, each has the form of its type, and these are the values of two types
pub record Judges (width : Width) (field rest : List ℕ) (seen : List Bool) (count : ℕ) (reach unreach : Option (List ℕ)) : Type 0 where
  pub counts : Counts field rest seen count
  pub forms : HaveForms width counts.parts
  pub reach_is : reach ≡ value_of mp_reach_nlri counts.parts
  pub unreach_is : unreach ≡ value_of mp_unreach_nlri counts.parts

pub judges_first : (width : Width) (field : List ℕ) → Judges width field field (replicate 256 false) 0 None None
judges_first width field = record { counts = counts_first field; forms = tt; reach_is = refl; unreach_is = refl }

-- an attribute more, of which the values of the two types are known
pub judges_more : (width : Width) (field rest after : List ℕ) (seen : List Bool) (count : ℕ) (reach unreach : Option (List ℕ)) (a : OtherValue) (now lost : Option (List ℕ)) → (j : Judges width field rest seen count reach unreach)
    → HasFront IsAttribute rest a after → a.code < 256 → get_or seen a.code false ≡ false → FitsType width a.code a.value
    → (list_any (eqb a.code) (codes_of j.counts.parts) ≡ false → (now ≡ value_of mp_reach_nlri (j.counts.parts ++ a ∷ [])) × (lost ≡ value_of mp_unreach_nlri (j.counts.parts ++ a ∷ [])))
    → Judges width field after (set seen a.code true) (count + 1) now lost
judges_more width field rest after seen count reach unreach a now lost j here octet fresh fits are =
    let c = j.counts in
    let q = are (sym (c.marks a.code) ∙ fresh) in
    record {
      counts = counts_more field rest after seen count a c here octet fresh;
      forms = forms_push width c.parts a j.forms fits;
      reach_is = q.0;
      unreach_is = q.1;
    }

module _ (width : Width) (field rest after : List ℕ) (seen : List Bool) (count : ℕ) (reach unreach : Option (List ℕ)) (a : OtherValue) (j : Judges width field rest seen count reach unreach)
    (here : HasFront IsAttribute rest a after) (octet : a.code < 256) (fresh : get_or seen a.code false ≡ false) (fits : FitsType width a.code a.value) where
  pub judges_reach : a.code ≡ mp_reach_nlri → Judges width field after (set seen a.code true) (count + 1) (Some a.value) unreach
  judges_reach e = judges_more width field rest after seen count reach unreach a (Some a.value) unreach j here octet fresh fits
      (λ none. (sym (value_of_now mp_reach_nlri j.counts.parts a none e), j.unreach_is ∙ sym (value_of_still mp_unreach_nlri j.counts.parts a (omega (arith, e)))))

  pub judges_unreach : a.code ≡ mp_unreach_nlri → Judges width field after (set seen a.code true) (count + 1) reach (Some a.value)
  judges_unreach e = judges_more width field rest after seen count reach unreach a reach (Some a.value) j here octet fresh fits
      (λ none. (j.reach_is ∙ sym (value_of_still mp_reach_nlri j.counts.parts a (omega (arith, e))), sym (value_of_now mp_unreach_nlri j.counts.parts a none e)))

  pub judges_other : a.code ≢ mp_reach_nlri → a.code ≢ mp_unreach_nlri → Judges width field after (set seen a.code true) (count + 1) reach unreach
  judges_other r u = judges_more width field rest after seen count reach unreach a reach unreach j here octet fresh fits
      (λ none. (j.reach_is ∙ sym (value_of_still mp_reach_nlri j.counts.parts a r), j.unreach_is ∙ sym (value_of_still mp_unreach_nlri j.counts.parts a u)))

pub judges_end : (width : Width) (field rest : List ℕ) (seen : List Bool) (count : ℕ) (reach unreach : Option (List ℕ)) → Judges width field rest seen count reach unreach → length rest ≡ 0 → IsFound width field count reach unreach
judges_end width field rest seen count reach unreach j empty =
    let c = j.counts in
    record {
      forms = record { parts = c.parts; are = HasRead-end IsAttribute field c.parts rest c.read empty; distinct = c.distinct; forms = j.forms; count_is = c.count_is };
      reach_is = j.reach_is;
      unreach_is = j.unreach_is;
    }

-- Gathering.

-- where no two attributes of the field are of one type, the values of those up to the rest stand at their types
pub record Gathers (field rest : List ℕ) (values : List (Option (Bor (List ℕ)))) : Type 0 where
  pub parts : List OtherValue
  pub read : HasRead IsAttribute field parts rest
  pub wide : length values ≡ 19
  pub stand : (all : List OtherValue) → AreParts IsAttribute field all → IsDistinct (λ j k. j == k) (codes_of all) → (k : ℕ) → k ≤ as4_aggregator → value_at values k ≡ value_of k parts

nothing : (n k : ℕ) → value_at (replicate n None) k ≡ None
nothing zero k = refl
nothing (suc n) zero = refl
nothing (suc n) (suc k) = nothing n k

pub gathers_first : (field : List ℕ) → Gathers field field (replicate 19 None)
gathers_first field = record { parts = []; read = HasRead-nil IsAttribute field; wide = refl; stand = λ all are distinct k le. nothing 19 k }

-- where no two are of one type, the next is of none of the types before
fresh_next : (field rest after : List ℕ) (parts : List OtherValue) (a : OtherValue) → HasRead IsAttribute field parts rest → HasFront IsAttribute rest a after → (all : List OtherValue) → AreParts IsAttribute field all
    → IsDistinct (λ j k. j == k) (codes_of all) → list_any (eqb a.code) (codes_of parts) ≡ false
fresh_next field rest after parts a read here all are distinct = go (list_any (eqb a.code) (codes_of parts)) refl
  where
    go : (b : Bool) → list_any (eqb a.code) (codes_of parts) ≡ b → list_any (eqb a.code) (codes_of parts) ≡ false
    go true e = absurd (stands_twice field rest after parts a read here e all are distinct)
    go false e = e

module _ (field rest after : List ℕ) (values : List (Option (Bor (List ℕ)))) (a : OtherValue) (g : Gathers field rest values) (here : HasFront IsAttribute rest a after) where
  -- an attribute of one of the first types is put at its type
  pub gathers_more : (v : Option (Bor (List ℕ))) → option_copied v ≡ Some a.value → a.code < 19 → Gathers field after (set values a.code v)
  gathers_more v is low = record {
    parts = g.parts ++ a ∷ [];
    read = HasRead-front IsAttribute attribute_code field g.parts rest after a g.read here;
    wide = length-set values a.code v ∙ g.wide;
    stand = λ all are distinct k le. go k (fresh_next field rest after g.parts a g.read here all are distinct) (g.stand all are distinct k le) (eqb a.code k) refl;
  }
    where
      go : (k : ℕ) → list_any (eqb a.code) (codes_of g.parts) ≡ false → value_at values k ≡ value_of k g.parts → (b : Bool) → eqb a.code k ≡ b → value_at (set values a.code v) k ≡ value_of k (g.parts ++ a ∷ [])
      go k none before true e =
          let same : k ≡ a.code = grind (arith, nat_tests) in
          ap option_copied (get_or-set_at values a.code k v None same (omega (arith, low, g.wide))) ∙ is ∙ sym (value_of_now k g.parts a none (sym same))
      go k none before false e =
          let apart : k ≢ a.code = grind (arith, nat_tests) in
          ap option_copied (get_or-set_other values a.code k v None apart) ∙ before ∙ sym (value_of_other k g.parts a e)

  -- one of another type is passed over
  pub gathers_past : 19 ≤ a.code → Gathers field after values
  gathers_past high = record {
    parts = g.parts ++ a ∷ [];
    read = HasRead-front IsAttribute attribute_code field g.parts rest after a g.read here;
    wide = g.wide;
    stand = λ all are distinct k le. g.stand all are distinct k le ∙ sym (value_of_still k g.parts a (omega (arith, high, le)));
  }

pub gathers_end : (field rest : List ℕ) (values : List (Option (Bor (List ℕ)))) → Gathers field rest values → ((a : OtherValue) (after : List ℕ) → HasFront IsAttribute rest a after → ⊥) → (all : List OtherValue) → AreParts IsAttribute field all
    → IsDistinct (λ j k. j == k) (codes_of all) → (code : ℕ) → code ≤ as4_aggregator → value_at values code ≡ value_of code all
gathers_end field rest values g none all are distinct code le =
    let q = g.read.only all are in
    g.stand all are distinct code le ∙ ap (λ (l : List OtherValue). value_of code l) (at q.0 q.2 q.1)
  where
    at : (later : List OtherValue) → AreParts IsAttribute rest later → all ≡ g.parts ++ later → g.parts ≡ all
    at [] e p = sym (p ∙ append-nil g.parts)
    at (b ∷ later) (front, after, split, is, _) p = absurd (none b after (front, split, is))
