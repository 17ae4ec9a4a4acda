-- One capability after another, and one parameter after another, as the loops read them.
use Rattle.std.proofs.Common.{◌≡◌, ◌<◌, ℕ, Bool, true, false, cond, List, [], ◌∷◌, ◌++◌, length, Option, Some, None, refl, sym, ap, subst, ◌∙◌, append_assoc, append-nil}
use Rattle.std.specs.Prelude.{find, option_to_list, if◌then◌else◌}
use Rattle.std.proofs.lemmas.List.Concat.{flat_map-append}
use Rattle.std.proofs.lemmas.List.Elements.{filter_map-append}
use Rattle.std.proofs.lemmas.List.Folds.{find-append}
use Rattle.std.specs.List.{cons_option, filter_map, flat_map}
use Rattle.std.specs.Option.{option_map, option_or}
use Rattle.byteorder.specs.Endian.{big_number}
use Rattle.bmp_specs.specs.Coded.{IsCoded}
use Rattle.bmp_specs.specs.Open.{IsParameter, family_in, has_extended_length, is_four_octet, paths_in}
use Rattle.bmp_specs.specs.Parts.{AreParts}
use Rattle.bmp_specs.specs.Sequence.{HasFront}
use Rattle.bmp_specs.specs.Values.{CapValue, CodedValue}
use Rattle.bmp_specs.proofs.CodedCode.{coded_code}
use Rattle.bmp_specs.proofs.OpenOne.{parameter_code}
use Rattle.bmp_specs.proofs.PartsRead.{HasRead, HasRead-front, HasRead-none, HasRead-end}
use Rattle.bgp_open.specs.Telling.{Adds, AddsParameters, HasCapabilities, Tells, TellsRest}
use Rattle.bgp_open.specs.declared.read.Announced.{Announced}

-- one AS number, where the capability has it
four_single : (c : CodedValue) (b : Bool) → option_map (λ (d : CodedValue). big_number 4 d.value) (cond b (Some c) None) ≡ cond b (Some (big_number 4 c.value)) None
four_single c true = refl
four_single c false = refl

option_map-or : {X Y : Type 0} (f : X → Y) (o p : Option X) → option_map f (option_or o p) ≡ option_or (option_map f o) (option_map f p)
option_map-or f None p = refl
option_map-or f (Some x) p = refl

-- the first AS number, once one more capability is there
four_push : (cs : List CodedValue) (c : CodedValue)
    → option_map (λ (d : CodedValue). big_number 4 d.value) (find is_four_octet (cs ++ c ∷ []))
    ≡ option_or (option_map (λ (d : CodedValue). big_number 4 d.value) (find is_four_octet cs)) (if is_four_octet c then Some (big_number 4 c.value) else None)
four_push cs c =
    let f : CodedValue → ℕ = λ d. big_number 4 d.value in
    ap (λ (o : Option CodedValue). option_map f o) (find-append is_four_octet cs (c ∷ []))
    ∙ option_map-or f (find is_four_octet cs) (find is_four_octet (c ∷ []))
    ∙ ap (λ (o : Option ℕ). option_or (option_map f (find is_four_octet cs)) o) (four_single c (is_four_octet c))

family_single : (o : Option CapValue) → cons_option o [] ≡ option_to_list o
family_single None = refl
family_single (Some x) = refl

-- what is told once one more capability was taken in
pub tells_more : (cs : List CodedValue) (c : CodedValue) (a b : Announced) → Tells cs a → b.four ≡ option_or a.four (if is_four_octet c then Some (big_number 4 c.value) else None)
    → b.families ≡ a.families ++ option_to_list (family_in c) → b.paths ≡ a.paths ++ paths_in c → Tells (cs ++ c ∷ []) b
tells_more cs c a b t four families paths = record {
  four_is = four ∙ ap (λ (o : Option ℕ). option_or o (if is_four_octet c then Some (big_number 4 c.value) else None)) t.four_is ∙ sym (four_push cs c);
  families_are = families ∙ ap (λ (l : List CapValue). l ++ option_to_list (family_in c)) t.families_are
      ∙ ap (λ (l : List CapValue). filter_map family_in cs ++ l) (sym (family_single (family_in c))) ∙ sym (filter_map-append family_in cs (c ∷ []));
  paths_are = paths ∙ ap (λ (l : List CapValue). l ++ paths_in c) t.paths_are
      ∙ ap (λ (l : List CapValue). flat_map paths_in cs ++ l) (sym (append-nil (paths_in c))) ∙ sym (flat_map-append paths_in cs (c ∷ []));
}

-- what is added in two steps
adds_both : (ds es : List CodedValue) (a b c : Announced) → Adds ds a b → Adds es b c → Adds (ds ++ es) a c
adds_both ds es a b c p q cs t = rw (← append_assoc cs ds es) (q (cs ++ ds) (p cs t))

-- the capabilities that were read of these bytes, and what they added
pub record ReadsCapabilities (bytes rest : List ℕ) (first now : Announced) : Type 0 where
  pub ds : List CodedValue
  pub read : HasRead IsCoded bytes ds rest
  pub adds : Adds ds first now

pub capabilities_more : (bytes rest after : List ℕ) (first now next : Announced) (c : CodedValue) → ReadsCapabilities bytes rest first now → HasFront IsCoded rest c after
    → Adds (c ∷ []) now next → ReadsCapabilities bytes after first next
capabilities_more bytes rest after first now next c p here more = record {
  ds = p.ds ++ c ∷ [];
  read = HasRead-front IsCoded coded_code bytes p.ds rest after c p.read here;
  adds = adds_both p.ds (c ∷ []) first now next p.adds more;
}

pub capabilities_stuck : (bytes rest : List ℕ) (first now : Announced) → ReadsCapabilities bytes rest first now → 0 < length rest → ((v : CodedValue) (after : List ℕ) → HasFront IsCoded rest v after → ⊥)
    → (ds : List CodedValue) → AreParts IsCoded bytes ds → ⊥
capabilities_stuck bytes rest first now p left none ds are = HasRead-none IsCoded bytes p.ds rest p.read left none ds are

pub capabilities_end : (bytes rest : List ℕ) (first now : Announced) → ReadsCapabilities bytes rest first now → length rest ≡ 0 → (ds : List CodedValue) × AreParts IsCoded bytes ds × Adds ds first now
capabilities_end bytes rest first now p empty = (p.ds, HasRead-end IsCoded bytes p.ds rest p.read empty, p.adds)

-- the parameters that were read of these bytes, and what they added
pub record ReadsParameters (bytes rest : List ℕ) (first now : Announced) : Type 0 where
  pub lists : List (List CodedValue)
  pub read : HasRead IsParameter bytes lists rest
  pub adds : Adds (flat_map (λ ds. ds) lists) first now

-- a parameter at the front, with its capabilities
parameter_front : (rest after : List ℕ) (c : CodedValue) (ds : List CodedValue) → HasFront IsCoded rest c after → HasCapabilities c.code c.value ds → HasFront IsParameter rest ds after
parameter_front rest after c ds (front, split, is) has = (front, split, record { parameter = c; is = is; capabilities = has })

pub parameters_more : (bytes rest after : List ℕ) (first now next : Announced) (c : CodedValue) (ds : List CodedValue) → ReadsParameters bytes rest first now → HasFront IsCoded rest c after
    → HasCapabilities c.code c.value ds → Adds ds now next → ReadsParameters bytes after first next
parameters_more bytes rest after first now next c ds p here has more =
    let together : flat_map (λ (es : List CodedValue). es) (p.lists ++ ds ∷ []) ≡ flat_map (λ es. es) p.lists ++ ds =
    flat_map-append (λ (es : List CodedValue). es) p.lists (ds ∷ []) ∙ ap (λ (l : List CodedValue). flat_map (λ es. es) p.lists ++ l) (append-nil ds) in
    record {
      lists = p.lists ++ ds ∷ [];
      read = HasRead-front IsParameter parameter_code bytes p.lists rest after ds p.read (parameter_front rest after c ds here has);
      adds = rw together (adds_both (flat_map (λ es. es) p.lists) ds first now next p.adds more);
    }

-- no code and value stands at the front
pub parameters_stuck : (bytes rest : List ℕ) (first now : Announced) → ReadsParameters bytes rest first now → 0 < length rest → ((v : CodedValue) (after : List ℕ) → HasFront IsCoded rest v after → ⊥)
    → (lists : List (List CodedValue)) → AreParts IsParameter bytes lists → ⊥
parameters_stuck bytes rest first now p left none lists are =
    HasRead-none IsParameter bytes p.lists rest p.read left (λ ds after (front, split, is). none is.parameter after (front, split, is.is)) lists are

-- the parameter at the front has no capabilities that fill it
pub parameter_broken : (bytes rest after : List ℕ) (first now : Announced) (c : CodedValue) → ReadsParameters bytes rest first now → 0 < length rest → HasFront IsCoded rest c after
    → ((ds : List CodedValue) → HasCapabilities c.code c.value ds → ⊥) → (lists : List (List CodedValue)) → AreParts IsParameter bytes lists → ⊥
parameter_broken bytes rest after first now c p left (front, split, is) none lists are =
    HasRead-none IsParameter bytes p.lists rest p.read left here lists are
  where
    here : (ds : List CodedValue) (other : List ℕ) → HasFront IsParameter rest ds other → ⊥
    here ds other (front', split', is') =
        let same = coded_code.one front' front other after is'.parameter c is'.is is (sym split'.joined ∙ split.joined) in
        none ds (subst (λ (v : CodedValue). HasCapabilities v.code v.value ds) same.1 is'.capabilities)

pub parameters_end : (bytes rest : List ℕ) (first now : Announced) → ReadsParameters bytes rest first now → length rest ≡ 0 → AddsParameters bytes first now
parameters_end bytes rest first now p empty = record { lists = p.lists; are = HasRead-end IsParameter bytes p.lists rest p.read empty; adds = p.adds }

-- what was added to nothing is what the rest of the body announces
pub rest_told : (stated : ℕ) (rest : List ℕ) (first now : Announced) → has_extended_length stated rest ≡ false → length rest ≡ stated → Tells [] first → AddsParameters rest first now → TellsRest stated rest now
rest_told stated rest first now plain len t p = rw plain (len, record { lists = p.lists; are = p.are; tells = p.adds [] t })
