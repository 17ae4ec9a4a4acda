-- The frame of a field of path attributes, found one attribute after another as the loop does.
use Rattle.std.proofs.Common.{◌≡◌, ◌⊎◌, ◌<◌, ℕ, Bool, true, false, true≢false, cond, eqb, ◌||◌, List, [], ◌∷◌, ◌++◌, length, filter, find, Option, Some, None, inl, inr, refl, sym, ap, subst, ◌∙◌, eqb-true, append-nil}
use Rattle.std.specs.Prelude.{◌==◌, option_copied}
use Rattle.std.specs.Option.{option_map, option_or}
use Rattle.std.specs.List.{IsDistinct, list_any}
use Rattle.std.specs.Cmp.{nat_eq_equiv}
use Rattle.std.proofs.lemmas.List.{map-append}
use Rattle.std.proofs.lemmas.List.Elements.{filter-append}
use Rattle.std.proofs.lemmas.Map.Keys.{IsDistinct-push}
use Rattle.bmp_specs.specs.Attribute.{IsAttribute}
use Rattle.bmp_specs.specs.Attributes.{Optional, as_path, mp_reach_nlri, mp_unreach_nlri, value_of}
use Rattle.bmp_specs.specs.FramedUpdate.{is_multiprotocol}
use Rattle.bmp_specs.specs.MpNlri.{IsMpReach, IsMpUnreach}
use Rattle.bmp_specs.specs.Sequence.{HasFront}
use Rattle.bmp_specs.specs.Values.{OtherValue}
use Rattle.bmp_specs.proofs.AttributesOne.{attribute_code}
use Rattle.bmp_specs.proofs.PartsRead.{AreParts-one, HasRead, HasRead-end, HasRead-front, HasRead-nil, HasRead-none}
use Rattle.path_attrs.specs.Field.{Breaks}
use Rattle.path_attrs.specs.Framed.{AreAt, Doubles, HasNoFrame, HasParts, HasPut}
use Rattle.path_attrs.specs.declared.frame.Places.{Places}
use Rattle.path_attrs.specs.declared.part.Part.{Part}
use Rattle.path_attrs.proofs.Counting.{codes_of, none_distinct, twice}
use Rattle.path_attrs.proofs.Reading.{front_part}

-- ---- the value of a type
pushed_at : (b : Bool) (a : OtherValue) → option_map (λ (d : OtherValue). d.value) (cond b (Some a) None) ≡ cond b (option_or None (Some a.value)) None
pushed_at true a = refl
pushed_at false a = refl

first_stays : (b : Bool) (v w : List ℕ) → Some v ≡ cond b (option_or (Some v) (Some w)) (Some v)
first_stays true v w = refl
first_stays false v w = refl

-- an attribute more gives the value of its type, where none did before
value_of_push : (k : ℕ) (parts : List OtherValue) (a : OtherValue) → value_of k (parts ++ a ∷ []) ≡ cond (eqb a.code k) (option_or (value_of k parts) (Some a.value)) (value_of k parts)
value_of_push k [] a = pushed_at (eqb a.code k) a
value_of_push k (p ∷ parts) a = go (eqb p.code k) (value_of_push k parts a)
  where
    go : (b : Bool) → value_of k (parts ++ a ∷ []) ≡ cond (eqb a.code k) (option_or (value_of k parts) (Some a.value)) (value_of k parts)
        → option_map (λ (d : OtherValue). d.value) (cond b (Some p) (find (λ d. d.code == k) (parts ++ a ∷ [])))
        ≡ cond (eqb a.code k) (option_or (option_map (λ (d : OtherValue). d.value) (cond b (Some p) (find (λ d. d.code == k) parts))) (Some a.value)) (option_map (λ (d : OtherValue). d.value) (cond b (Some p) (find (λ d. d.code == k) parts)))
    go true later = first_stays (eqb a.code k) p.value a.value
    go false later = later

-- a type is listed exactly where it has a value
listed : (k : ℕ) (parts : List OtherValue) → ((value_of k parts ≡ None) × (list_any (eqb k) (codes_of parts) ≡ false)) ⊎ ((value_of k parts ≡ None → ⊥) × (list_any (eqb k) (codes_of parts) ≡ true))
listed k [] = inl (refl, refl)
listed k (p ∷ parts) = go (eqb p.code k) (eqb k p.code) (nat_eq_equiv.symm k p.code) (listed k parts)
  where
    go : (b c : Bool) → c ≡ b → ((value_of k parts ≡ None) × (list_any (eqb k) (codes_of parts) ≡ false)) ⊎ ((value_of k parts ≡ None → ⊥) × (list_any (eqb k) (codes_of parts) ≡ true))
        → ((option_map (λ (d : OtherValue). d.value) (cond b (Some p) (find (λ d. d.code == k) parts)) ≡ None) × ((c || list_any (eqb k) (codes_of parts)) ≡ false))
        ⊎ ((option_map (λ (d : OtherValue). d.value) (cond b (Some p) (find (λ d. d.code == k) parts)) ≡ None → ⊥) × ((c || list_any (eqb k) (codes_of parts)) ≡ true))
    go true true e later = inr (λ h. cc, refl)
    go true false e later = absurd cc
    go false true e later = absurd cc
    go false false e later = later

none_listed : (k : ℕ) (parts : List OtherValue) → value_of k parts ≡ None → list_any (eqb k) (codes_of parts) ≡ false
none_listed k parts none = elim (listed k parts) [ inl n ↦ n.1 | inr s ↦ absurd (s.0 none) ]

some_listed : (k : ℕ) (parts : List OtherValue) → ¬ (value_of k parts ≡ None) → list_any (eqb k) (codes_of parts) ≡ true
some_listed k parts some = elim (listed k parts) [ inl n ↦ absurd (some n.0) | inr s ↦ s.1 ]

-- ---- the multiprotocol types
abbrev kept_codes : List OtherValue → List ℕ
kept_codes parts = filter is_multiprotocol (codes_of parts)

none_kept_at : (b c : Bool) (j : ℕ) (k : ℕ) (ks : List ℕ) → eqb k j ≡ c → (c || list_any (eqb k) ks) ≡ false → (list_any (eqb k) ks ≡ false → list_any (eqb k) (filter is_multiprotocol ks) ≡ false)
    → list_any (eqb k) (cond b (j ∷ filter is_multiprotocol ks) (filter is_multiprotocol ks)) ≡ false
none_kept_at b true j k ks is none later = absurd (true≢false none)
none_kept_at true false j k ks is none later = ap (λ (b : Bool). b || list_any (eqb k) (filter is_multiprotocol ks)) is ∙ later none
none_kept_at false false j k ks is none later = later none

none_kept : (k : ℕ) (ks : List ℕ) → list_any (eqb k) ks ≡ false → list_any (eqb k) (filter is_multiprotocol ks) ≡ false
none_kept k [] none = refl
none_kept k (j ∷ ks) none = none_kept_at (is_multiprotocol j) (eqb k j) j k ks refl none (none_kept k ks)

some_kept_at : (b c : Bool) (j : ℕ) (k : ℕ) (ks : List ℕ) → is_multiprotocol k ≡ true → is_multiprotocol j ≡ b → eqb k j ≡ c → (c || list_any (eqb k) ks) ≡ true
    → (list_any (eqb k) ks ≡ true → list_any (eqb k) (filter is_multiprotocol ks) ≡ true) → list_any (eqb k) (cond b (j ∷ filter is_multiprotocol ks) (filter is_multiprotocol ks)) ≡ true
some_kept_at true true j k ks multi test is some later = ap (λ (b : Bool). b || list_any (eqb k) (filter is_multiprotocol ks)) is
some_kept_at false true j k ks multi test is some later = absurd (true≢false (sym multi ∙ ap is_multiprotocol (eqb-true k j is) ∙ test))
some_kept_at true false j k ks multi test is some later = ap (λ (b : Bool). b || list_any (eqb k) (filter is_multiprotocol ks)) is ∙ later some
some_kept_at false false j k ks multi test is some later = later some

some_kept : (k : ℕ) (ks : List ℕ) → is_multiprotocol k ≡ true → list_any (eqb k) ks ≡ true → list_any (eqb k) (filter is_multiprotocol ks) ≡ true
some_kept k [] multi some = absurd (true≢false (sym some))
some_kept k (j ∷ ks) multi some = some_kept_at (is_multiprotocol j) (eqb k j) j k ks multi refl refl some (some_kept k ks multi)

kept_append : (parts others : List OtherValue) → kept_codes (parts ++ others) ≡ kept_codes parts ++ kept_codes others
kept_append parts others = ap (λ (l : List ℕ). filter is_multiprotocol l) (map-append (λ (d : OtherValue). d.code) parts others) ∙ filter-append is_multiprotocol (codes_of parts) (codes_of others)

kept_first : (b : Bool) (a : OtherValue) (others : List OtherValue) → is_multiprotocol a.code ≡ b → b ≡ true → kept_codes (a ∷ others) ≡ a.code ∷ kept_codes others
kept_first true a others is e = ap (λ (b : Bool). cond b (a.code ∷ kept_codes others) (kept_codes others)) is
kept_first false a others is e = absurd (true≢false (sym e))

-- one more attribute, of a type that is no multiprotocol one or stands there for the first time
distinct_push : (b : Bool) (parts : List OtherValue) (a : OtherValue) → is_multiprotocol a.code ≡ b → IsDistinct (λ j k. j == k) (kept_codes parts) → (b ≡ true → value_of a.code parts ≡ None)
    → IsDistinct (λ j k. j == k) (kept_codes (parts ++ a ∷ []))
distinct_push true parts a is d first =
    let fresh = none_kept a.code (codes_of parts) (none_listed a.code parts (first refl)) in
    let together : kept_codes (parts ++ a ∷ []) ≡ kept_codes parts ++ a.code ∷ [] = kept_append parts (a ∷ []) ∙ ap (λ (l : List ℕ). kept_codes parts ++ l) (kept_first true a [] is refl) in
    subst (λ (l : List ℕ). IsDistinct (λ j k. j == k) l) (sym together) (IsDistinct-push nat_eq_equiv (kept_codes parts) a.code d fresh)
distinct_push false parts a is d first =
    let none : kept_codes (a ∷ []) ≡ [] = ap (λ (b : Bool). cond b (a.code ∷ []) []) is in
    let together : kept_codes (parts ++ a ∷ []) ≡ kept_codes parts = kept_append parts (a ∷ []) ∙ ap (λ (l : List ℕ). kept_codes parts ++ l) none ∙ append-nil (kept_codes parts) in
    subst (λ (l : List ℕ). IsDistinct (λ j k. j == k) l) (sym together) d

-- ---- the loop
-- the attributes up to the rest, and where three of them stand
pub record Frames (field rest : List ℕ) (places : Places) : Type 0 where
  pub parts : List OtherValue
  pub read : HasRead IsAttribute field parts rest
  pub distinct : IsDistinct (λ j k. j == k) (kept_codes parts)
  pub at : AreAt parts places

pub frames_first : (field : List ℕ) (places : Places) → option_copied places.reach ≡ None → option_copied places.unreach ≡ None → option_copied places.as_path ≡ None → Frames field field places
frames_first field places reach unreach path = record { parts = []; read = HasRead-nil IsAttribute field; distinct = none_distinct; at = record { reach_is = reach; unreach_is = unreach; path_is = path } }

abbrev pub part_value : Part → OtherValue
part_value part = record { flags = part.flags; code = part.code; value = part.value.now }

-- the value of a type that may stand there once
once : (b : Bool) (k : ℕ) (parts : List OtherValue) (a : OtherValue) (old new : Option (List ℕ)) → eqb a.code k ≡ b → new ≡ cond b (Some a.value) old → old ≡ value_of k parts → (b ≡ true → old ≡ None) → new ≡ value_of k (parts ++ a ∷ [])
once true k parts a old new is e before first =
    let none : value_of k parts ≡ None = sym before ∙ first refl in
    e ∙ sym (value_of_push k parts a ∙ ap (λ (b : Bool). cond b (option_or (value_of k parts) (Some a.value)) (value_of k parts)) is ∙ ap (λ (o : Option (List ℕ)). option_or o (Some a.value)) none)
once false k parts a old new is e before first = e ∙ before ∙ sym (value_of_push k parts a ∙ ap (λ (b : Bool). cond b (option_or (value_of k parts) (Some a.value)) (value_of k parts)) is)

multi_at : (code : ℕ) (b c : Bool) → (eqb code mp_reach_nlri ≡ b) → (eqb code mp_unreach_nlri ≡ c) → (b || c) ≡ true → (code ≡ mp_reach_nlri) ⊎ (code ≡ mp_unreach_nlri)
multi_at code true c p q e = inl (eqb-true code mp_reach_nlri p)
multi_at code false true p q e = inr (eqb-true code mp_unreach_nlri q)
multi_at code false false p q e = absurd (true≢false (sym e))

pub frames_more : (field rest after : List ℕ) (old new : Places) (part : Part) → Frames field rest old → HasFront IsAttribute rest (part_value part) after → HasPut old part new → Frames field after new
frames_more field rest after old new part f here put =
    let a = part_value part in
    let first : is_multiprotocol a.code ≡ true → value_of a.code f.parts ≡ None = λ multi. elim (multi_at a.code (eqb a.code mp_reach_nlri) (eqb a.code mp_unreach_nlri) refl refl multi) [
      | inl e ↦ subst (λ (k : ℕ). value_of k f.parts ≡ None) (sym e) (sym f.at.reach_is ∙ put.reach_first e)
      | inr e ↦ subst (λ (k : ℕ). value_of k f.parts ≡ None) (sym e) (sym f.at.unreach_is ∙ put.unreach_first e)
    ] in
    record {
      parts = f.parts ++ a ∷ [];
      read = HasRead-front IsAttribute attribute_code field f.parts rest after a f.read here;
      distinct = distinct_push (is_multiprotocol a.code) f.parts a refl f.distinct first;
      at = record {
        reach_is = once (eqb a.code mp_reach_nlri) mp_reach_nlri f.parts a (option_copied old.reach) (option_copied new.reach) refl put.reach_is f.at.reach_is (λ e. put.reach_first (eqb-true a.code mp_reach_nlri e));
        unreach_is = once (eqb a.code mp_unreach_nlri) mp_unreach_nlri f.parts a (option_copied old.unreach) (option_copied new.unreach) refl put.unreach_is f.at.unreach_is (λ e. put.unreach_first (eqb-true a.code mp_unreach_nlri e));
        path_is = put.path_is ∙ ap (λ (o : Option (List ℕ)). cond (eqb a.code as_path) (option_or o (Some a.value)) o) f.at.path_is ∙ sym (value_of_push as_path f.parts a);
      };
    }

pub frames_stuck : (field rest : List ℕ) (places : Places) → Frames field rest places → 0 < length rest → ((a : OtherValue) (after : List ℕ) → HasFront IsAttribute rest a after → ⊥) → (parts : List OtherValue) → HasParts field parts → ⊥
frames_stuck field rest places f left none parts has = HasRead-none IsAttribute field f.parts rest f.read left none parts has.are

-- a second one of a type
second : (field rest after : List ℕ) (read : List OtherValue) (a : OtherValue) → HasRead IsAttribute field read rest → HasFront IsAttribute rest a after → is_multiprotocol a.code ≡ true → ¬ (value_of a.code read ≡ None)
    → (parts : List OtherValue) → HasParts field parts → ⊥
second field rest after read a has here multi some parts h =
    let q = has.only parts h.are in
    let r = front_part rest after a q.0 here q.2 in
    let together : kept_codes parts ≡ kept_codes read ++ a.code ∷ kept_codes r.0 =
    ap (λ (l : List OtherValue). kept_codes l) (q.1 ∙ ap (λ (l : List OtherValue). read ++ l) r.1) ∙ kept_append read (a ∷ r.0) ∙ ap (λ (l : List ℕ). kept_codes read ++ l) (kept_first true a r.0 multi refl) in
    twice (kept_codes read) (kept_codes r.0) a.code (some_kept a.code (codes_of read) multi (some_listed a.code read some)) (subst (λ (l : List ℕ). IsDistinct (λ j k. j == k) l) together h.distinct)

pub frames_twice : (field rest after : List ℕ) (places : Places) (part : Part) → Frames field rest places → HasFront IsAttribute rest (part_value part) after → Doubles places part → (parts : List OtherValue) → HasParts field parts → ⊥
frames_twice field rest after places part f here (inl (e, some)) =
    second field rest after f.parts (part_value part) f.read here (ap is_multiprotocol e) (λ none. some (f.at.reach_is ∙ subst (λ (k : ℕ). value_of k f.parts ≡ None) e none))
frames_twice field rest after places part f here (inr (e, some)) =
    second field rest after f.parts (part_value part) f.read here (ap is_multiprotocol e) (λ none. some (f.at.unreach_is ∙ subst (λ (k : ℕ). value_of k f.parts ≡ None) e none))

pub frames_end : (field rest : List ℕ) (places : Places) → Frames field rest places → length rest ≡ 0 → (parts : List OtherValue) × HasParts field parts × AreAt parts places
frames_end field rest places f empty = (f.parts, record { are = HasRead-end IsAttribute field f.parts rest f.read empty; distinct = f.distinct }, f.at)

-- ---- the whole
same_parts : (field : List ℕ) (parts others : List OtherValue) → HasParts field parts → HasParts field others → parts ≡ others
same_parts field parts others p q = AreParts-one IsAttribute attribute_code field parts others p.are q.are

pub no_reach : (field : List ℕ) (places : Places) → (parts : List OtherValue) × HasParts field parts × AreAt parts places → Breaks IsMpReach (option_copied places.reach) → HasNoFrame field
no_reach field places (parts, has, at) breaks others reach unreach h r u =
    breaks reach (subst (λ (o : Option (List ℕ)). Optional IsMpReach o reach) (ap (λ (l : List OtherValue). value_of mp_reach_nlri l) (same_parts field others parts h has) ∙ sym at.reach_is) r)

pub no_unreach : (field : List ℕ) (places : Places) → (parts : List OtherValue) × HasParts field parts × AreAt parts places → Breaks IsMpUnreach (option_copied places.unreach) → HasNoFrame field
no_unreach field places (parts, has, at) breaks others reach unreach h r u =
    breaks unreach (subst (λ (o : Option (List ℕ)). Optional IsMpUnreach o unreach) (ap (λ (l : List OtherValue). value_of mp_unreach_nlri l) (same_parts field others parts h has) ∙ sym at.unreach_is) u)
