-- One TLV after another, as the loops read them.
use Rattle.std.proofs.Common.{◌≡◌, ◌+◌, ◌<◌, ◌≤◌, ◌==◌, ℕ, Bool, true, false, cond, List, [], ◌∷◌, ◌++◌, length, Option, Some, None, refl, sym, ap, ◌∙◌, append-nil, append_assoc, arith, zero-add, map, filter}
use Rattle.std.specs.Prelude.{count_by, is_none, if◌then◌else◌}
use Rattle.std.specs.List.{cons_option, filter_map, last_or}
use Rattle.std.proofs.lemmas.List.{length_push}
use Rattle.std.proofs.lemmas.List.Elements.{filter_map-append}
use Rattle.std.proofs.lemmas.List.Sums.{sum_by-append}
use Rattle.bmp_specs.specs.Sequence.{HasFront}
use Rattle.bmp_specs.specs.Statistics.{statistic_of}
use Rattle.bmp_specs.specs.Tlv.{AreTlvs, IsTlv, last_value, values_of}
use Rattle.bmp_specs.specs.Values.{StatValue, TlvValue}
use Rattle.bmp_specs.proofs.PartsRead.{HasRead, HasRead-front, HasRead-none, HasRead-end, HasRead-only}
use Rattle.bmp_specs.proofs.TlvCode.{tlv_code}

tlvs_more : (bytes rest after : List ℕ) (ts : List TlvValue) (t : TlvValue) → HasRead IsTlv bytes ts rest → HasFront IsTlv rest t after → HasRead IsTlv bytes (ts ++ t ∷ []) after
tlvs_more bytes rest after ts t read here = HasRead-front IsTlv tlv_code bytes ts rest after t read here

-- some TLVs were read, and these are what follows
abbrev pub HasSome : List ℕ → List ℕ → Type 0
HasSome bytes rest = (ts : List TlvValue) × HasRead IsTlv bytes ts rest

pub some_more : (bytes rest after : List ℕ) (t : TlvValue) → HasSome bytes rest → HasFront IsTlv rest t after → HasSome bytes after
some_more bytes rest after t (ts, read) here = (ts ++ t ∷ [], tlvs_more bytes rest after ts t read here)

pub some_stuck : (bytes rest : List ℕ) → HasSome bytes rest → 0 < length rest → ((t : TlvValue) (after : List ℕ) → HasFront IsTlv rest t after → ⊥) → (ts : List TlvValue) → AreTlvs bytes ts → ⊥
some_stuck bytes rest (ts, read) left none us are = HasRead-none IsTlv bytes ts rest read left none us are

pub some_end : (bytes rest : List ℕ) → HasSome bytes rest → length rest ≡ 0 → (ts : List TlvValue) × AreTlvs bytes ts
some_end bytes rest (ts, read) empty = (ts, HasRead-end IsTlv bytes ts rest read empty)

-- the last value of a kind, once one more TLV is there
last_push : (kind : ℕ) (found : Option (List ℕ)) (ts : List TlvValue) (t : TlvValue)
    → last_or found (values_of kind (ts ++ t ∷ [])) ≡ (if t.kind == kind then Some t.value else last_or found (values_of kind ts))
last_push kind found [] t = at (t.kind == kind)
  where
    at : (b : Bool) → last_or found (map (λ (u : TlvValue). u.value) (cond b (t ∷ []) [])) ≡ cond b (Some t.value) found
    at true = refl
    at false = refl
last_push kind found (u ∷ ts) t = at (u.kind == kind) (last_push kind (Some u.value) ts t) (last_push kind found ts t)
  where
    at : (b : Bool)
        → last_or (Some u.value) (values_of kind (ts ++ t ∷ [])) ≡ (if t.kind == kind then Some t.value else last_or (Some u.value) (values_of kind ts))
        → last_or found (values_of kind (ts ++ t ∷ [])) ≡ (if t.kind == kind then Some t.value else last_or found (values_of kind ts))
        → last_or found (map (λ (v : TlvValue). v.value) (cond b (u ∷ filter (λ (v : TlvValue). v.kind == kind) (ts ++ t ∷ [])) (filter (λ (v : TlvValue). v.kind == kind) (ts ++ t ∷ []))))
        ≡ (if t.kind == kind then Some t.value else last_or found (map (λ (v : TlvValue). v.value) (cond b (u ∷ filter (λ (v : TlvValue). v.kind == kind) ts) (filter (λ (v : TlvValue). v.kind == kind) ts))))
    at true taken passed = taken
    at false taken passed = passed

-- the last value of a kind among the TLVs that were read
pub record HasLast (kind : ℕ) (bytes rest : List ℕ) (found : Option (List ℕ)) : Type 0 where
  pub ts : List TlvValue
  pub read : HasRead IsTlv bytes ts rest
  pub is : found ≡ last_value kind ts

pub last_more : (kind : ℕ) (bytes rest after : List ℕ) (found next : Option (List ℕ)) (t : TlvValue) → HasLast kind bytes rest found → HasFront IsTlv rest t after
    → next ≡ (if t.kind == kind then Some t.value else found) → HasLast kind bytes after next
last_more kind bytes rest after found next t p here e = record {
  ts = p.ts ++ t ∷ [];
  read = tlvs_more bytes rest after p.ts t p.read here;
  is = e ∙ ap (λ (o : Option (List ℕ)). if t.kind == kind then Some t.value else o) p.is ∙ sym (last_push kind None p.ts t);
}

pub last_end : (kind : ℕ) (bytes rest : List ℕ) (found : Option (List ℕ)) → HasLast kind bytes rest found → ((t : TlvValue) (after : List ℕ) → HasFront IsTlv rest t after → ⊥)
    → (ts : List TlvValue) → AreTlvs bytes ts → found ≡ last_value kind ts
last_end kind bytes rest found p none ts are = p.is ∙ ap (λ (l : List TlvValue). last_value kind l) (sym (HasRead-only IsTlv bytes p.ts rest p.read none ts are))

-- how many of the TLVs that were read pass a test
pub record HasCount (test : TlvValue → Bool) (bytes rest : List ℕ) (count : ℕ) : Type 0 where
  pub ts : List TlvValue
  pub read : HasRead IsTlv bytes ts rest
  pub is : count ≡ count_by test ts
  pub within : count + length rest ≤ length bytes

one_at_most : (b : Bool) → cond b 1 0 ≤ 1
one_at_most true = omega arith
one_at_most false = omega arith

pub count_more : (test : TlvValue → Bool) (bytes rest after : List ℕ) (count next : ℕ) (t : TlvValue) → HasCount test bytes rest count → HasFront IsTlv rest t after → length after < length rest
    → next ≡ count + (if test t then 1 else 0) → HasCount test bytes after next
count_more test bytes rest after count next t p here shorter e =
    let more : count_by test (p.ts ++ t ∷ []) ≡ count_by test p.ts + cond (test t) 1 0 =
    sum_by-append (λ (u : TlvValue). cond (test u) 1 0) p.ts (t ∷ []) ∙ ap (λ (n : ℕ). count_by test p.ts + n) (zero-add (cond (test t) 1 0)) in
    record {
      ts = p.ts ++ t ∷ [];
      read = tlvs_more bytes rest after p.ts t p.read here;
      is = omega (arith, e, p.is, more);
      within = omega (arith, e, p.within, shorter, one_at_most (test t));
    }

pub count_end : (test : TlvValue → Bool) (bytes rest : List ℕ) (count : ℕ) → HasCount test bytes rest count → ((t : TlvValue) (after : List ℕ) → HasFront IsTlv rest t after → ⊥)
    → (ts : List TlvValue) → AreTlvs bytes ts → count ≡ count_by test ts
count_end test bytes rest count p none ts are = p.is ∙ ap (λ (l : List TlvValue). count_by test l) (sym (HasRead-only IsTlv bytes p.ts rest p.read none ts are))

-- the statistics that the TLVs that were read have, after those that stood there first
pub record HasStats (bytes rest : List ℕ) (first now : List StatValue) (unread : ℕ) : Type 0 where
  pub ts : List TlvValue
  pub read : HasRead IsTlv bytes ts rest
  pub stats_are : now ≡ first ++ filter_map statistic_of ts
  pub unread_is : unread ≡ count_by (λ t. is_none (statistic_of t)) ts
  pub within : unread + length rest ≤ length bytes

abbrev pub one_if : Bool → ℕ
one_if b = cond b 1 0

count_push : (test : TlvValue → Bool) (ts : List TlvValue) (t : TlvValue) → count_by test (ts ++ t ∷ []) ≡ count_by test ts + cond (test t) 1 0
count_push test ts t = sum_by-append (λ (u : TlvValue). cond (test u) 1 0) ts (t ∷ []) ∙ ap (λ (n : ℕ). count_by test ts + n) (zero-add (cond (test t) 1 0))

-- ..one more that has a statistic, and one more that has none
pub stats_more : (bytes rest after : List ℕ) (first now : List StatValue) (unread : ℕ) (t : TlvValue) (stat : StatValue) → HasStats bytes rest first now unread → HasFront IsTlv rest t after
    → length after < length rest → Some stat ≡ statistic_of t → HasStats bytes after first (now ++ stat ∷ []) unread
stats_more bytes rest after first now unread t stat p here shorter e =
    let list : filter_map statistic_of (t ∷ []) ≡ stat ∷ [] = ap (λ (o : Option StatValue). cons_option o []) (sym e) in
    let test : is_none (statistic_of t) ≡ false = ap (λ (o : Option StatValue). is_none o) (sym e) in
    let count : one_if (is_none (statistic_of t)) ≡ 0 = ap (λ (b : Bool). one_if b) test in
    record {
      ts = p.ts ++ t ∷ [];
      read = tlvs_more bytes rest after p.ts t p.read here;
      stats_are = ap (λ (l : List StatValue). l ++ stat ∷ []) p.stats_are ∙ append_assoc first (filter_map statistic_of p.ts) (stat ∷ [])
          ∙ ap (λ (l : List StatValue). first ++ (filter_map statistic_of p.ts ++ l)) (sym list) ∙ ap (λ (l : List StatValue). first ++ l) (sym (filter_map-append statistic_of p.ts (t ∷ [])));
      unread_is = omega (arith, p.unread_is, count, count_push (λ (u : TlvValue). is_none (statistic_of u)) p.ts t);
      within = omega (arith, p.within, shorter);
    }

pub stats_passed : (bytes rest after : List ℕ) (first now : List StatValue) (unread : ℕ) (t : TlvValue) → HasStats bytes rest first now unread → HasFront IsTlv rest t after
    → length after < length rest → None ≡ statistic_of t → HasStats bytes after first now (unread + 1)
stats_passed bytes rest after first now unread t p here shorter e =
    let list : filter_map statistic_of (t ∷ []) ≡ [] = ap (λ (o : Option StatValue). cons_option o []) (sym e) in
    let test : is_none (statistic_of t) ≡ true = ap (λ (o : Option StatValue). is_none o) (sym e) in
    let count : one_if (is_none (statistic_of t)) ≡ 1 = ap (λ (b : Bool). one_if b) test in
    record {
      ts = p.ts ++ t ∷ [];
      read = tlvs_more bytes rest after p.ts t p.read here;
      stats_are = p.stats_are ∙ ap (λ (l : List StatValue). first ++ l) (sym (append-nil (filter_map statistic_of p.ts)))
          ∙ ap (λ (l : List StatValue). first ++ (filter_map statistic_of p.ts ++ l)) (sym list) ∙ ap (λ (l : List StatValue). first ++ l) (sym (filter_map-append statistic_of p.ts (t ∷ [])));
      unread_is = omega (arith, p.unread_is, count, count_push (λ (u : TlvValue). is_none (statistic_of u)) p.ts t);
      within = omega (arith, p.within, shorter);
    }

pub stats_end : (bytes rest : List ℕ) (first now : List StatValue) (unread : ℕ) → HasStats bytes rest first now unread → ((t : TlvValue) (after : List ℕ) → HasFront IsTlv rest t after → ⊥)
    → (ts : List TlvValue) → AreTlvs bytes ts → (now ≡ first ++ filter_map statistic_of ts) × (unread ≡ count_by (λ t. is_none (statistic_of t)) ts)
stats_end bytes rest first now unread p none ts are =
    let same : ts ≡ p.ts = HasRead-only IsTlv bytes p.ts rest p.read none ts are in
    (p.stats_are ∙ ap (λ (l : List TlvValue). first ++ filter_map statistic_of l) (sym same), p.unread_is ∙ ap (λ (l : List TlvValue). count_by (λ t. is_none (statistic_of t)) l) (sym same))

-- how many TLVs were read
pub record HasLength (bytes rest : List ℕ) (count : ℕ) : Type 0 where
  pub ts : List TlvValue
  pub read : HasRead IsTlv bytes ts rest
  pub is : count ≡ length ts
  pub within : count + length rest ≤ length bytes

pub length_more : (bytes rest after : List ℕ) (count : ℕ) (t : TlvValue) → HasLength bytes rest count → HasFront IsTlv rest t after → length after < length rest → HasLength bytes after (count + 1)
length_more bytes rest after count t p here shorter = record {
  ts = p.ts ++ t ∷ [];
  read = tlvs_more bytes rest after p.ts t p.read here;
  is = omega (arith, p.is, length_push p.ts t);
  within = omega (arith, p.within, shorter);
}

pub length_end : (bytes rest : List ℕ) (count : ℕ) → HasLength bytes rest count → ((t : TlvValue) (after : List ℕ) → HasFront IsTlv rest t after → ⊥) → (ts : List TlvValue) → AreTlvs bytes ts → count ≡ length ts
length_end bytes rest count p none ts are = p.is ∙ ap (λ (l : List TlvValue). length l) (sym (HasRead-only IsTlv bytes p.ts rest p.read none ts are))
