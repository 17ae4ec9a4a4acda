-- Attributes that are written are the attributes of a field.
use Rattle.std.proofs.Common.{◌≡◌, ℕ, zero, suc, ◌-◌, ◌*◌, ◌/◌, ◌%◌, ◌==◌, ◌≤◌, ◌<◌, eqb-true, not, nat_lt, Bool, true, false, cond, List, [], ◌∷◌, ◌++◌, length, map, filter, find, option_map, Option, Some, None, bit_and, bit_or, refl, sym, ap, subst, ◌∙◌, append_assoc, append-nil, arith}
use Rattle.std.specs.List.{AllByRecursion, IsDistinct, list_any}
use Rattle.std.specs.Int.Bits.{or_add_and}
use Rattle.std.proofs.lemmas.Nat.Bits.{and_pow}
use Rattle.bmp_specs.specs.Attribute.{IsAttribute}
use Rattle.bmp_specs.specs.Attributes.{is_read, kept, read_types, value_of}
use Rattle.bmp_specs.specs.Parts.{AreParts, Split}
use Rattle.bmp_specs.specs.PeerHeader.{is_set}
use Rattle.bmp_specs.specs.Values.{OtherValue}
use Rattle.bmp_specs.proofs.PartsJoined.{parts_join}
use Rattle.bmp_writer.specs.WrittenAttributes.{cleared, flags_for, part_of, written, written_other}
use Rattle.bmp_writer.specs.WrittenRoutes.{AreKept}
use Rattle.bmp_writer.proofs.AttributesRead.{set_here}

-- an attribute that may stand there
pub record Slot : Type 0 where
  pub flags : ℕ
  pub code : ℕ
  pub value : Option (List ℕ)

abbrev pub slot : ℕ → ℕ → Option (List ℕ) → Slot
slot flags code value = record { flags = flags; code = code; value = value }

-- those that do
abbrev pub slot_parts : List Slot → List OtherValue
slot_parts [] = []
slot_parts (s ∷ ss) = part_of s.flags s.code s.value ++ slot_parts ss

-- the value of a type
abbrev pub lookup : ℕ → List Slot → Option (List ℕ)
lookup code [] = None
lookup code (s ∷ ss) = cond (s.code == code) s.value (lookup code ss)

-- in order of type, above some type
abbrev pub Rising : ℕ → List Slot → Type 0
Rising k [] = Unit {0}
Rising k (s ∷ ss) = (k < s.code) × Rising s.code ss

abbrev pub Holds : List Slot → List ℕ → Type 0
Holds ss bytes = AreParts IsAttribute bytes (slot_parts ss)

slot_parts-append : (ss ts : List Slot) → slot_parts (ss ++ ts) ≡ slot_parts ss ++ slot_parts ts
slot_parts-append [] ts = refl
slot_parts-append (s ∷ ss) ts = ap (λ (l : List OtherValue). part_of s.flags s.code s.value ++ l) (slot_parts-append ss ts) ∙ sym (append_assoc (part_of s.flags s.code s.value) (slot_parts ss) (slot_parts ts))

pub holds_one : (flags code : ℕ) (value : Option (List ℕ)) (bytes : List ℕ) → AreParts IsAttribute bytes (part_of flags code value) → Holds (slot flags code value ∷ []) bytes
holds_one flags code value bytes p = subst (λ (l : List OtherValue). AreParts IsAttribute bytes l) (sym (append-nil (part_of flags code value))) p

pub holds_cons : (s : Slot) (ts : List Slot) (bytes a b : List ℕ) → Split bytes a b → AreParts IsAttribute a (part_of s.flags s.code s.value) → Holds ts b → Holds (s ∷ ts) bytes
holds_cons s ts bytes a b split p q = subst (λ (l : List ℕ). Holds (s ∷ ts) l) (sym split.joined) (parts_join IsAttribute a b (part_of s.flags s.code s.value) (slot_parts ts) p q)

pub holds_join : (ss ts : List Slot) (a b : List ℕ) → Holds ss a → Holds ts b → Holds (ss ++ ts) (a ++ b)
holds_join ss ts a b p q = subst (λ (l : List OtherValue). AreParts IsAttribute (a ++ b) l) (sym (slot_parts-append ss ts)) (parts_join IsAttribute a b (slot_parts ss) (slot_parts ts) p q)

-- another number
other_number : (a b : ℕ) → a < b → (b == a) ≡ false
other_number a b lt = grind (arith, lt)

other_number_too : (a b : ℕ) → a < b → (a == b) ≡ false
other_number_too a b lt = grind (arith, lt)

lookup_none : (k code : ℕ) (ss : List Slot) → Rising k ss → code ≤ k → lookup code ss ≡ None
lookup_none k code [] r le = refl
lookup_none k code (s ∷ ss) (lt, r) le =
    ap (λ (b : Bool). cond b s.value (lookup code ss)) (other_number code s.code (omega (arith, lt, le))) ∙ lookup_none s.code code ss r (omega (arith, lt, le))

pub value_of-cons : (code : ℕ) (a : OtherValue) (more : List OtherValue) → value_of code (a ∷ more) ≡ cond (a.code == code) (Some a.value) (value_of code more)
value_of-cons code a more = go (a.code == code)
  where
    go : (b : Bool) → option_map (λ (x : OtherValue). x.value) (cond b (Some a) (find (λ (x : OtherValue). x.code == code) more)) ≡ cond b (Some a.value) (value_of code more)
    go true = refl
    go false = refl

-- the value of a type that is read is the one in its slot
pub found_in : (k code : ℕ) (ss : List Slot) (others : List OtherValue) → Rising k ss → value_of code others ≡ None → value_of code (slot_parts ss ++ others) ≡ lookup code ss
found_in k code [] others r none = none
found_in k code (s ∷ ss) others (lt, r) none =
    ap (λ (l : List OtherValue). value_of code l) (append_assoc (part_of s.flags s.code s.value) (slot_parts ss) others) ∙ go (found_in s.code code ss others r none) s.value (s.code == code) refl
  where
    gone : (b : Bool) → (s.code == code) ≡ b → lookup code ss ≡ cond b None (lookup code ss)
    gone true e = lookup_none s.code code ss r (omega (arith, eqb-true s.code code e))
    gone false e = refl

    go : value_of code (slot_parts ss ++ others) ≡ lookup code ss → (value : Option (List ℕ)) (b : Bool) → (s.code == code) ≡ b
        → value_of code (part_of s.flags s.code value ++ (slot_parts ss ++ others)) ≡ cond (s.code == code) value (lookup code ss)
    go rest None b e = rest ∙ gone b e ∙ ap (λ (x : Bool). cond x None (lookup code ss)) (sym e)
    go rest (Some v) b e = value_of-cons code (written s.flags s.code v) (slot_parts ss ++ others) ∙ ap (λ (o : Option (List ℕ)). cond (s.code == code) (Some v) o) rest

-- whether a type is read
abbrev pub is_read_type : ℕ → Bool
is_read_type code = list_any (λ (c : ℕ). c == code) read_types

abbrev pub AreRead : List Slot → Type 0
AreRead ss = AllByRecursion (λ s. is_read_type s.code ≡ true) ss

apart : (code other : ℕ) → is_read_type code ≡ true → is_read_type other ≡ false → (code == other) ≡ false
apart code other read unknown = go (code == other) refl
  where
    go : (b : Bool) → (code == other) ≡ b → (code == other) ≡ false
    go false e = e
    go true e =
        let same : code ≡ other = eqb-true code other e in
        let both : true ≡ false = sym read ∙ ap (λ (c : ℕ). is_read_type c) same ∙ unknown in
        absurd cc

apart_too : (code other : ℕ) → is_read_type code ≡ true → is_read_type other ≡ false → (other == code) ≡ false
apart_too code other read unknown = go (other == code) refl
  where
    go : (b : Bool) → (other == code) ≡ b → (other == code) ≡ false
    go false e = e
    go true e =
        let same : other ≡ code = eqb-true other code e in
        let both : true ≡ false = sym read ∙ ap (λ (c : ℕ). is_read_type c) (sym same) ∙ unknown in
        absurd cc

abbrev pub AreUnread : List OtherValue → Type 0
AreUnread others = AllByRecursion (λ a. is_read a ≡ false) others

abbrev pub codes_of : List OtherValue → List ℕ
codes_of parts = map (λ a. a.code) parts

unread_none : (code : ℕ) (others : List OtherValue) → is_read_type code ≡ true → AreUnread others → value_of code (map written_other others) ≡ None
unread_none code [] read u = refl
unread_none code (a ∷ more) read (unknown, u) =
    value_of-cons code (written_other a) (map written_other more) ∙ ap (λ (b : Bool). cond b (Some a.value) (value_of code (map written_other more))) (apart_too code a.code read unknown) ∙ unread_none code more read u

pub value_is : (k code : ℕ) (ss : List Slot) (others : List OtherValue) → Rising k ss → is_read_type code ≡ true → AreUnread others → value_of code (slot_parts ss ++ map written_other others) ≡ lookup code ss
value_is k code ss others r read u = found_in k code ss (map written_other others) r (unread_none code others read u)

unread_apart : (code : ℕ) (others : List OtherValue) → is_read_type code ≡ true → AreUnread others → AllByRecursion (λ y. (code == y) ≡ false) (codes_of (map written_other others))
unread_apart code [] read u = tt
unread_apart code (a ∷ more) read (unknown, u) = (apart code a.code read unknown, unread_apart code more read u)

all_apart : (k : ℕ) (ss : List Slot) (others : List OtherValue) (code : ℕ) → code ≤ k → Rising k ss → AllByRecursion (λ y. (code == y) ≡ false) (codes_of others)
    → AllByRecursion (λ y. (code == y) ≡ false) (codes_of (slot_parts ss ++ others))
all_apart k [] others code le r p = p
all_apart k (s ∷ ss) others code le (lt, r) p =
    subst (λ (l : List OtherValue). AllByRecursion (λ y. (code == y) ≡ false) (codes_of l)) (sym (append_assoc (part_of s.flags s.code s.value) (slot_parts ss) others)) (go (all_apart s.code ss others code (omega (arith, le, lt)) r p) s.value)
  where
    go : AllByRecursion (λ y. (code == y) ≡ false) (codes_of (slot_parts ss ++ others)) → (value : Option (List ℕ)) → AllByRecursion (λ y. (code == y) ≡ false) (codes_of (part_of s.flags s.code value ++ (slot_parts ss ++ others)))
    go rest None = rest
    go rest (Some v) = (other_number_too code s.code (omega (arith, le, lt)), rest)

distinct_cons : (code : ℕ) (codes : List ℕ) → AllByRecursion (λ y. (code == y) ≡ false) codes → IsDistinct (λ (j k : ℕ). j == k) codes → IsDistinct (λ (j k : ℕ). j == k) (code ∷ codes)
unfolding IsDistinct
distinct_cons code codes a d = (a, d)

-- no two are of one type
pub distinct_in : (k : ℕ) (ss : List Slot) (others : List OtherValue) → Rising k ss → AreRead ss → AreUnread others → IsDistinct (λ (j k : ℕ). j == k) (codes_of (map written_other others))
    → IsDistinct (λ (j k : ℕ). j == k) (codes_of (slot_parts ss ++ map written_other others))
distinct_in k [] others r read u d = d
distinct_in k (s ∷ ss) others (lt, r) (y, read) u d =
    subst (λ (l : List OtherValue). IsDistinct (λ (j k : ℕ). j == k) (codes_of l)) (sym (append_assoc (part_of s.flags s.code s.value) (slot_parts ss) (map written_other others))) (go (distinct_in s.code ss others r read u d) s.value)
  where
    go : IsDistinct (λ (j k : ℕ). j == k) (codes_of (slot_parts ss ++ map written_other others)) → (value : Option (List ℕ)) → IsDistinct (λ (j k : ℕ). j == k) (codes_of (part_of s.flags s.code value ++ (slot_parts ss ++ map written_other others)))
    go rest None = rest
    go rest (Some v) = distinct_cons s.code (codes_of (slot_parts ss ++ map written_other others)) (all_apart s.code ss (map written_other others) s.code (omega arith) r (unread_apart s.code others y u)) rest

same_codes : (others : List OtherValue) → codes_of (map written_other others) ≡ codes_of others
same_codes [] = refl
same_codes (a ∷ more) = ap (λ (l : List ℕ). a.code ∷ l) (same_codes more)

abbrev unread_in : List OtherValue → List OtherValue
unread_in parts = filter (λ a. not (is_read a)) parts

filter-yes : (a : OtherValue) (more : List OtherValue) → is_read a ≡ true → unread_in (a ∷ more) ≡ unread_in more
filter-yes a more read = ap (λ (b : Bool). cond (not b) (a ∷ unread_in more) (unread_in more)) read

filter-no : (a : OtherValue) (more : List OtherValue) → is_read a ≡ false → unread_in (a ∷ more) ≡ a ∷ unread_in more
filter-no a more unknown = ap (λ (b : Bool). cond (not b) (a ∷ unread_in more) (unread_in more)) unknown

none_unread : (ss : List Slot) (others : List OtherValue) → AreRead ss → unread_in (slot_parts ss ++ others) ≡ unread_in others
none_unread [] others read = refl
none_unread (s ∷ ss) others (y, read) = ap (λ (l : List OtherValue). unread_in l) (append_assoc (part_of s.flags s.code s.value) (slot_parts ss) others) ∙ go (none_unread ss others read) s.value
  where
    go : unread_in (slot_parts ss ++ others) ≡ unread_in others → (value : Option (List ℕ)) → unread_in (part_of s.flags s.code value ++ (slot_parts ss ++ others)) ≡ unread_in others
    go rest None = rest
    go rest (Some v) = filter-yes (written s.flags s.code v) (slot_parts ss ++ others) y ∙ rest

-- flags without the Extended Length bit come back
flags_back : (f size : ℕ) → is_set 16 f ≡ false → cleared (flags_for f size) ≡ f
flags_back f size clear = go (nat_lt 255 size)
  where
    plain : cleared f ≡ f
    plain = ap (λ (b : Bool). cond b (f - 16) f) clear

    no_bit : (b : ℕ) → b < 2 → bit_and f 16 ≡ b * 16 → bit_and f 16 ≡ 0
    no_bit zero lt e = e
    no_bit (suc zero) lt e =
        let set : is_set 16 f ≡ true = ap (λ (n : ℕ). n == 16) e in
        let both : true ≡ false = sym set ∙ clear in
        absurd cc
    no_bit (suc (suc b)) lt e = absurd (omega (arith, lt))

    none : bit_and f 16 ≡ 0
    none = no_bit (f / 16 % 2) (omega arith) (and_pow f 4)

    go : (b : Bool) → cleared (cond b (bit_or (cleared f) 16) (cleared f)) ≡ f
    go true =
        let back : bit_or f 16 - 16 ≡ f = omega (arith, or_add_and f 16, none) in
        ap (λ (n : ℕ). cleared (bit_or n 16)) plain ∙ ap (λ (b : Bool). cond b (bit_or f 16 - 16) (bit_or f 16)) (set_here f) ∙ back
    go false = ap (λ (n : ℕ). cleared n) plain ∙ plain

kept_back : (others : List OtherValue) → AreUnread others → AllByRecursion (λ a. is_set 16 a.flags ≡ false) others → map kept (unread_in (map written_other others)) ≡ others
kept_back [] u clear = refl
kept_back (a ∷ more) (unknown, u) (c, clear) =
    ap (λ (l : List OtherValue). map kept l) (filter-no (written_other a) (map written_other more) unknown)
    ∙ ap (λ (n : ℕ). record { flags = n; code = a.code; value = a.value } ∷ map kept (unread_in (map written_other more))) (flags_back a.flags (length a.value) c)
    ∙ ap (λ (l : List OtherValue). a ∷ l) (kept_back more u clear)

pub others_back : (ss : List Slot) (others : List OtherValue) → AreRead ss → AreKept others → others ≡ map kept (unread_in (slot_parts ss ++ map written_other others))
others_back ss others read k = sym (ap (λ (l : List OtherValue). map kept l) (none_unread ss (map written_other others) read) ∙ kept_back others k.unread k.clear)

pub distinct_all : (k : ℕ) (ss : List Slot) (others : List OtherValue) → Rising k ss → AreRead ss → AreKept others → IsDistinct (λ (j k : ℕ). j == k) (codes_of (slot_parts ss ++ map written_other others))
distinct_all k ss others r read a = distinct_in k ss others r read a.unread (subst (λ (l : List ℕ). IsDistinct (λ (j k : ℕ). j == k) l) (sym (same_codes others)) a.distinct)
