-- Capabilities that are written are read as what they announce.
use Rattle.std.proofs.Common.{◌≡◌, ℕ, ◌+◌, ◌*◌, ◌<◌, Bool, true, List, [], ◌∷◌, ◌++◌, length, map, Option, Some, None, refl, sym, ap, subst, ◌∙◌, append_assoc, append-nil, arith, length-append, length-drop}
use Rattle.std.specs.Prelude.{find, if◌then◌else◌, ◌==◌, ◌%◌}
use Rattle.std.specs.List.{cons_option, filter_map, flat_map}
use Rattle.std.specs.Option.{option_map, option_or}
use Rattle.std.proofs.Math.Nat.{mul-mod_right}
use Rattle.std.proofs.lemmas.List.Concat.{flat_map-append}
use Rattle.std.proofs.lemmas.List.Elements.{filter_map-append}
use Rattle.std.proofs.lemmas.List.Folds.{find-append}
use Rattle.byteorder.specs.Endian.{big_bytes, big_number}
use Rattle.byteorder.specs.Numbers.{big_number-reads_back}
use Rattle.bmp_specs.specs.Coded.{IsCoded}
use Rattle.bmp_specs.specs.Open.{add_path, entries, family_in, four_octet_as, is_four_octet, multiprotocol, paths_in}
use Rattle.bmp_specs.specs.Parts.{AreParts}
use Rattle.bmp_specs.specs.Values.{CapValue, CodedValue, OpenValue}
use Rattle.bmp_specs.proofs.PartsJoined.{parts_join}
use Rattle.bmp_writer.specs.Written.{Appends}
use Rattle.bmp_writer.specs.Capabilities.{AreCapabilities, HasEntries, IsAsCapability, IsFamilyCapability, IsPathCapability, IsPathEntry, as_family, as_size, entry_bytes, family_bytes, paths_size}
use Rattle.bmp_writer.proofs.Still.{three_pieces}

abbrev pub number_in : CodedValue → ℕ
number_in c = big_number 4 c.value

pub family_is : (cap : CapValue) → cap.afi < 65536 → IsFamilyCapability (family_bytes cap) cap
family_is cap fits = record {
  value = big_bytes 2 cap.afi ++ 0 ∷ cap.safi ∷ [];
  is = record { header = omega arith; code_is = refl; length_is = refl; value_is = refl };
  family_is = ap (λ (n : ℕ). Some (record { afi = n; safi = cap.safi; value = 0 })) (big_number-reads_back 2 cap.afi (0 ∷ cap.safi ∷ []) fits);
  reserved = refl;
  len = refl;
}

pub entry_is : (cap : CapValue) → cap.afi < 65536 → IsPathEntry (entry_bytes cap) cap
entry_is cap fits = record {
  len = refl;
  entry_is = ap (λ (n : ℕ). record { afi = n; safi = cap.safi; value = cap.value } ∷ []) (big_number-reads_back 2 cap.afi [] fits);
}

-- bytes that are capabilities, and what they announce
record Found (families : List CapValue) (four : Option ℕ) (paths : List CapValue) (bytes : List ℕ) (size : ℕ) : Type 0 where
  capabilities : List CodedValue
  are : AreParts IsCoded bytes capabilities
  families_are : filter_map family_in capabilities ≡ families
  four_is : option_map number_in (find is_four_octet capabilities) ≡ four
  paths_are : flat_map paths_in capabilities ≡ paths
  len : length bytes ≡ size

found_families : (caps : List CapValue) (bytes : List ℕ) → AreParts IsFamilyCapability bytes caps → Found (map as_family caps) None [] bytes (6 * length caps)
found_families [] bytes p = record { capabilities = []; are = p; families_are = refl; four_is = refl; paths_are = refl; len = ap length p }
found_families (cap ∷ caps) bytes (front, rest, split, is, more) =
    let f = found_families caps rest more in
    record {
      capabilities = record { code = multiprotocol; value = is.value } ∷ f.capabilities;
      are = (front, rest, split, is.is, f.are);
      families_are = ap (λ (o : Option CapValue). cons_option o (filter_map family_in f.capabilities)) is.family_is ∙ ap (λ (l : List CapValue). as_family cap ∷ l) f.families_are;
      four_is = f.four_is;
      paths_are = f.paths_are;
      len = omega (arith, is.len, f.len, length-append front rest, ap (λ (l : List ℕ). length l) split.joined);
    }

found_as : (four : Option ℕ) (bytes : List ℕ) → IsAsCapability four bytes → Found [] four [] bytes (as_size four)
found_as None bytes p = record { capabilities = []; are = p; families_are = refl; four_is = refl; paths_are = refl; len = ap length p }
found_as (Some asn) bytes h =
    let c : CodedValue = record { code = four_octet_as; value = h.value } in
    let four : (length h.value == 4) ≡ true = ap (λ (n : ℕ). n == 4) h.len in
    record {
      capabilities = c ∷ [];
      are = (bytes, [], record { joined = sym (append-nil bytes) }, h.is, refl);
      families_are = refl;
      four_is = ap (λ (b : Bool). option_map number_in (if b then Some c else None)) four ∙ ap (λ (n : ℕ). Some n) h.asn_is;
      paths_are = refl;
      len = omega (arith, h.is.header, length-drop 2 bytes, ap (λ (l : List ℕ). length l) h.is.value_is, h.len);
    }

-- an entry, and then others
entries_join : (front rest : List ℕ) (cap : CapValue) → length front ≡ 4 → entries front ≡ cap ∷ [] → entries (front ++ rest) ≡ cap ∷ entries rest
entries_join (a ∷ b ∷ c ∷ d ∷ []) rest cap len e = ap (λ (l : List CapValue). l ++ entries rest) e
entries_join (a ∷ b ∷ c ∷ d ∷ x ∷ l) rest cap len e = absurd (omega (arith, len))
entries_join (a ∷ b ∷ c ∷ []) rest cap len e = absurd (omega (arith, len))
entries_join (a ∷ b ∷ []) rest cap len e = absurd (omega (arith, len))
entries_join (a ∷ []) rest cap len e = absurd (omega (arith, len))
entries_join [] rest cap len e = absurd (omega (arith, len))

pub entries_of : (caps : List CapValue) (bytes : List ℕ) → AreParts IsPathEntry bytes caps → (entries bytes ≡ caps) × (length bytes ≡ 4 * length caps)
entries_of [] bytes p = (ap entries p, ap length p)
entries_of (cap ∷ caps) bytes (front, rest, split, is, more) =
    let (same, len) = entries_of caps rest more in (
      ap entries split.joined ∙ entries_join front rest cap is.len is.entry_is ∙ ap (λ (l : List CapValue). cap ∷ l) same,
      omega (arith, is.len, len, length-append front rest, ap (λ (l : List ℕ). length l) split.joined),
    )

found_entries : (caps : List CapValue) (bytes : List ℕ) → HasEntries caps bytes → Found [] None caps bytes (2 + 4 * length caps)
found_entries caps bytes h =
    let c : CodedValue = record { code = add_path; value = h.value } in
    let all = entries_of caps h.value h.are in
    let whole : (length h.value % 4 == 0) ≡ true = ap (λ (n : ℕ). n % 4 == 0) all.1 ∙ ap (λ (n : ℕ). n == 0) (mul-mod_right 4 (length caps)) in
    record {
      capabilities = c ∷ [];
      are = (bytes, [], record { joined = sym (append-nil bytes) }, h.is, refl);
      families_are = refl;
      four_is = refl;
      paths_are = ap (λ (b : Bool). (if b then entries h.value else []) ++ []) whole ∙ append-nil (entries h.value) ∙ all.0;
      len = omega (arith, h.is.header, length-drop 2 bytes, ap (λ (l : List ℕ). length l) h.is.value_is, all.1);
    }

found_paths : (caps : List CapValue) (bytes : List ℕ) → IsPathCapability caps bytes → Found [] None caps bytes (paths_size caps)
found_paths [] bytes p = record { capabilities = []; are = p; families_are = refl; four_is = refl; paths_are = refl; len = ap length p }
found_paths (cap ∷ caps) bytes h = found_entries (cap ∷ caps) bytes h

option_or_none : {X : Type 0} (o : Option X) → option_or o None ≡ o
option_or_none None = refl
option_or_none (Some x) = refl

-- a first number where there is none stays none
no_number : (o : Option CodedValue) → option_map number_in o ≡ None → o ≡ None
no_number None e = refl
no_number (Some c) e = absurd cc

pub all_capabilities : (o : OpenValue) (f a p bytes : List ℕ) → bytes ≡ f ++ (a ++ p) → AreParts IsFamilyCapability f o.families → IsAsCapability o.four a → IsPathCapability o.paths p → AreCapabilities o bytes
all_capabilities o f a p bytes joined families four paths =
    let x = found_families o.families f families in
    let y = found_as o.four a four in
    let z = found_paths o.paths p paths in
    let all : List CodedValue = x.capabilities ++ (y.capabilities ++ z.capabilities) in
    let found : find is_four_octet all ≡ find is_four_octet y.capabilities =
    find-append is_four_octet x.capabilities (y.capabilities ++ z.capabilities)
    ∙ ap (λ (v : Option CodedValue). option_or v (find is_four_octet (y.capabilities ++ z.capabilities))) (no_number (find is_four_octet x.capabilities) x.four_is)
    ∙ find-append is_four_octet y.capabilities z.capabilities
    ∙ ap (λ (v : Option CodedValue). option_or (find is_four_octet y.capabilities) v) (no_number (find is_four_octet z.capabilities) z.four_is)
    ∙ option_or_none (find is_four_octet y.capabilities) in
    let named : filter_map family_in all ≡ map as_family o.families =
    filter_map-append family_in x.capabilities (y.capabilities ++ z.capabilities)
    ∙ ap (λ (l : List CapValue). filter_map family_in x.capabilities ++ l) (filter_map-append family_in y.capabilities z.capabilities ∙ ap (λ (l : List CapValue). l ++ filter_map family_in z.capabilities) y.families_are ∙ z.families_are)
    ∙ append-nil (filter_map family_in x.capabilities) ∙ x.families_are in
    let listed : flat_map paths_in all ≡ o.paths =
    flat_map-append paths_in x.capabilities (y.capabilities ++ z.capabilities)
    ∙ ap (λ (l : List CapValue). l ++ flat_map paths_in (y.capabilities ++ z.capabilities)) x.paths_are
    ∙ flat_map-append paths_in y.capabilities z.capabilities
    ∙ ap (λ (l : List CapValue). l ++ flat_map paths_in z.capabilities) y.paths_are ∙ z.paths_are in
    record {
      families = f;
      four = a;
      paths = p;
      joined = joined;
      families_are = families;
      four_is = four;
      paths_are = paths;
      capabilities = all;
      are = subst (λ (l : List ℕ). AreParts IsCoded l all) (sym joined) (parts_join IsCoded f (a ++ p) x.capabilities (y.capabilities ++ z.capabilities) x.are (parts_join IsCoded a p y.capabilities z.capabilities y.are z.are));
      announces = record { four_is = sym (ap (λ (v : Option CodedValue). option_map number_in v) found ∙ y.four_is); families_are = sym named; paths_are = sym listed };
      size = omega (arith, ap (λ (l : List ℕ). length l) joined, length-append f (a ++ p), length-append a p, x.len, y.len, z.len);
    }

pub paths_put : (caps : List CapValue) (n : ℕ) (old mid new : List ℕ) → (length caps ≡ 0 → ⊥) → n ≡ 4 * length caps → mid ≡ old ++ add_path ∷ n ∷ [] → Appends (λ bytes. AreParts IsPathEntry bytes caps) mid new
    → Appends (IsPathCapability caps) old new
paths_put [] n old mid new some size first all = absurd (some refl)
paths_put (cap ∷ caps) n old mid new some size first (piece, joined, are) = (
  add_path ∷ n ∷ piece,
  joined ∙ ap (λ (l : List ℕ). l ++ piece) first ∙ append_assoc old (add_path ∷ n ∷ []) piece,
  record { value = piece; is = record { header = omega arith; code_is = refl; length_is = omega (arith, size, (entries_of (cap ∷ caps) piece are).1); value_is = refl }; are = are },
)

pub capabilities_put : (o p : OpenValue) → o ≡ p → (families paths : List CapValue) → families ≡ o.families → paths ≡ o.paths → (old m1 m2 new : List ℕ)
    → Appends (λ bytes. AreParts IsFamilyCapability bytes families) old m1 → Appends (IsAsCapability o.four) m1 m2 → Appends (IsPathCapability paths) m2 new → Appends (AreCapabilities p) old new
capabilities_put o p same families paths fs ps old m1 m2 new (f, e1, are) (a, e2, four) (b, e3, more) =
    subst (λ (q : OpenValue). Appends (AreCapabilities q) old new) same (
      f ++ (a ++ b),
      three_pieces old m1 m2 new f a b e1 e2 e3,
      all_capabilities o f a b (f ++ (a ++ b)) refl (subst (λ (l : List CapValue). AreParts IsFamilyCapability f l) fs are) four (subst (λ (l : List CapValue). IsPathCapability l b) ps more),
    )
