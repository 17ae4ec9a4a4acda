-- An OPEN message that is written is read as it was.
use Rattle.std.proofs.Common.{◌≡◌, ℕ, zero, suc, ◌+◌, ◌<◌, ◌≤◌, Bool, true, false, List, [], ◌∷◌, ◌++◌, length, map, drop, get_or, Option, Some, None, refl, sym, ap, subst, ◌∙◌, append-nil, arith, length-append}
use Rattle.std.specs.Prelude.{MatchBool, if◌then◌else◌, ◌==◌, ◌&&◌, slice_index}
use Rattle.std.specs.List.{cons_option, filter_map, flat_map}
use Rattle.byteorder.specs.Endian.{big_bytes, big_number}
use Rattle.byteorder.specs.Numbers.{big_number-reads_back}
use Rattle.bmp_specs.specs.BgpMessage.{marker, open_type}
use Rattle.bmp_specs.specs.Coded.{IsCoded}
use Rattle.bmp_specs.specs.Open.{Announces, AreParameters, HasParameters, IsOpen, IsOpenMessage, IsParameter, capabilities_type, family_in, multiprotocol}
use Rattle.bmp_specs.specs.Parts.{AreParts}
use Rattle.bmp_specs.specs.Values.{CapValue, CodedValue, OpenValue}
use Rattle.bmp_writer.specs.Capabilities.{AreCapabilities, IsAsCapability, IsFamilyCapability, IsPathCapability, IsPathEntry, as_family, as_read, as_size, capabilities_size, paths_size}
use Rattle.bmp_writer.specs.PeerUpMessage.{IsSome}
use Rattle.bmp_writer.specs.Written.{Appends}
use Rattle.bmp_writer.proofs.CapabilitiesRead.{all_capabilities}
use Rattle.bmp_writer.proofs.Still.{three_pieces}
use Rattle.bmp_writer.specs.OpenMessage.{AreParametersOf, IsInOctets, IsOpenOf, front_of, open_front, parameters_size}

-- the body up to its parameters, of which there are so many bytes
abbrev pub body_front : OpenValue → List ℕ → ℕ → List ℕ
body_front o identifier n = o.version ∷ (big_bytes 2 o.my_as ++ (big_bytes 2 o.hold ++ (identifier ++ n ∷ [])))

is_open : (o q : OpenValue) → o.my_as < 65536 → o.hold < 65536 → q.version ≡ o.version → q.my_as ≡ o.my_as → q.hold ≡ o.hold → (identifier : List ℕ) → length identifier ≡ 4 → q.identifier ≡ identifier
    → (n : ℕ) (rest : List ℕ) → AreParameters n rest q → IsOpen (body_front o identifier n ++ rest) q
is_open o q my_as hold v m h (a ∷ b ∷ c ∷ d ∷ []) len id n rest parameters = record {
  header = omega arith;
  version_is = sym v;
  my_as_is = big_number-reads_back 2 o.my_as (big_bytes 2 o.hold ++ (a ∷ b ∷ c ∷ d ∷ n ∷ rest)) my_as ∙ sym m;
  hold_is = big_number-reads_back 2 o.hold (a ∷ b ∷ c ∷ d ∷ n ∷ rest) hold ∙ sym h;
  identifier_is = sym id;
  parameters = parameters;
}
is_open o q my_as hold v m h (a ∷ b ∷ c ∷ d ∷ e ∷ l) len id n rest parameters = absurd (omega (arith, len))
is_open o q my_as hold v m h (a ∷ b ∷ c ∷ []) len id n rest parameters = absurd (omega (arith, len))
is_open o q my_as hold v m h (a ∷ b ∷ []) len id n rest parameters = absurd (omega (arith, len))
is_open o q my_as hold v m h (a ∷ []) len id n rest parameters = absurd (omega (arith, len))
is_open o q my_as hold v m h [] len id n rest parameters = absurd (omega (arith, len))

no_four : (four : Option ℕ) → as_size four ≡ 0 → four ≡ None
no_four None e = refl
no_four (Some asn) e = absurd (omega (arith, e))

no_families : (caps : List CapValue) → length caps ≡ 0 → caps ≡ []
no_families [] e = refl
no_families (cap ∷ caps) e = absurd (omega (arith, e))

no_paths : (caps : List CapValue) → paths_size caps ≡ 0 → caps ≡ []
no_paths [] e = refl
no_paths (cap ∷ caps) e = absurd (omega (arith, e))

-- with no parameters nothing is announced
announces_none : (o : OpenValue) → capabilities_size o ≡ 0 → Announces [] o
announces_none o none = record { four_is = no_four o.four (omega (arith, none)); families_are = no_families o.families (omega (arith, none)); paths_are = no_paths o.paths (omega (arith, none)) }

nothing_announced : (o : OpenValue) → capabilities_size o ≡ 0 → Announces [] (as_read o)
nothing_announced o none =
    let a = announces_none o none in
    record { four_is = a.four_is; families_are = ap (λ (l : List CapValue). map as_family l) a.families_are; paths_are = a.paths_are }

-- no parameters
bare : (o : OpenValue) → capabilities_size o ≡ 0 → AreParameters 0 [] (as_read o)
bare o none = (refl, refl, record { lists = []; are = refl; announces = nothing_announced o none })

and_false : (b : Bool) → (b && false) ≡ false
and_false true = refl
and_false false = refl

-- one parameter, of capabilities
one : (o : OpenValue) (caps : List ℕ) → AreCapabilities o caps → AreParameters (2 + length caps) (2 ∷ length caps ∷ caps) (as_read o)
one o caps is =
    let c : CodedValue = record { code = capabilities_type; value = caps } in
    let coded : IsCoded (2 ∷ length caps ∷ caps) c = record { header = omega arith; code_is = refl; length_is = omega arith; value_is = refl } in
    let here : IsParameter (2 ∷ length caps ∷ caps) is.capabilities = record { parameter = c; is = coded; capabilities = is.are } in
    let parameters : HasParameters (2 ∷ length caps ∷ caps) (as_read o) = record {
      lists = is.capabilities ∷ [];
      are = (2 ∷ length caps ∷ caps, [], record { joined = sym (append-nil (2 ∷ length caps ∷ caps)) }, here, refl);
      announces = subst (λ (l : List CodedValue). Announces l (as_read o)) (sym (append-nil is.capabilities)) is.announces;
    } in
    subst (λ (b : Bool). MatchBool b (((as_read o).extended ≡ true) × Announces [] (as_read o)) (((as_read o).extended ≡ false) × (length (2 ∷ length caps ∷ caps) ≡ 2 + length caps) × HasParameters (2 ∷ length caps ∷ caps) (as_read o)))
    (sym (and_false (2 + length caps == 255)))
    (refl, omega arith, parameters)

-- a whole message
is_message : (o : OpenValue) (n : ℕ) (rest : List ℕ) → IsInOctets o → n ≡ length rest → n ≤ 255 → AreParameters n rest (as_read o) → IsOpenMessage (open_front o n ++ rest) (as_read o)
is_message o n rest fits size small parameters =
    let body = body_front o o.identifier n ++ rest in
    let len : length body ≡ 10 + n = omega (arith, length-append (o.identifier ++ n ∷ []) rest, length-append o.identifier (n ∷ []), fits.four, size) in
    record {
      message = record { kind = open_type; body = body };
      is = record {
        header = omega arith;
        marker_is = refl;
        length_is = big_number-reads_back 2 (29 + n) (open_type ∷ body) (omega (arith, small)) ∙ omega (arith, len);
        kind_is = refl;
        body_is = refl;
      };
      is_open = refl;
      body_is = is_open o (as_read o) fits.my_as_fits fits.hold_fits refl refl refl o.identifier fits.four refl n rest parameters;
    }

front_size : (o : OpenValue) (n : ℕ) → IsInOctets o → length (open_front o n) ≡ 29
front_size o n fits = omega (arith, length-append o.identifier (n ∷ []), fits.four)

-- the message without parameters
pub open_bare : (o : OpenValue) (n : ℕ) (bytes : List ℕ) → IsInOctets o → capabilities_size o ≡ 0 → n ≡ 0 → bytes ≡ open_front o n → IsOpenOf o bytes
open_bare o n bytes fits none zeros joined =
    let whole : bytes ≡ open_front o 0 ++ [] = joined ∙ ap (λ (k : ℕ). open_front o k) zeros ∙ sym (append-nil (open_front o 0)) in
    record {
      parameters = [];
      joined = whole ∙ ap (λ (k : ℕ). open_front o (parameters_size k) ++ []) (sym none);
      parameters_are = subst (λ (k : ℕ). AreParametersOf k o []) (sym none) refl;
      is = subst (λ (l : List ℕ). IsOpenMessage l (as_read o)) (sym whole) (is_message o 0 [] fits refl (omega arith) (bare o none));
      size = ap (λ (l : List ℕ). length l) whole ∙ length-append (open_front o 0) [] ∙ ap (λ (k : ℕ). k + 0) (front_size o 0 fits) ∙ ap (λ (k : ℕ). 29 + parameters_size k) (sym none);
    }

parameters_are : (n : ℕ) → 0 < n → parameters_size n ≡ 2 + n
parameters_are zero some = absurd (omega (arith, some))
parameters_are (suc n) some = refl

one_parameter : (n : ℕ) (o : OpenValue) (caps : List ℕ) → 0 < n → AreCapabilities o caps → AreParametersOf n o (2 ∷ n ∷ caps)
one_parameter zero o caps some is = absurd (omega (arith, some))
one_parameter (suc n) o caps some is = (caps, refl, is)

-- the message with one parameter
pub open_full : (o : OpenValue) (n : ℕ) (caps bytes : List ℕ) → IsInOctets o → AreCapabilities o caps → 0 < capabilities_size o → capabilities_size o ≤ 253 → n ≡ parameters_size (capabilities_size o)
    → bytes ≡ open_front o n ++ (2 ∷ capabilities_size o ∷ caps) → IsOpenOf o bytes
open_full o n caps bytes fits is some small parameters joined =
    let size : n ≡ 2 + length caps = parameters ∙ parameters_are (capabilities_size o) some ∙ ap (λ (k : ℕ). 2 + k) (sym is.size) in
    let whole : bytes ≡ open_front o n ++ (2 ∷ length caps ∷ caps) = joined ∙ ap (λ (k : ℕ). open_front o n ++ (2 ∷ k ∷ caps)) (sym is.size) in
    let read : AreParameters n (2 ∷ length caps ∷ caps) (as_read o) = subst (λ (k : ℕ). AreParameters k (2 ∷ length caps ∷ caps) (as_read o)) (sym size) (one o caps is) in
    record {
      parameters = 2 ∷ capabilities_size o ∷ caps;
      joined = joined ∙ ap (λ (k : ℕ). open_front o k ++ (2 ∷ capabilities_size o ∷ caps)) parameters;
      parameters_are = one_parameter (capabilities_size o) o caps some is;
      is = subst (λ (l : List ℕ). IsOpenMessage l (as_read o)) (sym whole) (is_message o n (2 ∷ length caps ∷ caps) fits (size ∙ omega arith) (omega (arith, size, is.size, small)) read);
      size = omega (arith, ap (λ (l : List ℕ). length l) whole, length-append (open_front o n) (2 ∷ length caps ∷ caps), front_size o n fits, size, parameters);
    }

-- what is read of families has nothing more to say of them
families_plain : (cs : List CodedValue) → map as_family (filter_map family_in cs) ≡ filter_map family_in cs
families_plain [] = refl
families_plain (c ∷ cs) = plain (c.code == multiprotocol && length c.value == 4) (filter_map family_in cs) (families_plain cs)
  where
    plain : (b : Bool) (l : List CapValue) → map as_family l ≡ l
        → map as_family (cons_option (if b then Some (record { afi = big_number 2 c.value; safi = slice_index c.value 3; value = 0 }) else None) l) ≡ cons_option (if b then Some (record { afi = big_number 2 c.value; safi = slice_index c.value 3; value = 0 }) else None) l
    plain true l e = ap (λ (m : List CapValue). record { afi = big_number 2 c.value; safi = slice_index c.value 3; value = 0 } ∷ m) e
    plain false l e = e

announced_plain : (o : OpenValue) (cs : List CodedValue) → Announces cs o → map as_family o.families ≡ o.families
announced_plain o cs a = ap (λ (l : List CapValue). map as_family l) a.families_are ∙ families_plain cs ∙ sym a.families_are

-- the families of an OPEN message that some body is read as
pub open_plain : (o : OpenValue) (body : List ℕ) → IsOpen body o → map as_family o.families ≡ o.families
open_plain o body is = plain (slice_index body 9 == 255 && slice_index (drop 10 body) 0 == 255) is.parameters
  where
    plain : (b : Bool) → MatchBool b ((o.extended ≡ true) × Announces [] o) ((o.extended ≡ false) × (length (drop 10 body) ≡ slice_index body 9) × HasParameters (drop 10 body) o) → map as_family o.families ≡ o.families
    plain true p = announced_plain o [] p.1
    plain false p = announced_plain o (flat_map (λ cs. cs) p.2.lists) p.2.announces

-- the bytes before the parameters, as the fields are put into them
pub front_joined : (version my_as hold n : ℕ) (identifier l a h : List ℕ) → length identifier ≡ 4 → l ≡ big_bytes 2 (29 + n) → a ≡ big_bytes 2 my_as → h ≡ big_bytes 2 hold
    → marker ++ (get_or l 0 0 ∷ get_or l 1 0 ∷ open_type ∷ version ∷ get_or a 0 0 ∷ get_or a 1 0 ∷ get_or h 0 0 ∷ get_or h 1 0 ∷ get_or identifier 0 0 ∷ get_or identifier 1 0 ∷ get_or identifier 2 0 ∷ get_or identifier 3 0 ∷ n ∷ [])
    ≡ front_of version my_as hold identifier n
front_joined version my_as hold n identifier l a h four e1 e2 e3 =
    ap (λ (x : List ℕ). marker ++ (get_or x 0 0 ∷ get_or x 1 0 ∷ open_type ∷ version ∷ get_or a 0 0 ∷ get_or a 1 0 ∷ get_or h 0 0 ∷ get_or h 1 0 ∷ get_or identifier 0 0 ∷ get_or identifier 1 0 ∷ get_or identifier 2 0 ∷ get_or identifier 3 0 ∷ n ∷ [])) e1
    ∙ ap (λ (x : List ℕ). marker ++ (big_bytes 2 (29 + n) ++ open_type ∷ version ∷ get_or x 0 0 ∷ get_or x 1 0 ∷ get_or h 0 0 ∷ get_or h 1 0 ∷ get_or identifier 0 0 ∷ get_or identifier 1 0 ∷ get_or identifier 2 0 ∷ get_or identifier 3 0 ∷ n ∷ [])) e2
    ∙ ap (λ (x : List ℕ). marker ++ (big_bytes 2 (29 + n) ++ open_type ∷ version ∷ (big_bytes 2 my_as ++ (get_or x 0 0 ∷ get_or x 1 0 ∷ get_or identifier 0 0 ∷ get_or identifier 1 0 ∷ get_or identifier 2 0 ∷ get_or identifier 3 0 ∷ n ∷ [])))) e3
    ∙ ap (λ (x : List ℕ). marker ++ (big_bytes 2 (29 + n) ++ open_type ∷ version ∷ (big_bytes 2 my_as ++ (big_bytes 2 hold ++ (x ++ n ∷ []))))) (four_of identifier four)
  where
    four_of : (i : List ℕ) → length i ≡ 4 → get_or i 0 0 ∷ get_or i 1 0 ∷ get_or i 2 0 ∷ get_or i 3 0 ∷ [] ≡ i
    four_of (w ∷ x ∷ y ∷ z ∷ []) e = refl
    four_of (w ∷ x ∷ y ∷ z ∷ v ∷ i) e = absurd (omega (arith, e))
    four_of (w ∷ x ∷ y ∷ []) e = absurd (omega (arith, e))
    four_of (w ∷ x ∷ []) e = absurd (omega (arith, e))
    four_of (w ∷ []) e = absurd (omega (arith, e))
    four_of [] e = absurd (omega (arith, e))

pub bare_put : (o p : OpenValue) → o ≡ p → (n k : ℕ) (front old new : List ℕ) → IsInOctets o → front ≡ open_front o n → k ≡ capabilities_size p → n ≡ parameters_size k → k ≡ 0 → new ≡ old ++ front → Appends (IsOpenOf p) old new
bare_put o p same n k front old new fits is size parameters none joined =
    subst (λ (q : OpenValue). k ≡ capabilities_size q → Appends (IsOpenOf q) old new) same
    (λ size. (front, joined, open_bare o n front fits (sym size ∙ none) (parameters ∙ ap parameters_size none) is)) size

pub full_put : (o p : OpenValue) → o ≡ p → (n k : ℕ) (front old m1 m2 new : List ℕ) → IsInOctets o → front ≡ open_front o n → k ≡ capabilities_size p → n ≡ parameters_size k → (k ≡ 0 → ⊥) → capabilities_size p ≤ 253
    → m1 ≡ old ++ front → m2 ≡ m1 ++ 2 ∷ k ∷ [] → Appends (AreCapabilities p) m2 new → Appends (IsOpenOf p) old new
full_put o p same n k front old m1 m2 new fits is size parameters some small e1 e2 all =
    subst (λ (q : OpenValue). k ≡ capabilities_size q → capabilities_size q ≤ 253 → Appends (AreCapabilities q) m2 new → Appends (IsOpenOf q) old new) same
    (λ size small all. full size small all) size small all
  where
    full : k ≡ capabilities_size o → capabilities_size o ≤ 253 → Appends (AreCapabilities o) m2 new → Appends (IsOpenOf o) old new
    full size small (piece, e3, caps) =
        let bytes = front ++ (2 ∷ k ∷ piece) in
        let joined : bytes ≡ open_front o n ++ (2 ∷ capabilities_size o ∷ piece) = ap (λ (l : List ℕ). l ++ (2 ∷ k ∷ piece)) is ∙ ap (λ (j : ℕ). open_front o n ++ (2 ∷ j ∷ piece)) size in
        (bytes, three_pieces old m1 m2 new front (2 ∷ k ∷ []) piece e1 e2 e3, open_full o n piece bytes fits caps (omega (arith, some, size)) small (parameters ∙ ap parameters_size size) joined)

-- an OPEN message that announces nothing is read from some body, whatever its parameters
identifier_of : (o : OpenValue) → length o.identifier ≡ 4 → (n : ℕ) (rest : List ℕ) → AreParameters n rest o → IsSome o
identifier_of o four n rest parameters = plain o.identifier four refl
  where
    plain : (i : List ℕ) → length i ≡ 4 → o.identifier ≡ i → IsSome o
    plain (w ∷ x ∷ y ∷ z ∷ []) e same = record {
      body = o.version ∷ 0 ∷ o.my_as ∷ 0 ∷ o.hold ∷ w ∷ x ∷ y ∷ z ∷ n ∷ rest;
      is = record { header = omega arith; version_is = refl; my_as_is = omega arith; hold_is = omega arith; identifier_is = sym same; parameters = parameters };
    }
    plain (w ∷ x ∷ y ∷ z ∷ v ∷ i) e same = absurd (omega (arith, e))
    plain (w ∷ x ∷ y ∷ []) e same = absurd (omega (arith, e))
    plain (w ∷ x ∷ []) e same = absurd (omega (arith, e))
    plain (w ∷ []) e same = absurd (omega (arith, e))
    plain [] e same = absurd (omega (arith, e))

families_body : (caps : List CapValue) → (bytes : List ℕ) × AreParts IsFamilyCapability bytes caps
families_body [] = ([], refl)
families_body (cap ∷ caps) =
    let rest = families_body caps in
    let first : List ℕ = 1 ∷ 4 ∷ 0 ∷ cap.afi ∷ 0 ∷ cap.safi ∷ [] in
    let is : IsFamilyCapability first cap = record {
      value = 0 ∷ cap.afi ∷ 0 ∷ cap.safi ∷ [];
      is = record { header = omega arith; code_is = refl; length_is = refl; value_is = refl };
      family_is = let n : big_number 2 (0 ∷ cap.afi ∷ 0 ∷ cap.safi ∷ []) ≡ cap.afi = omega arith in ap (λ (afi : ℕ). Some (record { afi = afi; safi = cap.safi; value = 0 })) n;
      reserved = refl;
      len = refl;
    } in
    (first ++ rest.0, (first, rest.0, record { joined = refl }, is, rest.1))

as_body : (four : Option ℕ) → (bytes : List ℕ) × IsAsCapability four bytes
as_body None = ([], refl)
as_body (Some asn) = (
  65 ∷ 4 ∷ 0 ∷ 0 ∷ 0 ∷ asn ∷ [],
  record { value = 0 ∷ 0 ∷ 0 ∷ asn ∷ []; is = record { header = omega arith; code_is = refl; length_is = refl; value_is = refl }; len = refl; asn_is = omega arith },
)

entries_body : (caps : List CapValue) → (bytes : List ℕ) × AreParts IsPathEntry bytes caps
entries_body [] = ([], refl)
entries_body (cap ∷ caps) =
    let rest = entries_body caps in
    let first : List ℕ = 0 ∷ cap.afi ∷ cap.safi ∷ cap.value ∷ [] in
    let is : IsPathEntry first cap = record { len = refl; entry_is = let n : big_number 2 (0 ∷ cap.afi ∷ []) ≡ cap.afi = omega arith in ap (λ (afi : ℕ). record { afi = afi; safi = cap.safi; value = cap.value } ∷ []) n } in
    (first ++ rest.0, (first, rest.0, record { joined = refl }, is, rest.1))

paths_body : (caps : List CapValue) → (bytes : List ℕ) × IsPathCapability caps bytes
paths_body [] = ([], refl)
paths_body (cap ∷ caps) =
    let value = entries_body (cap ∷ caps) in
    (69 ∷ length value.0 ∷ value.0, record { value = value.0; is = record { header = omega arith; code_is = refl; length_is = omega arith; value_is = refl }; are = value.1 })

-- some body is read as an OPEN message whose families say nothing more
pub some_plain : (o : OpenValue) → length o.identifier ≡ 4 → o.extended ≡ false → map as_family o.families ≡ o.families → IsSome o
some_plain o four extended families =
    let f = families_body o.families in
    let a = as_body o.four in
    let p = paths_body o.paths in
    let caps = f.0 ++ (a.0 ++ p.0) in
    let all : AreCapabilities o caps = all_capabilities o f.0 a.0 p.0 caps refl f.1 a.1 p.1 in
    let same : as_read o ≡ o = λ i. record o { families = families i; extended = sym extended i } in
    identifier_of o four (2 + length caps) (2 ∷ length caps ∷ caps) (subst (λ (q : OpenValue). AreParameters (2 + length caps) (2 ∷ length caps ∷ caps) q) same (one o caps all))

-- and as one with extended parameters that announces nothing
pub some_extended : (o : OpenValue) → length o.identifier ≡ 4 → o.extended ≡ true → capabilities_size o ≡ 0 → IsSome o
some_extended o four extended none = identifier_of o four 255 (255 ∷ []) (extended, announces_none o none)

pub extended_silent : (o : OpenValue) → IsSome o → o.extended ≡ true → capabilities_size o ≡ 0
extended_silent o some extended = silent (slice_index some.body 9 == 255 && slice_index (drop 10 some.body) 0 == 255) some.is.parameters
  where
    different : (b : Bool) → b ≡ true → b ≡ false → ⊥
    different true e f = absurd cc
    different false e f = absurd cc

    silent : (b : Bool) → MatchBool b ((o.extended ≡ true) × Announces [] o) ((o.extended ≡ false) × (length (drop 10 some.body) ≡ slice_index some.body 9) × HasParameters (drop 10 some.body) o) → capabilities_size o ≡ 0
    silent true p = omega (arith, ap (λ (l : List CapValue). length l) p.1.families_are, ap as_size p.1.four_is, ap paths_size p.1.paths_are)
    silent false p = absurd (different o.extended extended p.0)

-- the tests for such a body
pub extended_tells : (o p : OpenValue) → o ≡ p → length o.identifier ≡ 4 → o.extended ≡ true → ((capabilities_size p ≡ 0 → IsSome p) × (IsSome p → capabilities_size p ≡ 0))
extended_tells o p same four extended =
    subst (λ (q : OpenValue). (capabilities_size q ≡ 0 → IsSome q) × (IsSome q → capabilities_size q ≡ 0)) same
    (λ none. some_extended o four extended none, λ some. extended_silent o some extended)

pub families_tell : (o p : OpenValue) → o ≡ p → (l : List CapValue) → l ≡ o.families → length o.identifier ≡ 4 → o.extended ≡ false → ((map as_family l ≡ l → IsSome p) × (IsSome p → map as_family l ≡ l))
families_tell o p same l e four extended =
    subst (λ (q : OpenValue). (map as_family l ≡ l → IsSome q) × (IsSome q → map as_family l ≡ l)) same
    (subst (λ (m : List CapValue). (map as_family m ≡ m → IsSome o) × (IsSome o → map as_family m ≡ m)) (sym e)
    (λ plain. some_plain o four extended plain, λ some. open_plain o some.body some.is))
