-- Of lists of octets one alone has a form: numbers, parts, frames and headers.
use Rattle.std.proofs.Common.{◌≡◌, ℕ, zero, suc, ◌+◌, ◌*◌, ◌/◌, ◌^◌, ◌<◌, ◌≤◌, Bool, true, false, List, [], ◌∷◌, ◌++◌, length, take, drop, Some, None, refl, sym, ap, subst, ◌∙◌, arith, leb, length-drop, drop-drop, replicate}
use Rattle.std.specs.List.{AllByRecursion}
use Rattle.std.specs.Prelude.{if◌then◌else◌, slice_index}
use Rattle.std.proofs.lemmas.List.{drop_more, length-take-le, take-append-drop}
use Rattle.std.proofs.lemmas.Nat.{div-mul-add}
use Rattle.byteorder.specs.Endian.{big_number}
use Rattle.byteorder.specs.Numbers.{big_from-cons, big_from-lt, big_from-take}
use Rattle.bmp_specs.specs.declared.peers.View.{View}
use Rattle.bmp_specs.specs.BgpMessage.{IsBgpMessage, marker}
use Rattle.bmp_specs.specs.Frame.{IsFrame}
use Rattle.bmp_specs.specs.Number.{IsNumber}
use Rattle.bmp_specs.specs.Parts.{AreParts}
use Rattle.bmp_specs.specs.PeerHeader.{HeaderValue, IsHeader, key_of, loc_rib, place_of}
use Rattle.bmp_specs.specs.Sequence.{IsField}
use Rattle.bmp_specs.specs.Tlv.{AreTlvs, IsTlv}
use Rattle.bmp_specs.specs.Values.{BgpMessageValue, KeyValue, PeerInfoValue, TlvValue}
use Rattle.bmp_writer.specs.PeerMessage.{IsHeaderOf, IsPeerMessage, address_bytes, header_flags}
use Rattle.bmp_writer.specs.PeerUpMessage.{IsUpHeader, up_flags}
use Rattle.bmp_writer.specs.WrittenAttributes.{Joined}
use Rattle.bmp_writer.proofs.Frames.{frame_length}
use Rattle.bmp_specs.specs.Octets.{AreOctets}
use Rattle.relay_out.proofs.Members.{all_parts}

-- two lists of octets that are so are one
abbrev pub IsOne : (List ℕ → Type 0) → Type 0
IsOne Is = (a b : List ℕ) → AreOctets a → AreOctets b → Is a → Is b → a ≡ b

-- ---- octets of parts
pub octets_of : (front rest bytes : List ℕ) → bytes ≡ front ++ rest → AreOctets bytes → AreOctets front × AreOctets rest
octets_of front rest bytes joined o = all_parts (λ b. b < 256) front rest (subst AreOctets joined o)

pub octets_at : (n : ℕ) (bytes : List ℕ) → AreOctets bytes → AreOctets (take n bytes) × AreOctets (drop n bytes)
octets_at n bytes o = octets_of (take n bytes) (drop n bytes) bytes (sym (take-append-drop n bytes)) o

-- what holds of the number at each place of a list holds of all
pub all_at : (P : ℕ → Type 0) (xs : List ℕ) → ((i : ℕ) → P (slice_index xs i)) → AllByRecursion P xs
all_at P [] at = tt
all_at P (x ∷ xs) at = (at zero, all_at P xs (λ i. at (suc i)))

octet_at : (xs : List ℕ) → AreOctets xs → (k : ℕ) → slice_index xs k < 256
octet_at [] o k = omega arith
octet_at (x ∷ xs) o zero = o.0
octet_at (x ∷ xs) o (suc k) = octet_at xs o.1 k

-- ---- numbers
number_same : (n : ℕ) (a b : List ℕ) → length a ≡ n → length b ≡ n → AreOctets a → AreOctets b → big_number n a ≡ big_number n b → a ≡ b
number_same n [] [] la lb oa ob same = refl
number_same n [] (y ∷ b) la lb oa ob same = absurd (omega (arith, la, lb))
number_same n (x ∷ a) [] la lb oa ob same = absurd (omega (arith, la, lb))
number_same zero (x ∷ a) (y ∷ b) la lb oa ob same = absurd (omega (arith, la))
number_same (suc n) (x ∷ a) (y ∷ b) la lb oa ob same =
    let m : ℕ = 256 ^ n in
    let e : x * m + big_number n a ≡ y * m + big_number n b = ap (λ (r : ℕ). x * m + r) (sym (big_from-cons 0 n x a)) ∙ same ∙ ap (λ (r : ℕ). y * m + r) (big_from-cons 0 n y b) in
    let first : x ≡ y = sym (div-mul-add x m (big_number n a) (big_from-lt 0 n a (octet_at a oa.1))) ∙ ap (λ (v : ℕ). v / m) e ∙ div-mul-add y m (big_number n b) (big_from-lt 0 n b (octet_at b ob.1)) in
    let others : big_number n a ≡ big_number n b = let f : x * m ≡ y * m = ap (λ (v : ℕ). v * m) first in omega (arith, e, f) in
    let rest : a ≡ b = number_same n a b (omega (arith, la)) (omega (arith, lb)) oa.1 ob.1 others in
    λ i. first i ∷ rest i

-- the n bytes from place i
pub number_at : (n i : ℕ) (a b : List ℕ) → i + n ≤ length a → i + n ≤ length b → AreOctets a → AreOctets b → big_number n (drop i a) ≡ big_number n (drop i b) → take n (drop i a) ≡ take n (drop i b)
number_at n i a b la lb oa ob same =
    number_same n (take n (drop i a)) (take n (drop i b)) (len a la) (len b lb) (octets_at n (drop i a) (octets_at i a oa).1).0 (octets_at n (drop i b) (octets_at i b ob).1).0 (number a ∙ same ∙ sym (number b))
  where
    len : (l : List ℕ) → i + n ≤ length l → length (take n (drop i l)) ≡ n
    len l h = length-take-le n (drop i l) (omega (arith, h, length-drop i l))

    number : (l : List ℕ) → big_number n (take n (drop i l)) ≡ big_number n (drop i l)
    number l = big_from-take 0 n n (drop i l) (omega arith)

pub number_one : (n v : ℕ) → IsOne (λ bytes. IsNumber n bytes v)
number_one n v a b oa ob x y = number_same n a b x.len y.len oa ob (x.value_is ∙ sym y.value_is)

pub field_one : (n : ℕ) (v : List ℕ) → IsOne (λ bytes. IsField n bytes v)
field_one n v a b oa ob x y = x.value_is ∙ sym y.value_is

-- ---- one part, and then another
pub joined_one : (Is Js : List ℕ → Type 0) → IsOne Is → IsOne Js → IsOne (Joined Is Js)
joined_one Is Js one other a b oa ob (f, r, s, fi, rj) (g, t, u, gi, tj) =
    let x = octets_of f r a s.joined oa in
    let y = octets_of g t b u.joined ob in
    let front : f ≡ g = one f g x.0 y.0 fi gi in
    let rest : r ≡ t = other r t x.1 y.1 rj tj in
    s.joined ∙ (λ i. front i ++ rest i) ∙ sym u.joined

pub parts_one : {V : Type 0} (Is : List ℕ → V → Type 0) → ((v : V) → IsOne (λ bytes. Is bytes v)) → (vs : List V) → IsOne (λ bytes. AreParts Is bytes vs)
parts_one Is one [] a b oa ob x y = x ∙ sym y
parts_one Is one (v ∷ vs) a b oa ob x y = joined_one (λ bytes. Is bytes v) (λ bytes. AreParts Is bytes vs) (one v) (parts_one Is one vs) a b oa ob x y

-- ---- what stands behind n bytes
pub behind : (n i : ℕ) (l : List ℕ) → drop i l ≡ take n (drop i l) ++ drop (i + n) l
behind n i l = sym (take-append-drop n (drop i l)) ∙ ap (λ (r : List ℕ). take n (drop i l) ++ r) (drop-drop n i l)

-- ---- frames
pub frame_one : (kind : ℕ) (body : List ℕ) → IsOne (λ bytes. IsFrame bytes kind body)
frame_one kind body a b oa ob x y =
    let la = frame_length a kind body x in
    let lb = frame_length b kind body y in
    whole a x ∙ ap (λ (n : List ℕ). 3 ∷ (n ++ kind ∷ body)) (number_at 4 1 a b (omega (arith, la)) (omega (arith, lb)) oa ob (x.length_is ∙ la ∙ sym lb ∙ sym y.length_is)) ∙ sym (whole b y)
  where
    whole : (l : List ℕ) → IsFrame l kind body → l ≡ 3 ∷ (take 4 (drop 1 l) ++ kind ∷ body)
    whole l x =
        let last : drop 5 l ≡ kind ∷ body = drop_more l 5 0 (omega (arith, x.header)) ∙ (λ i. x.kind_is i ∷ x.body_is i) in
        let rest : drop 1 l ≡ take 4 (drop 1 l) ++ kind ∷ body = behind 4 1 l ∙ ap (λ (r : List ℕ). take 4 (drop 1 l) ++ r) last in
        drop_more l 0 0 (omega (arith, x.header)) ∙ (λ i. x.version i ∷ rest i)

pub message_one : (m : BgpMessageValue) → IsOne (λ bytes. IsBgpMessage bytes m)
message_one m a b oa ob x y =
    let la = len a x in
    let lb = len b y in
    whole a x ∙ ap (λ (n : List ℕ). marker ++ (n ++ m.kind ∷ m.body)) (number_at 2 16 a b (omega (arith, la)) (omega (arith, lb)) oa ob (x.length_is ∙ la ∙ sym lb ∙ sym y.length_is)) ∙ sym (whole b y)
  where
    len : (l : List ℕ) → IsBgpMessage l m → length l ≡ 19 + length m.body
    len l x = omega (arith, x.header, length-drop 19 l, ap (λ (r : List ℕ). length r) x.body_is)

    whole : (l : List ℕ) → IsBgpMessage l m → l ≡ marker ++ (take 2 (drop 16 l) ++ m.kind ∷ m.body)
    whole l x =
        let last : drop 18 l ≡ m.kind ∷ m.body = drop_more l 18 0 (omega (arith, x.header)) ∙ (λ i. x.kind_is i ∷ x.body_is i) in
        let rest : drop 16 l ≡ take 2 (drop 16 l) ++ m.kind ∷ m.body = behind 2 16 l ∙ ap (λ (r : List ℕ). take 2 (drop 16 l) ++ r) last in
        sym (take-append-drop 16 l) ∙ (λ i. x.marker_is i ++ rest i)

-- ---- TLVs
tlv_one : (t : TlvValue) → IsOne (λ bytes. IsTlv bytes t)
tlv_one t a b oa ob x y =
    let la = len a x in
    let lb = len b y in
    let kind = number_at 2 0 a b (omega (arith, la)) (omega (arith, lb)) oa ob (x.kind_is ∙ sym y.kind_is) in
    let size = number_at 2 2 a b (omega (arith, la)) (omega (arith, lb)) oa ob (let p = x.length_is in let q = y.length_is in omega (arith, p, q, la, lb)) in
    whole a x ∙ (λ i. kind i ++ (size i ++ t.value)) ∙ sym (whole b y)
  where
    len : (l : List ℕ) → IsTlv l t → length l ≡ 4 + length t.value
    len l x = omega (arith, x.header, length-drop 4 l, ap (λ (r : List ℕ). length r) x.value_is)

    whole : (l : List ℕ) → IsTlv l t → l ≡ take 2 l ++ (take 2 (drop 2 l) ++ t.value)
    whole l x =
        let rest : drop 2 l ≡ take 2 (drop 2 l) ++ t.value = behind 2 2 l ∙ ap (λ (r : List ℕ). take 2 (drop 2 l) ++ r) x.value_is in
        sym (take-append-drop 2 l) ∙ ap (λ (r : List ℕ). take 2 l ++ r) rest

pub tlvs_one : (ts : List TlvValue) → IsOne (λ bytes. AreTlvs bytes ts)
tlvs_one ts = parts_one IsTlv tlv_one ts

-- ---- Per-Peer Headers
header_one : (h : HeaderValue) → IsOne (λ bytes. IsHeader bytes h)
header_one h =
    joined_one (λ l. IsNumber 1 l h.kind) _ (number_one 1 h.kind)
    (joined_one (λ l. IsNumber 1 l h.flags) _ (number_one 1 h.flags)
    (joined_one (λ l. IsNumber 8 l h.distinguisher) _ (number_one 8 h.distinguisher)
    (joined_one (λ l. IsField 16 l h.address) _ (field_one 16 h.address)
    (joined_one (λ l. IsNumber 4 l h.asn) _ (number_one 4 h.asn)
    (joined_one (λ l. IsField 4 l h.identifier) _ (field_one 4 h.identifier) (joined_one (λ l. IsNumber 4 l h.seconds) (λ l. IsNumber 4 l h.micros) (number_one 4 h.seconds) (number_one 4 h.micros)))))))

-- the fields that name the peer
named : (h : HeaderValue) (key : KeyValue) → key_of h ≡ Some key → (h.kind ≡ key.kind) × (h.distinguisher ≡ key.distinguisher)
named h key e = go (leb h.kind loc_rib) e
  where
    go : (b : Bool) → (if b then Some (record { kind = h.kind; distinguisher = h.distinguisher; address = place_of h h.address }) else None) ≡ Some key → (h.kind ≡ key.kind) × (h.distinguisher ≡ key.distinguisher)
    go true e = let same : record { kind = h.kind; distinguisher = h.distinguisher; address = place_of h h.address } ≡ key = cc e in (ap (λ (k : KeyValue). k.kind) same, ap (λ (k : KeyValue). k.distinguisher) same)
    go false e = absurd (cc e)

pub headers_one : (key : KeyValue) (view : View) → IsOne (IsHeaderOf key view)
headers_one key view a b oa ob x y =
    let plain : HeaderValue = record { kind = key.kind; flags = header_flags key view; distinguisher = key.distinguisher; address = address_bytes key.address; asn = 0; identifier = replicate 4 0; seconds = 0; micros = 0 } in
    header_one plain a b oa ob (subst (IsHeader a) (same a x) x.is) (subst (IsHeader b) (same b y) y.is)
  where
    same : (l : List ℕ) (x : IsHeaderOf key view l) → x.header ≡ record { kind = key.kind; flags = header_flags key view; distinguisher = key.distinguisher; address = address_bytes key.address; asn = 0; identifier = replicate 4 0; seconds = 0; micros = 0 }
    same l x =
        let n = named x.header key x.key_is in
        λ i. record { kind = n.0 i; flags = x.flags_are i; distinguisher = n.1 i; address = x.address_is i; asn = x.plain.no_asn i; identifier = x.plain.no_identifier i; seconds = x.plain.no_seconds i; micros = x.plain.no_micros i }

pub up_header_one : (key : KeyValue) (info : PeerInfoValue) → IsOne (IsUpHeader key info)
up_header_one key info a b oa ob x y = header_one (told_in) a b oa ob (subst (IsHeader a) (same a x) x.is) (subst (IsHeader b) (same b y) y.is)
  where
    told_in : HeaderValue
    told_in = record { kind = key.kind; flags = up_flags key info.filtered; distinguisher = key.distinguisher; address = address_bytes key.address; asn = info.asn; identifier = info.identifier; seconds = 0; micros = 0 }

    same : (l : List ℕ) (x : IsUpHeader key info l) → x.header ≡ told_in
    same l x =
        let n = named x.header key x.key_is in
        λ i. record { kind = n.0 i; flags = x.flags_are i; distinguisher = n.1 i; address = x.address_is i; asn = x.asn_is i; identifier = x.identifier_is i; seconds = x.no_seconds i; micros = x.no_micros i }

-- the body of a frame is of octets
pub body_octets : (bytes : List ℕ) (kind : ℕ) (body : List ℕ) → IsFrame bytes kind body → AreOctets bytes → AreOctets body
body_octets bytes kind body is o = subst AreOctets is.body_is (octets_at 6 bytes o).1

pub peer_message_one : (kind : ℕ) (key : KeyValue) (view : View) (rest : List ℕ) → IsOne (IsPeerMessage kind key view rest)
peer_message_one kind key view rest a b oa ob x y =
    let p = octets_of x.head rest (x.head ++ rest) refl (body_octets a kind (x.head ++ rest) x.is oa) in
    let q = octets_of y.head rest (y.head ++ rest) refl (body_octets b kind (y.head ++ rest) y.is ob) in
    let head : x.head ≡ y.head = headers_one key view x.head y.head p.0 q.0 x.head_is y.head_is in
    frame_one kind (y.head ++ rest) a b oa ob (subst (λ (h : List ℕ). IsFrame a kind (h ++ rest)) head x.is) y.is
