-- The fields of a header, as they are read, and its addresses.
use Rattle.std.proofs.Common.{◌≡◌, ℕ, List, length, take, drop, slice_index, sym, ap, ◌∙◌, arith, length-drop, take_all}
use Rattle.std.proofs.lemmas.List.{get_or-take, get_or-drop}
use Rattle.byteorder.specs.Endian.{big_number}
use Rattle.bmp_specs.specs.declared.wire.Family.{Family}
use Rattle.bmp_specs.specs.declared.wire.Family.TheVariants.{V4}
use Rattle.bmp_specs.specs.PeerHeader.{HeaderValue, IsHeader, family_of, place_of, address_in}
use Rattle.bmp_specs.specs.Prefix.{padded}
use Rattle.bmp_specs.specs.Values.{AddressValue}
use Rattle.bmp_specs.proofs.PeerHeaderCode.{header_here}

one_byte : (bytes : List ℕ) → big_number 1 (take 1 bytes) ≡ slice_index bytes 0
one_byte bytes = omega (arith, get_or-take 1 bytes 0 0 (omega arith))

second_byte : (bytes : List ℕ) → big_number 1 (take 1 (drop 1 bytes)) ≡ slice_index bytes 1
second_byte bytes = one_byte (drop 1 bytes) ∙ get_or-drop 1 bytes 0 0

-- the header of these fields, each of which stands where it is read
pub read_fields : (bytes : List ℕ) (distinguisher asn seconds micros : ℕ) (address identifier : List ℕ) → length bytes ≡ 42
    → distinguisher ≡ big_number 8 (take 8 (drop 2 bytes)) → address ≡ take 16 (drop 10 bytes) → asn ≡ big_number 4 (take 4 (drop 26 bytes)) → identifier ≡ take 4 (drop 30 bytes)
    → seconds ≡ big_number 4 (take 4 (drop 34 bytes)) → micros ≡ big_number 4 (take 4 (drop 38 bytes))
    → IsHeader bytes (record { kind = slice_index bytes 0; flags = slice_index bytes 1; distinguisher = distinguisher; address = address; asn = asn; identifier = identifier; seconds = seconds; micros = micros })
read_fields bytes distinguisher asn seconds micros address identifier len d a n i s m =
    let last : take 4 (drop 38 bytes) ≡ drop 38 bytes = take_all 4 (drop 38 bytes) (omega (arith, length-drop 38 bytes, len)) in
    rw (d, a, n, i, s, m, last, sym (one_byte bytes), sym (second_byte bytes)) (header_here bytes len)

-- the last four bytes are an IPv4 address
pub place_v4 : (h : HeaderValue) (raw last : List ℕ) (a : AddressValue) → V4 ≡ family_of h → length raw ≡ 16 → last ≡ take 4 (drop 12 raw) → a.family ≡ V4 → a.octets ≡ padded last → a ≡ place_of h raw
place_v4 h raw last a family len is f o =
    let all : take 4 (drop 12 raw) ≡ drop 12 raw = take_all 4 (drop 12 raw) (omega (arith, length-drop 12 raw, len)) in
    let octets : a.octets ≡ padded (drop 12 raw) = o ∙ ap (λ (l : List ℕ). padded l) (is ∙ all) in
    let of_family : Family → AddressValue = λ v. record { family = v; octets = a.octets } in
    let of_octets : List ℕ → AddressValue = λ l. record { family = V4; octets = l } in
    ap of_family f ∙ ap of_octets octets ∙ ap (λ (v : Family). address_in v raw) family
