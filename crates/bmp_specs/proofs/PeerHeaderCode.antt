-- Bytes are one Per-Peer Header at most, and 42 bytes are one.
use Rattle.std.proofs.Common.{◌≡◌, ℕ, ◌<◌, ◌≤◌, ◌-◌, List, length, take, drop, refl, sym, ap, ◌∙◌, arith, length-take, length-drop, take-append-drop, drop-drop, add_comm, ◌+◌}
use Rattle.byteorder.specs.Endian.{big_number}
use Rattle.bmp_specs.specs.Parts.{IsCode}
use Rattle.bmp_specs.specs.Number.{IsNumber}
use Rattle.bmp_specs.specs.Sequence.{Then, IsField}
use Rattle.bmp_specs.specs.PeerHeader.{HeaderValue, IsHeader}
use Rattle.bmp_specs.proofs.PrefixCode.{same_front}
use Rattle.bmp_specs.proofs.SequenceRead.{Then-code, field_code}

pub number_code : (n : ℕ) → 0 < n → IsCode (IsNumber n)
number_code n some = record {
  some = λ v p. omega (arith, some, p.len);
  one = λ a b x y v w p q e.
      let same = same_front a b x y (p.len ∙ sym q.len) e in
      (same, sym p.value_is ∙ ap (λ (l : List ℕ). big_number n l) same ∙ q.value_is);
}

-- the fields of a header, as they follow one another
abbrev pub Fields : Type 0
Fields = ℕ × (ℕ × (ℕ × (List ℕ × (ℕ × (List ℕ × (ℕ × ℕ))))))

abbrev pub AreFields : List ℕ → Fields → Type 0
AreFields = Then (IsNumber 1) (Then (IsNumber 1) (Then (IsNumber 8) (Then (IsField 16) (Then (IsNumber 4) (Then (IsField 4) (Then (IsNumber 4) (IsNumber 4)))))))

abbrev pub fields_of : HeaderValue → Fields
fields_of h = (h.kind, (h.flags, (h.distinguisher, (h.address, (h.asn, (h.identifier, (h.seconds, h.micros)))))))

abbrev pub header_of : Fields → HeaderValue
header_of f = record { kind = f.0; flags = f.1.0; distinguisher = f.1.1.0; address = f.1.1.1.0; asn = f.1.1.1.1.0; identifier = f.1.1.1.1.1.0; seconds = f.1.1.1.1.1.1.0; micros = f.1.1.1.1.1.1.1 }

fields_code : IsCode AreFields
fields_code =
    let byte = number_code 1 (omega arith) in
    let four = number_code 4 (omega arith) in
    Then-code _ _ byte (Then-code _ _ byte (Then-code _ _ (number_code 8 (omega arith)) (Then-code _ _ (field_code 16 (omega arith)) (Then-code _ _ four (Then-code _ _ (field_code 4 (omega arith)) (Then-code _ _ four four))))))

-- no header begins another
pub header_code : IsCode IsHeader
header_code = record {
  some = λ h p. fields_code.some (fields_of h) p;
  one = λ a b x y h k p q e.
      let same = fields_code.one a b x y (fields_of h) (fields_of k) p q e in
      (same.0, ap (λ (f : Fields). header_of f) same.1);
}

-- a part that is cut off the front, and what follows it
Then-cut : {A B : Type 0} (Is : List ℕ → A → Type 0) (Js : List ℕ → B → Type 0) (n : ℕ) (bytes : List ℕ) (a : A) (b : B) → Is (take n bytes) a → Js (drop n bytes) b → Then Is Js bytes (a, b)
Then-cut Is Js n bytes a b is js = (take n bytes, drop n bytes, record { joined = sym (take-append-drop n bytes) }, is, js)

number_cut : (n : ℕ) (bytes : List ℕ) → n ≤ length bytes → IsNumber n (take n bytes) (big_number n (take n bytes))
number_cut n bytes here = record { len = omega (arith, length-take n bytes); value_is = refl }

field_cut : (n : ℕ) (bytes : List ℕ) → n ≤ length bytes → IsField n (take n bytes) (take n bytes)
field_cut n bytes here = record { len = omega (arith, length-take n bytes); value_is = refl }

-- the header that 42 bytes are
abbrev pub header_at : List ℕ → HeaderValue
header_at bytes = record {
  kind = big_number 1 (take 1 bytes);
  flags = big_number 1 (take 1 (drop 1 bytes));
  distinguisher = big_number 8 (take 8 (drop 2 bytes));
  address = take 16 (drop 10 bytes);
  asn = big_number 4 (take 4 (drop 26 bytes));
  identifier = take 4 (drop 30 bytes);
  seconds = big_number 4 (take 4 (drop 34 bytes));
  micros = big_number 4 (drop 38 bytes);
}

-- a part that is cut off at one place, and what follows it at another
cut_at : {A B : Type 0} (Is : List ℕ → A → Type 0) (Js : List ℕ → B → Type 0) (m n o : ℕ) (bytes : List ℕ) (a : A) (b : B) → n + m ≡ o → Is (take n (drop m bytes)) a → Js (drop o bytes) b
    → Then Is Js (drop m bytes) (a, b)
cut_at Is Js m n o bytes a b e is js = Then-cut Is Js n (drop m bytes) a b is (rw (drop-drop n m bytes) (rw (add_comm m n, e) js))

-- the ends of the fields, each of which begins with one field
abbrev pub FromSeconds : List ℕ → ℕ × ℕ → Type 0
FromSeconds = Then (IsNumber 4) (IsNumber 4)

abbrev pub FromIdentifier : List ℕ → List ℕ × (ℕ × ℕ) → Type 0
FromIdentifier = Then (IsField 4) FromSeconds

abbrev pub FromAs : List ℕ → ℕ × (List ℕ × (ℕ × ℕ)) → Type 0
FromAs = Then (IsNumber 4) FromIdentifier

abbrev pub FromAddress : List ℕ → List ℕ × (ℕ × (List ℕ × (ℕ × ℕ))) → Type 0
FromAddress = Then (IsField 16) FromAs

abbrev pub FromDistinguisher : List ℕ → ℕ × (List ℕ × (ℕ × (List ℕ × (ℕ × ℕ)))) → Type 0
FromDistinguisher = Then (IsNumber 8) FromAddress

abbrev pub FromFlags : List ℕ → ℕ × (ℕ × (List ℕ × (ℕ × (List ℕ × (ℕ × ℕ))))) → Type 0
FromFlags = Then (IsNumber 1) FromDistinguisher

pub header_here : (bytes : List ℕ) → length bytes ≡ 42 → IsHeader bytes (header_at bytes)
header_here bytes len =
    let f = fields_of (header_at bytes) in
    let there : (n : ℕ) → length (drop n bytes) ≡ 42 - n = λ n. length-drop n bytes ∙ ap (λ (m : ℕ). m - n) len in
    let seconds : FromSeconds (drop 34 bytes) f.1.1.1.1.1.1 = cut_at (IsNumber 4) (IsNumber 4) 34 4 38 bytes _ _ refl (number_cut 4 (drop 34 bytes) (omega (arith, there 34))) (record { len = there 38; value_is = refl }) in
    let identifier : FromIdentifier (drop 30 bytes) f.1.1.1.1.1 = cut_at (IsField 4) FromSeconds 30 4 34 bytes _ _ refl (field_cut 4 (drop 30 bytes) (omega (arith, there 30))) seconds in
    let asn : FromAs (drop 26 bytes) f.1.1.1.1 = cut_at (IsNumber 4) FromIdentifier 26 4 30 bytes _ _ refl (number_cut 4 (drop 26 bytes) (omega (arith, there 26))) identifier in
    let address : FromAddress (drop 10 bytes) f.1.1.1 = cut_at (IsField 16) FromAs 10 16 26 bytes _ _ refl (field_cut 16 (drop 10 bytes) (omega (arith, there 10))) asn in
    let distinguisher : FromDistinguisher (drop 2 bytes) f.1.1 = cut_at (IsNumber 8) FromAddress 2 8 10 bytes _ _ refl (number_cut 8 (drop 2 bytes) (omega (arith, there 2))) address in
    let flags : FromFlags (drop 1 bytes) f.1 = cut_at (IsNumber 1) FromDistinguisher 1 1 2 bytes _ _ refl (number_cut 1 (drop 1 bytes) (omega (arith, there 1))) distinguisher in
    Then-cut (IsNumber 1) FromFlags 1 bytes f.0 f.1 (number_cut 1 bytes (omega (arith, len))) flags
