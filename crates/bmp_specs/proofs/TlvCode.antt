-- No TLV begins another.
use Rattle.std.proofs.Common.{◌≡◌, ℕ, ◌+◌, List, ◌++◌, length, drop, sym, ap, ◌∙◌, arith}
use Rattle.byteorder.specs.Endian.{big_number}
use Rattle.bmp_specs.specs.Parts.{IsCode}
use Rattle.bmp_specs.specs.Tlv.{IsTlv, AreTlvs}
use Rattle.bmp_specs.specs.Values.{TlvValue}
use Rattle.bmp_specs.proofs.PartsRead.{AreParts-one}
use Rattle.bmp_specs.proofs.PrefixCode.{same_front}
use Rattle.bmp_specs.proofs.StatedLength.{big_number-drop-append}

same_tlv : (v w : TlvValue) → v.kind ≡ w.kind → v.value ≡ w.value → v ≡ w
same_tlv v w kind value = λ i. record { kind = kind i; value = value i }

tlv_one : (a b x y : List ℕ) (v w : TlvValue) → IsTlv a v → IsTlv b w → a ++ x ≡ b ++ y → (a ≡ b) × (v ≡ w)
tlv_one a b x y v w p q e =
    let says : big_number 2 (drop 2 a) ≡ big_number 2 (drop 2 b) =
    sym (big_number-drop-append 2 2 a x p.header) ∙ ap (λ (l : List ℕ). big_number 2 (drop 2 l)) e ∙ big_number-drop-append 2 2 b y q.header in
    let lengths : length a ≡ length b = sym p.length_is ∙ ap (λ (n : ℕ). n + 4) says ∙ q.length_is in
    let same : a ≡ b = same_front a b x y lengths e in
    (same, same_tlv v w (sym p.kind_is ∙ ap (λ (l : List ℕ). big_number 2 l) same ∙ q.kind_is) (sym p.value_is ∙ ap (λ (l : List ℕ). drop 4 l) same ∙ q.value_is))

pub tlv_code : IsCode IsTlv
tlv_code = record { some = λ v p. omega (arith, p.header); one = tlv_one }

pub AreTlvs-one : (bytes : List ℕ) (ts us : List TlvValue) → AreTlvs bytes ts → AreTlvs bytes us → ts ≡ us
AreTlvs-one bytes ts us p q = AreParts-one IsTlv tlv_code bytes ts us p q
