-- Two TLVs behind a common header are an Initiation Message.
use Rattle.std.proofs.Common.{◌≡◌, ℕ, ◌+◌, ◌≤◌, List, [], ◌∷◌, ◌++◌, length, Some, refl, sym, ap, subst, ◌∙◌, arith, length-append, length-drop, append-nil, append_assoc, drop}
use Rattle.bmp_specs.specs.Frame.{IsFrame}
use Rattle.bmp_specs.specs.Tlv.{AreTlvs, IsTlv}
use Rattle.bmp_specs.specs.Values.{TlvValue, initiation, named, described}
use Rattle.bmp_writer.specs.Written.{Always, HasTold, IsWritten, initiation_type, unchanged}
use Rattle.bmp_writer.proofs.Frames.{header_bytes, frame_here}
use Rattle.bmp_writer.proofs.Heads.{read_as}

tlv_length : (part : List ℕ) (t : TlvValue) → IsTlv part t → length part ≡ 4 + length t.value
tlv_length part t is = omega (arith, is.header, length-drop 4 part, ap (λ (l : List ℕ). length l) is.value_is)

abbrev pub told : List ℕ → List ℕ → List TlvValue
told name descr = record { kind = 1; value = descr } ∷ record { kind = 2; value = name } ∷ []

two_tlvs : (name descr one two : List ℕ) → IsTlv one (record { kind = 1; value = descr }) → IsTlv two (record { kind = 2; value = name }) → AreTlvs (one ++ two) (told name descr)
two_tlvs name descr one two is is_too = (one, two, record { joined = refl }, is, (two, [], record { joined = sym (append-nil two) }, is_too, refl))

pub initiation_written : (name descr one two bytes : List ℕ) (n : ℕ) → IsTlv one (record { kind = 1; value = descr }) → IsTlv two (record { kind = 2; value = name })
    → bytes ≡ (header_bytes 4 n ++ one) ++ two → n ≡ 14 + length descr + length name → length descr ≤ 65535 → length name ≤ 65535
    → IsWritten initiation_type Always (named name ∷ described descr ∷ []) unchanged bytes
initiation_written name descr one two bytes n is is_too joined size d m =
    let l1 = tlv_length one _ is in
    let l2 = tlv_length two _ is_too in
    let l3 = length-append one two in
    let whole : bytes ≡ header_bytes 4 n ++ (one ++ two) = joined ∙ append_assoc (header_bytes 4 n) one two in
    let frame : IsFrame bytes 4 (one ++ two) = subst (λ (b : List ℕ). IsFrame b 4 (one ++ two)) (sym whole) (frame_here 4 n (one ++ two) (omega (arith, size, l1, l2, l3)) (omega (arith, size, d, m))) in
    record {
      body = one ++ two;
      is = frame;
      means = λ state _. read_as state state 4 bytes (one ++ two) (initiation (record { name = Some name; descr = Some descr; unread = 0 })) (named name ∷ described descr ∷ []) frame (
        record { name = Some name; descr = Some descr; unread = 0 },
        record { tlvs = told name descr; are = two_tlvs name descr one two is is_too; name_is = refl; descr_is = refl; unread_is = refl },
        refl,
        refl,
      )
          refl;
    }

pub told_written : (name descr one two bytes : List ℕ) (n : ℕ) → IsTlv one (record { kind = 1; value = descr }) → IsTlv two (record { kind = 2; value = name })
    → bytes ≡ (header_bytes 4 n ++ one) ++ two → HasTold name descr bytes
told_written name descr one two bytes n is is_too joined =
    let body : drop 6 bytes ≡ one ++ two = ap (λ (l : List ℕ). drop 6 l) (joined ∙ append_assoc (header_bytes 4 n) one two) in
    subst (λ (l : List ℕ). AreTlvs l (told name descr)) (sym body) (two_tlvs name descr one two is is_too)
