-- The digits of a distinguisher, written and read.
use Rattle.std.proofs.Common.{◌≡◌, ℕ, ◌%◌, ◌/◌, ◌^◌, ◌<◌, ◌*◌, zero, suc, List, [], ◌∷◌, refl, sym, ap, ◌∙◌, append-nil, length, arith, true, false, not, Bool, Ok, Err, Result, slice_index, lit<}
use Rattle.std.proofs.Math.Nat.{mod-lt}
use Rattle.std.specs.Int.{bytes_high_first, byte_at}
use Rattle.byteorder.specs.Endian.{big_bytes, big_number}
use Rattle.byteorder.specs.Numbers.{big_number-reads_back, length-bytes_high_first}
use Rattle.hex.specs.Hex.{encode_with, encode_lower, lower_digits, decode_sized, IsBytes}
use Rattle.std.specs.Prelude.{MatchResult, nat_eq}
use Rattle.std.specs.Cmp.Lexicographic.{pointwise, other_text}
use Rattle.hex.specs.declared.error.FromHexError.{FromHexError}
use Rattle.hex.proofs.HexLemmas.{decode_sized-encode_lower}
use Rattle.bmp_specs.specs.PeerText.{hex_text, distinguisher_text, IsDistinguisherText}

hex_lower : (bytes : List ℕ) → hex_text bytes ≡ encode_lower bytes
unfolding hex_text encode_with
hex_lower [] = refl
hex_lower (b ∷ bytes) = ap (λ (l : List ℕ). slice_index lower_digits (b / 16) ∷ slice_index lower_digits (b % 16) ∷ l) (hex_lower bytes)

pub written_digits : (d : ℕ) → distinguisher_text d ≡ encode_lower (big_bytes 8 d)
unfolding distinguisher_text
written_digits d = hex_lower (big_bytes 8 d)

one_byte : (k d : ℕ) → byte_at k d < 256
one_byte zero d = mod-lt d (lit< tt)
one_byte (suc k) d = mod-lt (d / 256 ^ suc k) (lit< tt)

are_bytes : (n d : ℕ) → IsBytes (bytes_high_first n d)
are_bytes zero d i = lit< tt
are_bytes (suc n) d zero = one_byte n d
are_bytes (suc n) d (suc i) = are_bytes n d i

pub read_back : (d : ℕ) → d < 2 ^ 64 → decode_sized (distinguisher_text d) 8 ≡ Ok (big_bytes 8 d)
read_back d fits = ap (λ (l : List ℕ). decode_sized l 8) (written_digits d) ∙ decode_sized-encode_lower (big_bytes 8 d) 8 (length-bytes_high_first 8 d) (are_bytes 8 d)

pub number_back : (d : ℕ) → d < 2 ^ 64 → big_number 8 (big_bytes 8 d) ≡ d
number_back d fits = ap (λ (l : List ℕ). big_number 8 l) (sym (append-nil (big_bytes 8 d))) ∙ big_number-reads_back 8 d [] fits

-- what decoding answers at the text of a distinguisher
pub decoded : (text : List ℕ) (d : ℕ) → IsDistinguisherText text d → (result : Result (Unit {0}) FromHexError) (out : List ℕ)
    → MatchResult (decode_sized text 8) (λ bytes. (result ≡ Ok tt) × (out ≡ bytes)) (λ e. result ≡ Err e) → (result ≡ Ok tt) × (out ≡ big_bytes 8 d)
decoded text d is result out v =
    let e : decode_sized text 8 ≡ Ok (big_bytes 8 d) = ap (λ (l : List ℕ). decode_sized l 8) is.spelled ∙ read_back d is.within in
    rw e at v

-- a test of two texts that are one
pub not_other : (xs ys : List ℕ) → xs ≡ ys → true ≡ not (pointwise nat_eq xs ys) → ⊥
not_other xs ys same told = go (pointwise nat_eq xs ys) refl told
  where
    go : (b : Bool) → pointwise nat_eq xs ys ≡ b → true ≡ not b → ⊥
    go true e told = absurd cc
    go false e told = other_text xs ys (sym e) same

length-hex_text : (bytes : List ℕ) → length (hex_text bytes) ≡ 2 * length bytes
unfolding hex_text
length-hex_text [] = refl
length-hex_text (b ∷ bytes) = let e = length-hex_text bytes in omega (arith, e)

pub length-distinguisher_text : (d : ℕ) → length (distinguisher_text d) ≡ 16
unfolding distinguisher_text
length-distinguisher_text d = length-hex_text (big_bytes 8 d) ∙ ap (λ (n : ℕ). 2 * n) (length-bytes_high_first 8 d)
