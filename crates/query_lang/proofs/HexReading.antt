-- Eight octets in hexadecimal.
use Rattle.std.proofs.Common.{◌≡◌, ℕ, zero, suc, ◌<◌, ◌/◌, ◌%◌, List, [], ◌∷◌, All, length, slice_index, Ok, Err, Result, refl, ap, ◌∙◌, lit<}
use Rattle.std.specs.Prelude.{MatchResult}
use Rattle.std.proofs.lemmas.List.Elements.{All-head, All-tail}
use Rattle.hex.specs.Hex.{encode_with, encode_lower, lower_digits, decode_sized, IsBytes}
use Rattle.hex.specs.declared.error.FromHexError.{FromHexError}
use Rattle.hex.proofs.HexLemmas.{decode_sized-encode_lower}
use Rattle.bmp_specs.specs.PeerText.{hex_text}

pub hex_lower : (bytes : List ℕ) → hex_text bytes ≡ encode_lower bytes
unfolding hex_text encode_with
hex_lower [] = refl
hex_lower (b ∷ bytes) = ap (λ (l : List ℕ). slice_index lower_digits (b / 16) ∷ slice_index lower_digits (b % 16) ∷ l) (hex_lower bytes)

are_bytes : (octets : List ℕ) → All (λ octet. octet < 256) octets → IsBytes octets
are_bytes [] all i = lit< tt
are_bytes (o ∷ os) all zero = All-head (λ octet. octet < 256) o os all
are_bytes (o ∷ os) all (suc i) = are_bytes os (All-tail (λ octet. octet < 256) o os all) i

-- what decoding answers at the text of eight octets
pub decoded : (text o : List ℕ) → length o ≡ 8 → All (λ octet. octet < 256) o → text ≡ hex_text o → (result : Result (Unit {0}) FromHexError) (out : List ℕ)
    → MatchResult (decode_sized text 8) (λ bytes. (result ≡ Ok tt) × (out ≡ bytes)) (λ e. result ≡ Err e) → (result ≡ Ok tt) × (out ≡ o)
decoded text o long all is result out v =
    let e : decode_sized text 8 ≡ Ok o = ap (λ (l : List ℕ). decode_sized l 8) (is ∙ hex_lower o) ∙ decode_sized-encode_lower o 8 long (are_bytes o all) in
    rw e at v
