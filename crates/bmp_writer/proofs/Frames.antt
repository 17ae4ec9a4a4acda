-- A common header and a body are a message.
use Rattle.std.proofs.Common.{◌≡◌, ℕ, ◌+◌, ◌≤◌, List, [], ◌∷◌, ◌++◌, length, refl, sym, ap, ◌∙◌, arith, length-drop}
use Rattle.byteorder.specs.Endian.{big_bytes}
use Rattle.byteorder.specs.Numbers.{big_number-reads_back}
use Rattle.bmp_specs.specs.Frame.{IsFrame, most, stated}

-- the common header of a message with so many bytes
abbrev pub header_bytes : ℕ → ℕ → List ℕ
header_bytes kind n = 3 ∷ (big_bytes 4 n ++ kind ∷ [])

pub frame_here : (kind n : ℕ) (body : List ℕ) → n ≡ 6 + length body → n ≤ most → IsFrame (header_bytes kind n ++ body) kind body
frame_here kind n body size fits =
    let back : stated (header_bytes kind n ++ body) ≡ n = big_number-reads_back 4 n (kind ∷ body) (omega (arith, fits)) in
    let len : length (header_bytes kind n ++ body) ≡ 6 + length body = omega arith in
    record {
      header = omega (arith, len);
      version = refl;
      length_is = back ∙ size ∙ sym len;
      in_range = (omega (arith, len), omega (arith, len, size, fits));
      kind_is = refl;
      body_is = refl;
    }

-- a message is its common header and its body
pub frame_length : (bytes : List ℕ) (kind : ℕ) (body : List ℕ) → IsFrame bytes kind body → length bytes ≡ 6 + length body
frame_length bytes kind body is = omega (arith, is.header, length-drop 6 bytes, ap (λ (l : List ℕ). length l) is.body_is)
