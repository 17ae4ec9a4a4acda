-- Bytes of a router as text that stands in one field of a line, in a form of ours: visible ASCII as it is, and any other
-- byte, and `%`, as `%` and two hexadecimal digits.
use Rattle.std.specs.Prelude.{ℕ, ◌/◌, ◌%◌, Bool, ◌&&◌, not, List, [], ◌∷◌, nat_le, ◌==◌, if◌then◌else◌, flat_map, slice_index, codes}

-- `%`
abbrev pub percent : ℕ
percent = 37

-- the sixteen digits, with upper case letters
abbrev pub upper_hex_digits : List ℕ
upper_hex_digits = codes "0123456789ABCDEF"

-- a visible ASCII byte other than `%`
abbrev pub is_plain : ℕ → Bool
is_plain b = nat_le 0x21 b && nat_le b 0x7e && not (b == percent)

abbrev pub escaped_byte : ℕ → List ℕ
escaped_byte b = if is_plain b then b ∷ [] else percent ∷ slice_index upper_hex_digits (b / 16) ∷ slice_index upper_hex_digits (b % 16) ∷ []

abbrev pub escaped_text : List ℕ → List ℕ
escaped_text bytes = flat_map escaped_byte bytes
