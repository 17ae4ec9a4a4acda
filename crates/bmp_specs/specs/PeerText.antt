-- Peers and views as texts, in the station's own form. A peer is its type as a number, its distinguisher as 16 hexadecimal digits, and its address,
-- joined by `-`.
use Rattle.std.specs.Prelude.{◌≡◌, ℕ, ◌/◌, ◌%◌, ◌^◌, ◌<◌, List, [], ◌∷◌, ◌++◌, slice_index, codes}
use Rattle.byteorder.specs.Endian.{big_bytes}
use Rattle.bmp_specs.specs.declared.peers.View.{View}
use Rattle.bmp_specs.specs.declared.peers.View.TheVariants.{InPre, InPost, OutPre, OutPost, Loc}
use Rattle.bmp_specs.specs.AddressText.{address_text, IsAddressText}
use Rattle.bmp_specs.specs.NumberText.{number_text, IsNumberUpTo}
use Rattle.bmp_specs.specs.Values.{KeyValue}

-- `-`
abbrev pub dash : ℕ
dash = 45

-- the greatest peer type, which has one byte
abbrev pub most_kind : ℕ
most_kind = 255

-- the sixteen digits, with lower case letters
abbrev pub hex_digits : List ℕ
hex_digits = codes "0123456789abcdef"

-- each byte as two digits, the high four bits first
unfoldable pub hex_text : List ℕ → List ℕ
hex_text [] = []
hex_text (b ∷ bs) = slice_index hex_digits (b / 16) ∷ slice_index hex_digits (b % 16) ∷ hex_text bs

-- the eight bytes of a distinguisher
unfoldable pub distinguisher_text : ℕ → List ℕ
distinguisher_text d = hex_text (big_bytes 8 d)

-- the text of a peer
abbrev pub key_text : KeyValue → List ℕ
key_text key = number_text key.kind ++ (dash ∷ distinguisher_text key.distinguisher ++ (dash ∷ address_text key.address))

-- the text of a view
abbrev pub view_text : View → List ℕ
view_text InPre = codes "adj-in-pre"
view_text InPost = codes "adj-in-post"
view_text OutPre = codes "adj-out-pre"
view_text OutPost = codes "adj-out-post"
view_text Loc = codes "loc"

-- the text writes this distinguisher
pub record IsDistinguisherText (text : List ℕ) (d : ℕ) : Type 0 where
  pub within : d < 2 ^ 64
  pub spelled : text ≡ distinguisher_text d

-- the text writes this peer; its address may stand in any form that is read
pub record IsKeyText (text : List ℕ) (key : KeyValue) : Type 0 where
  pub kind : List ℕ
  pub distinguisher : List ℕ
  pub address : List ℕ
  pub spelled : text ≡ kind ++ (dash ∷ distinguisher ++ (dash ∷ address))
  pub is_kind : IsNumberUpTo most_kind kind key.kind
  pub is_distinguisher : IsDistinguisherText distinguisher key.distinguisher
  pub is_address : IsAddressText address key.address

-- the text writes this view
abbrev pub IsViewText : List ℕ → View → Type 0
IsViewText text view = text ≡ view_text view
