-- What follows the Per-Peer Header in a Route Mirroring message (RFC 7854, section 4.7): TLVs, whose values aren't read.
use Rattle.std.specs.Prelude.{◌≡◌, ℕ, Bool, not, ◌==◌, ◌&&◌, ◌||◌, List, length, count_by}
use Rattle.bmp_specs.specs.Tlv.{AreTlvs}
use Rattle.bmp_specs.specs.Values.{TlvValue}

-- "Type = 0: BGP Message" and "Type = 1: Information", a 2-byte code
abbrev pub mirrored_message : ℕ
mirrored_message = 0

abbrev pub mirroring_information : ℕ
mirroring_information = 1

abbrev pub is_mirrored : TlvValue → Bool
is_mirrored t = t.kind == mirrored_message || (t.kind == mirroring_information && length t.value == 2)

-- how many TLVs were passed over
pub record IsMirroring (rest : List ℕ) (unread : ℕ) : Type 0 where
  pub tlvs : List TlvValue
  pub are : AreTlvs rest tlvs
  pub unread_is : unread ≡ count_by (λ t. not (is_mirrored t)) tlvs
