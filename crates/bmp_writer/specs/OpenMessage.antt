-- An OPEN message, as it is written (RFC 4271, section 4.2): its capabilities stand in one optional parameter.
use Rattle.std.specs.Prelude.{◌≡◌, ℕ, zero, suc, ◌+◌, ◌<◌, List, [], ◌∷◌, ◌++◌, length}
use Rattle.byteorder.specs.Endian.{big_bytes}
use Rattle.bmp_specs.specs.BgpMessage.{marker, open_type}
use Rattle.bmp_specs.specs.Open.{IsOpenMessage, capabilities_type}
use Rattle.bmp_specs.specs.Values.{OpenValue}
use Rattle.bmp_writer.specs.Capabilities.{AreCapabilities, as_read, capabilities_size}

-- "Optional Parameters Length": two octets more than the capabilities, where there are any
abbrev pub parameters_size : ℕ → ℕ
parameters_size zero = 0
parameters_size (suc n) = 2 + suc n

-- how many bytes the whole message has
abbrev pub open_size : OpenValue → ℕ
open_size o = 29 + parameters_size (capabilities_size o)

-- the message up to its parameters, of which there are so many bytes
abbrev pub front_of : ℕ → ℕ → ℕ → List ℕ → ℕ → List ℕ
front_of version my_as hold identifier n = marker ++ (big_bytes 2 (29 + n) ++ open_type ∷ version ∷ (big_bytes 2 my_as ++ (big_bytes 2 hold ++ (identifier ++ n ∷ []))))

abbrev pub open_front : OpenValue → ℕ → List ℕ
open_front o n = front_of o.version o.my_as o.hold o.identifier n

-- the numbers of an OPEN message are those of their octets
pub record AreInOctets (my_as hold : ℕ) (identifier : List ℕ) : Type 0 where
  pub my_as_fits : my_as < 65536
  pub hold_fits : hold < 65536
  pub four : length identifier ≡ 4

abbrev pub IsInOctets : OpenValue → Type 0
IsInOctets o = AreInOctets o.my_as o.hold o.identifier

-- "Optional Parameters" whose capabilities take so many octets: none, or one parameter that holds them all
abbrev pub AreParametersOf : ℕ → OpenValue → List ℕ → Type 0
AreParametersOf zero o bytes = bytes ≡ []
AreParametersOf (suc n) o bytes = (capabilities : List ℕ) × (bytes ≡ capabilities_type ∷ suc n ∷ capabilities) × AreCapabilities o capabilities

-- a whole message that is read as this one
pub record IsOpenOf (o : OpenValue) (bytes : List ℕ) : Type 0 where
  pub parameters : List ℕ
  pub joined : bytes ≡ open_front o (parameters_size (capabilities_size o)) ++ parameters
  pub parameters_are : AreParametersOf (capabilities_size o) o parameters
  pub is : IsOpenMessage bytes (as_read o)
  pub size : length bytes ≡ open_size o
