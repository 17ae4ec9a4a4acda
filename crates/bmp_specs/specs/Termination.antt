-- The body of a Termination Message (RFC 7854, section 4.5): information TLVs, of which none is looked at.
use Rattle.std.specs.Prelude.{List, ℕ}
use Rattle.bmp_specs.specs.Tlv.{AreTlvs}
use Rattle.bmp_specs.specs.Values.{TlvValue}

pub record IsTermination (body : List ℕ) : Type 0 where
  pub tlvs : List TlvValue
  pub are : AreTlvs body tlvs
