-- The body of an Initiation Message (RFC 7854, section 4.3): information TLVs.
use Rattle.std.specs.Prelude.{◌≡◌, ℕ, nat_lt, List, count_by}
use Rattle.bmp_specs.specs.Tlv.{AreTlvs, last_value}
use Rattle.bmp_specs.specs.Values.{InitiationValue, TlvValue}

-- "Type = 0: String", "Type = 1: sysDescr", "Type = 2: sysName" (RFC 7854, section 4.4)
abbrev pub string : ℕ
string = 0

abbrev pub sys_descr : ℕ
sys_descr = 1

abbrev pub sys_name : ℕ
sys_name = 2

-- The last sysName and the last sysDescr count. Any TLV above these types is passed over.
pub record IsInitiation (body : List ℕ) (i : InitiationValue) : Type 0 where
  pub tlvs : List TlvValue
  pub are : AreTlvs body tlvs
  pub name_is : i.name ≡ last_value sys_name tlvs
  pub descr_is : i.descr ≡ last_value sys_descr tlvs
  pub unread_is : i.unread ≡ count_by (λ t. nat_lt sys_name t.kind) tlvs
