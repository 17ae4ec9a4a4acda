-- The families of an UPDATE message that were passed over.
use Rattle.std.specs.Prelude.{List, ◌++◌, option_to_list}
use Rattle.bmp_specs.specs.Values.{FamilyCodeValue}
use Rattle.bmp_message.specs.declared.head.Others.{Others}

-- that of its MP_REACH_NLRI and then that of its MP_UNREACH_NLRI
abbrev pub others_value : Others → List FamilyCodeValue
others_value others = option_to_list others.reach ++ option_to_list others.unreach
