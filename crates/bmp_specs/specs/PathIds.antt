-- Where path identifiers are used (RFC 7911, section 4). That a Loc-RIB uses them where the sent OPEN has
-- an entry of the family is a choice of this project: neither RFC 9069 nor RFC 7911 says it.
use Rattle.std.specs.Prelude.{Bool, ◌==◌, ◌&&◌, ◌||◌}
use Rattle.std.specs.List.{list_any}
use Rattle.bmp_specs.specs.declared.wire.Family.{Family}
use Rattle.bmp_specs.specs.declared.wire.Side.{Side}
use Rattle.bmp_specs.specs.declared.wire.Side.TheVariants.{Inward, Outward, Local}
use Rattle.bmp_specs.specs.AddressFamily.{is_unicast_of}
use Rattle.bmp_specs.specs.Values.{OpenValue, CapValue}

abbrev pub is_entry_of : Family → CapValue → Bool
is_entry_of family entry = is_unicast_of family entry.afi entry.safi

-- "Send/Receive": 1 to receive, 2 to send, 3 for both
abbrev pub can_receive : OpenValue → Family → Bool
can_receive o family = list_any (λ entry. is_entry_of family entry && (entry.value == 1 || entry.value == 3)) o.paths

abbrev pub can_send : OpenValue → Family → Bool
can_send o family = list_any (λ entry. is_entry_of family entry && (entry.value == 2 || entry.value == 3)) o.paths

abbrev pub has_entry : OpenValue → Family → Bool
has_entry o family = list_any (λ entry. is_entry_of family entry) o.paths

-- whether the family uses identifiers, by the OPEN that the router sent and the one that it received
abbrev pub uses_path_ids : OpenValue → OpenValue → Family → Side → Bool
uses_path_ids sent received family Inward = can_receive sent family && can_send received family
uses_path_ids sent received family Outward = can_send sent family && can_receive received family
uses_path_ids sent received family Local = has_entry sent family
