-- Which TLVs are known in the message that carries them.
use Rattle.std.specs.Prelude.{Bool, nat_le, ◌==◌, ◌||◌}
use Rattle.bmp_specs.specs.Initiation.{sys_name}
use Rattle.bmp_specs.specs.Mirroring.{is_mirrored}
use Rattle.bmp_specs.specs.PeerUpNotification.{string, table_name}
use Rattle.bmp_specs.specs.Values.{TlvValue}
use Rattle.peer_events.specs.declared.tlvs.Carrier.{Carrier}
use Rattle.peer_events.specs.declared.tlvs.Carrier.TheVariants.{Initiation, PeerUp, LocRibPeerUp, Mirroring}

abbrev pub is_known_in : Carrier → TlvValue → Bool
is_known_in Initiation t = nat_le t.kind sys_name
is_known_in PeerUp t = t.kind == string
is_known_in LocRibPeerUp t = t.kind == string || t.kind == table_name
is_known_in Mirroring t = is_mirrored t
