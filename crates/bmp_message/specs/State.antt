-- The peers that are up, and the reading state that they are.
use Rattle.std.specs.Prelude.{List, map}
use Rattle.std.specs.Arc.{arc_value}
use Rattle.std.specs.declared.alloc.Global.{Global}
use Rattle.std.specs.declared.sync.Arc.{Arc}
use Rattle.std.specs.BTreeMap.{is_at}
use Rattle.std.specs.Map.{lookup}
use Rattle.bmp_specs.specs.MessageBody.{ReadingState}
use Rattle.bmp_specs.specs.Orders.{key_cmp}
use Rattle.bmp_specs.specs.Values.{KeyValue, OpensValue, PeerInfoValue}

-- each peer that is up with the OPEN messages of its last Peer Up
abbrev pub UpPeers : Type 0
UpPeers = List (KeyValue × OpensValue)

-- the OPEN messages in what a Peer Up told
abbrev pub opens_of : PeerInfoValue → OpensValue
opens_of info = record { sent = info.sent; received = info.received }

-- the peers of a map
abbrev pub up_peers : List (KeyValue × Arc PeerInfoValue Global) → UpPeers
up_peers entries = map (λ e. (e.0, opens_of (arc_value e.1))) entries

-- what these peers say of each key
abbrev pub reading_state : UpPeers → ReadingState
reading_state peers = λ key. lookup (is_at (key_cmp key)) peers
