-- The messages of a relayed stream, as they are written.
use Rattle.std.specs.Prelude.{ℕ, List, [], ◌∷◌, ◌++◌, map, flat_map}
use Rattle.bmp_specs.specs.declared.peers.View.{View}
use Rattle.bmp_specs.specs.declared.wire.Family.{Family}
use Rattle.bmp_specs.specs.Parts.{AreParts}
use Rattle.bmp_specs.specs.Rows.{RowValue}
use Rattle.bmp_specs.specs.Values.{EffectValue, KeyValue, PeerInfoValue}
use Rattle.bmp_writer.specs.PeerMessage.{IsPeerMessage, mark_update}
use Rattle.bmp_writer.specs.PeerUpMessage.{IsUpMessage}
use Rattle.bmp_writer.specs.Written.{IsToldMessage, route_monitoring_type}
use Rattle.bmp_writer.specs.WrittenRoutes.{IsRoutesMessage}
use Rattle.relay_out.specs.Told.{IsTold, PeerToldValue, PlaceValue, StreamValue}

-- what one message tells; a route with what was told of its peer, on which its form rests
pub data ItemValue : Type 0 where
  tells : List ℕ → List ℕ → ItemValue
  brings_up : KeyValue → PeerInfoValue → ItemValue
  announces : PeerInfoValue → RowValue → ItemValue
  completes : KeyValue → View → Family → ItemValue

-- an Initiation Message, a Peer Up Notification, a Route Monitoring message that announces one prefix, and one with an
-- End-of-RIB marker
abbrev pub IsItem : List ℕ → ItemValue → Type 0
IsItem bytes (tells name description) = IsToldMessage name description bytes
IsItem bytes (brings_up key info) = IsUpMessage key info bytes
IsItem bytes (announces info row) = IsRoutesMessage row.row_key.key row.row_key.view [] (row.row_key.nlri ∷ []) row.route bytes
IsItem bytes (completes key view family) = IsPeerMessage route_monitoring_type key view (mark_update family) bytes

-- of a peer: its Peer Up, its rows, and its complete tables
abbrev pub completed : KeyValue → PlaceValue → ItemValue
completed key t = completes key t.view t.family

abbrev pub peer_items : PeerToldValue → List ItemValue
peer_items p = brings_up p.key p.info ∷ (map (announces p.info) p.rows ++ map (completed p.key) p.complete)

-- of all: the router's name and description, and then peer after peer
abbrev pub stream_items : StreamValue → List ItemValue
stream_items s = tells s.name s.description ∷ flat_map peer_items s.peers

-- the bytes are the whole stream of a session with these effects
pub record IsRelayStream (effects : List EffectValue) (bytes : List ℕ) : Type 0 where
  pub told : StreamValue
  pub is_told : IsTold effects told
  pub are : AreParts IsItem bytes (stream_items told)
