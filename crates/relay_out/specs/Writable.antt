-- Which sessions can be relayed: those of which each message of the stream can be written and is read back.
use Rattle.std.specs.Prelude.{◌≡◌, ◌≤◌, ℕ, List, [], ◌∷◌, length}
use Rattle.std.specs.Option.{is_some}
use Rattle.bmp_specs.specs.declared.peers.View.{View}
use Rattle.bmp_specs.specs.declared.wire.Family.{Family}
use Rattle.bmp_specs.specs.declared.wire.Family.TheVariants.{V4}
use Rattle.bmp_specs.specs.Complete.{IsComplete}
use Rattle.bmp_specs.specs.PathIds.{uses_path_ids}
use Rattle.bmp_specs.specs.PeerHeader.{IsViewOf, loc_rib}
use Rattle.bmp_specs.specs.PeerUp.{IsUpWith}
use Rattle.bmp_specs.specs.Rows.{HasRow, RowValue}
use Rattle.bmp_specs.specs.Session.{description_of, name_of}
use Rattle.bmp_specs.specs.Values.{EffectValue, KeyValue, PeerInfoValue}
use Rattle.bmp_writer.specs.PeerUpMessage.{CanCarry, IsSome}
use Rattle.bmp_writer.specs.WrittenRoutes.{CanCarryRoutes, IsGiven, side_of_view}
use Rattle.relay_out.specs.Messages.{ItemValue, tells, brings_up, announces, completes}

-- "Information Length" has two octets (RFC 7854, section 4.4)
pub record CanTell (name description : List ℕ) : Type 0 where
  pub short_name : length name ≤ 65535
  pub short_description : length description ≤ 65535

-- a Peer Up Notification can carry what was told of the peer, with OPEN messages that can be read
pub record CanBringUp (key : KeyValue) (info : PeerInfoValue) : Type 0 where
  pub carries : CanCarry key info
  pub sent : IsSome info.sent
  pub received : IsSome info.received

-- A Route Monitoring message can announce the row alone, with attributes that some field has, save for a next hop of at
-- most 255 bytes; and it has a path identifier exactly where the OPEN messages of its peer agree on them (RFC 7911,
-- section 4).
pub record CanAnnounce (info : PeerInfoValue) (row : RowValue) : Type 0 where
  pub carries : CanCarryRoutes row.row_key.key row.row_key.view [] (row.row_key.nlri ∷ []) row.route
  pub given : IsGiven row.route
  pub ids : uses_path_ids info.sent info.received row.row_key.nlri.prefix.address.family (side_of_view row.row_key.view) ≡ is_some row.row_key.nlri.id

-- a header can name the peer and the view
pub record CanComplete (key : KeyValue) (view : View) : Type 0 where
  pub known : key.kind ≤ loc_rib
  pub instance : key.kind ≡ loc_rib → key.address.family ≡ V4
  pub among : IsViewOf key view

pub record AreWritable (effects : List EffectValue) : Type 0 where
  pub tells : CanTell (name_of effects) (description_of effects)
  pub peers : (key : KeyValue) (info : PeerInfoValue) → IsUpWith effects key info → CanBringUp key info
  pub rows : (info : PeerInfoValue) (row : RowValue) → IsUpWith effects row.row_key.key info → HasRow effects row → CanAnnounce info row
  pub complete : (key : KeyValue) (view : View) (family : Family) → IsComplete effects key view family → CanComplete key view

-- the same of one message
abbrev pub IsWritable : ItemValue → Type 0
IsWritable (tells name description) = CanTell name description
IsWritable (brings_up key info) = CanBringUp key info
IsWritable (announces info row) = CanAnnounce info row
IsWritable (completes key view family) = CanComplete key view
