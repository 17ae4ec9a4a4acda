-- What the small types of this crate stand for.
use Rattle.std.specs.Prelude.{ℕ, false, [], ◌∷◌, Some, None, replicate}
use Rattle.bmp_specs.specs.declared.wire.Family.TheVariants.{V4}
use Rattle.bmp_specs.specs.declared.wire.SegmentKind.TheVariants.{Sequence}
use Rattle.bmp_specs.specs.declared.peers.Detail.TheVariants.{Unread}
use Rattle.bmp_specs.specs.Values.{AddressValue, AttrsValue, KeyValue, OpenValue, PeerInfoValue, EffectValue, up, down, announce, withdraw, mark, passed}
use Rattle.bmp_specs.specs.Rows.{RowKeyValue, RowValue}
use Rattle.plain_model.specs.declared.values.Address.{Address}
use Rattle.plain_model.specs.declared.values.Peer.{Peer}
use Rattle.plain_model.specs.declared.values.RowKey.{RowKey}
use Rattle.plain_model.specs.declared.values.Route.{Route}
use Rattle.plain_model.specs.declared.values.Row.{Row}
use Rattle.plain_model.specs.declared.values.Effect.{Effect}
use Rattle.plain_model.specs.declared.values.Effect.TheVariants.{Up, Down, Announce, Withdraw, Mark, Passed}

abbrev pub address_value : Address → AddressValue
address_value a = record { family = a.family; octets = a.octets }

abbrev pub key_value : Peer → KeyValue
key_value p = record { kind = p.kind; distinguisher = p.distinguisher; address = address_value p.address }

abbrev pub row_key_value : RowKey → RowKeyValue
row_key_value p = record {
  key = key_value p.peer;
  view = p.view;
  nlri = record { prefix = record { address = address_value p.address; bits = p.bits }; id = p.id };
}

-- a route of one AS and nothing else
abbrev pub route_value : Route → AttrsValue
route_value r = record {
  origin = None;
  path = Some (record { kind = Sequence; numbers = r.origin ∷ [] } ∷ []);
  hop = None;
  med = None;
  pref = None;
  atomic = false;
  aggregator = None;
  communities = [];
  others = [];
}

abbrev pub row_value : Row → RowValue
row_value r = record { row_key = row_key_value r.row_key; route = route_value r.route }

-- an OPEN and an address of which nothing is told
abbrev pub plain_open : OpenValue
plain_open = record { version = 4; my_as = 0; hold = 0; identifier = replicate 4 0; four = None; families = []; paths = []; extended = false }

abbrev pub no_address : AddressValue
no_address = record { family = V4; octets = replicate 16 0 }

-- a peer of which its AS alone is told
abbrev pub info_value : ℕ → PeerInfoValue
info_value asn = record {
  asn = asn;
  identifier = replicate 4 0;
  local = no_address;
  local_port = 0;
  remote_port = 0;
  sent = plain_open;
  received = plain_open;
  filtered = false;
  table = None;
}

abbrev pub effect_value : Effect → EffectValue
effect_value (Up peer asn) = up (key_value peer) (info_value asn)
effect_value (Down peer reason) = down (key_value peer) (record { reason = reason; detail = Unread })
effect_value (Announce row) = announce (key_value row.row_key.peer) row.row_key.view (row_key_value row.row_key).nlri (route_value row.route)
effect_value (Withdraw place) = withdraw (key_value place.peer) place.view (row_key_value place).nlri
effect_value (Mark peer view family) = mark (key_value peer) view family
effect_value Passed = passed
