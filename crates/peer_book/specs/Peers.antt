-- What a book of peers is to a contract. What an `Arc` holds is seen through it.
use Rattle.std.specs.Prelude.{Bool, true, false, List, map, Option, None, Some}
use Rattle.std.specs.Arc.{arc_value}
use Rattle.std.specs.Borrow.{Bor}
use Rattle.std.specs.BTreeMap.{insert_entry, is_at}
use Rattle.std.specs.List.{filter}
use Rattle.std.specs.Map.{lookup, set_value}
use Rattle.std.specs.Option.{option_and_then, option_map, option_map_or}
use Rattle.std.specs.Ordering.{is_lt}
use Rattle.bmp_specs.specs.declared.wire.Family.{Family}
use Rattle.bmp_specs.specs.declared.peers.View.{View}
use Rattle.bmp_specs.specs.Orders.{key_cmp}
use Rattle.bmp_specs.specs.PeerUp.{StateValue, up_state, down_state}
use Rattle.bmp_specs.specs.Values.{KeyValue, PeerInfoValue, DownInfoValue}
use Rattle.peer_book.specs.declared.marks.Marks.{Marks}
use Rattle.peer_book.specs.declared.peer.PeerState.{PeerState}
use Rattle.peer_book.specs.declared.peer.PeerState.TheVariants.{Up, Down}
use Rattle.peer_book.specs.Marks.{is_marked, marked}

-- a peer in the book; one that is down has no marks
pub data PeerValue : Type 0 where
  up_peer : PeerInfoValue → Marks → PeerValue
  down_peer : DownInfoValue → PeerValue

abbrev pub state_value : PeerState → StateValue
state_value (Up info) = up_state (arc_value info)
state_value (Down info) = down_state info

abbrev pub peer_value : PeerState → Marks → PeerValue
peer_value (Up info) marks = up_peer (arc_value info) marks
peer_value (Down info) marks = down_peer info

abbrev pub state_of : PeerValue → StateValue
state_of (up_peer info marks) = up_state info
state_of (down_peer info) = down_state info

abbrev pub is_up_peer : PeerValue → Bool
is_up_peer (up_peer info marks) = true
is_up_peer (down_peer info) = false

abbrev pub is_complete_peer : PeerValue → View → Family → Bool
is_complete_peer (up_peer info marks) view family = is_marked marks view family
is_complete_peer (down_peer info) view family = false

-- the peer with the mark set, where it is up
abbrev pub marked_peer : PeerValue → View → Family → PeerValue
marked_peer (up_peer info marks) view family = up_peer info (marked marks view family)
marked_peer (down_peer info) view family = down_peer info

-- the peers of a book, in their order
abbrev pub Peers : Type 0
Peers = List (KeyValue × PeerValue)

abbrev pub peer_at : Peers → KeyValue → Option PeerValue
peer_at peers key = lookup (is_at (key_cmp key)) peers

abbrev pub state_at : Peers → KeyValue → Option StateValue
state_at peers key = option_map state_of (peer_at peers key)

abbrev pub is_up_at : Peers → KeyValue → Bool
is_up_at peers key = option_map_or is_up_peer (peer_at peers key) false

-- what the last Peer Up of a peer told, where it is up
abbrev pub info_of : PeerValue → Option PeerInfoValue
info_of (up_peer info marks) = Some info
info_of (down_peer info) = None

abbrev pub info_at : Peers → KeyValue → Option PeerInfoValue
info_at peers key = option_and_then info_of (peer_at peers key)

abbrev pub is_complete_at : Peers → KeyValue → View → Family → Bool
is_complete_at peers key view family = option_map_or (λ p. is_complete_peer p view family) (peer_at peers key) false

-- the peers with this one in the place of its key
abbrev pub with_peer : Peers → KeyValue → PeerValue → Peers
with_peer peers key peer = insert_entry key_cmp peers key peer

-- the peers with this one in the place of its key, where there is one
abbrev pub with_peer_there : Peers → KeyValue → Option PeerValue → Peers
with_peer_there peers key None = peers
with_peer_there peers key (Some peer) = set_value (is_at (key_cmp key)) peers peer

-- the peers with the mark set, where its peer is up
abbrev pub with_mark : Peers → KeyValue → View → Family → Peers
with_mark peers key view family = with_peer_there peers key (option_map (λ p. marked_peer p view family) (peer_at peers key))

-- the keys of the peers that are up
abbrev pub up_keys : Peers → List KeyValue
up_keys peers = map (λ e. e.0) (filter (λ e. is_up_peer e.1) peers)

-- the peers after a place, or all of them
abbrev pub after_place : Option (Bor KeyValue) → Peers → Peers
after_place None peers = peers
after_place (Some place) peers = filter (λ e. is_lt (key_cmp place.now e.0)) peers

-- a peer of the book as its key and its state
abbrev pub keyed_state : KeyValue × PeerValue → KeyValue × StateValue
keyed_state e = (e.0, state_of e.1)
