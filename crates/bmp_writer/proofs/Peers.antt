-- What a message with a Per-Peer Header of a peer means.
use Rattle.std.proofs.Common.{length, ◌≡◌, ℕ, ◌==◌, List, [], ◌∷◌, ◌++◌, take, drop, Option, Some, None, MatchOption, refl, sym, ap, subst, arith, ◌∙◌, length-append, append_assoc, ◌+◌, ◌≤◌}
use Rattle.std.specs.List.{IsDistinct}
use Rattle.std.proofs.lemmas.List.{take_at, drop_at}
use Rattle.bmp_specs.specs.declared.peers.Detail.TheVariants.{Unread}
use Rattle.bmp_specs.specs.declared.peers.View.{View}
use Rattle.bmp_specs.specs.declared.wire.Family.{Family}
use Rattle.bmp_specs.specs.declared.wire.Family.TheVariants.{V4, V6}
use Rattle.bmp_specs.specs.declared.wire.IdUse.{IdUse}
use Rattle.bmp_specs.specs.declared.wire.Width.{Width}
use Rattle.bmp_specs.specs.declared.wire.Width.TheVariants.{Two, Four}
use Rattle.bmp_specs.specs.Attributes.{AreAttributes}
use Rattle.bmp_specs.specs.FourOctetAs.{AsAttributes, Chooses}
use Rattle.bmp_specs.specs.BgpMessage.{IsBgpMessage}
use Rattle.bmp_specs.specs.Frame.{IsFrame}
use Rattle.bmp_specs.specs.MessageBody.{HasPeer, IsRouteMonitoring, MessageType, OfPeer, ReadingState, id_use, width_of}
use Rattle.bmp_specs.specs.MessageBody.{route_monitoring, peer_down_notification}
use Rattle.bmp_specs.specs.PeerDownNotification.{IsPeerDown}
use Rattle.bmp_specs.specs.PeerHeader.{HeaderValue, IsHeader, header_size, view_of}
use Rattle.bmp_specs.specs.TreatAsWithdraw.{no_attributes}
use Rattle.bmp_specs.specs.Update.{IsUpdate}
use Rattle.bmp_specs.specs.Values.{AttrsReadValue, DownInfoValue, KeyValue, MessageValue, MpValue, OpensValue, OtherValue, UpdateValue, down, mark, of_unknown_peer, of_unknown_type, peer_down, routes}
use Rattle.bmp_writer.specs.PeerMessage.{HasPlainHeader, IsHeaderOf, IsPeerMessage, mark_update}
use Rattle.bmp_writer.specs.Written.{Always, Appends, HasUp, IsWritten, mark_size, peer_down_type, route_monitoring_type, unchanged, without}
use Rattle.bmp_writer.proofs.Frames.{frame_here, frame_length, header_bytes}
use Rattle.bmp_writer.proofs.Heads.{read_as}

-- the meaning of a body, by what stands behind its header
pub has_peer : (kind : MessageType) (state next : ReadingState) (key : KeyValue) (view : View) (head rest : List ℕ) (m : MessageValue) (is : IsHeaderOf key view head)
    → OfPeer kind state is.header key rest m next → HasPeer kind state (head ++ rest) m next
has_peer kind state next key view head rest m is means =
    let front : take header_size (head ++ rest) ≡ head = take_at head rest header_size is.len in
    let back : drop header_size (head ++ rest) ≡ rest = drop_at head rest header_size is.len in
    let found : OfPeer kind state is.header key (drop header_size (head ++ rest)) m next = subst (λ (l : List ℕ). OfPeer kind state is.header key l m next) (sym back) means in
    record {
      header = is.header;
      is = subst (λ (l : List ℕ). IsHeader l is.header) (sym front) is.is;
      means = subst (λ (o : Option KeyValue). MatchOption o ((m ≡ of_unknown_type) × (next ≡ state)) (λ k. OfPeer kind state is.header k (drop header_size (head ++ rest)) m next)) (sym is.key_is) found;
    }

-- a common header, the Per-Peer Header and what follows it
pub peer_message_put : (kind n : ℕ) (key : KeyValue) (view : View) (head rest bytes : List ℕ) → IsHeaderOf key view head → bytes ≡ (header_bytes kind n ++ head) ++ rest → n ≡ 48 + length rest → length rest ≤ 32
    → IsPeerMessage kind key view rest bytes
peer_message_put kind n key view head rest bytes is joined size short =
    let whole : bytes ≡ header_bytes kind n ++ (head ++ rest) = joined ∙ append_assoc (header_bytes kind n) head rest in
    let frame : IsFrame (header_bytes kind n ++ (head ++ rest)) kind (head ++ rest) = frame_here kind n (head ++ rest) (omega (arith, size, is.len, length-append head rest)) (omega (arith, size, short)) in
    record { head = head; is = subst (λ (b : List ℕ). IsFrame b kind (head ++ rest)) (sym whole) frame; head_is = is }

-- no data is neither a NOTIFICATION nor an event
no_data : (reason : ℕ) → IsPeerDown (reason ∷ []) (record { reason = reason; detail = Unread })
no_data reason = (refl, record { no_notification = λ code sub n. omega (arith, n.is.is.header); no_event = λ event e. omega (arith, e.len) })

pub peer_down_written : (key : KeyValue) (view : View) (reason : ℕ) (bytes : List ℕ) → IsPeerMessage 2 key view (reason ∷ []) bytes
    → IsWritten peer_down_type Always (down key (record { reason = reason; detail = Unread }) ∷ []) (without key) bytes
peer_down_written key view reason bytes p =
    let info : DownInfoValue = record { reason = reason; detail = Unread } in
    record {
      body = p.head ++ reason ∷ [];
      is = p.is;
      means = λ state _. read_as state (without key state) 2 bytes (p.head ++ reason ∷ []) (peer_down key info) (down key info ∷ []) p.is
          (has_peer peer_down_notification state (without key state) key view p.head (reason ∷ []) (peer_down key info) p.head_is (info, no_data reason, refl, refl)) refl;
    }

abbrev pub no_as : AsAttributes
no_as = record { aggregator = None; as4_aggregator = None; as_path = None; as4_path = None }

chosen : (width : Width) → Chooses width no_as None None
chosen Two = (refl, refl)
chosen Four = (refl, refl)

-- an UPDATE with nothing but the mark
abbrev pub marks : Family → UpdateValue
marks family = record { withdrawn = []; plain = []; plain_attrs = no_attributes; multi = []; multi_attrs = no_attributes; mark = Some family; unread = 0 }

abbrev pub body_v4 : List ℕ
body_v4 = 0 ∷ 0 ∷ 0 ∷ 0 ∷ []

abbrev pub body_v6 : List ℕ
body_v6 = 0 ∷ 0 ∷ 0 ∷ 6 ∷ 128 ∷ 15 ∷ 3 ∷ 0 ∷ 2 ∷ 1 ∷ []

abbrev pub mark_body : Family → List ℕ
mark_body V4 = body_v4
mark_body V6 = body_v6

abbrev pub read_v4 : AttrsReadValue
read_v4 = record { attrs = no_attributes; reach = None; unreach = None; count = 0 }

distinct_none : IsDistinct (λ (j k : ℕ). j == k) []
unfolding IsDistinct
distinct_none = tt

distinct_one : IsDistinct (λ (j k : ℕ). j == k) (15 ∷ [])
unfolding IsDistinct
distinct_one = (tt, tt)

none_v4 : (width : Width) → AreAttributes width [] read_v4
none_v4 width = record {
  parts = [];
  are = refl;
  distinct = distinct_none;
  origin_is = tt;
  hop_is = tt;
  med_is = tt;
  pref_is = tt;
  atomic_is = refl;
  communities_are = refl;
  reach_is = tt;
  unreach_is = tt;
  stated = no_as;
  as_path_is = tt;
  aggregator_is = tt;
  as4_path_is = refl;
  as4_aggregator_is = refl;
  chosen = chosen width;
  others_are = refl;
  count_is = refl;
}

abbrev pub empty_unreach : MpValue
empty_unreach = record { afi = 2; safi = 1; hop = []; prefixes = [] }

abbrev pub read_v6 : AttrsReadValue
read_v6 = record { attrs = no_attributes; reach = None; unreach = Some empty_unreach; count = 1 }

abbrev pub unreach_part : OtherValue
unreach_part = record { flags = 128; code = 15; value = 0 ∷ 2 ∷ 1 ∷ [] }

abbrev pub unreach_bytes : List ℕ
unreach_bytes = 128 ∷ 15 ∷ 3 ∷ 0 ∷ 2 ∷ 1 ∷ []

one_v6 : (width : Width) → AreAttributes width unreach_bytes read_v6
one_v6 width = record {
  parts = unreach_part ∷ [];
  are = (unreach_bytes, [], record { joined = refl }, record { header = omega arith; flags_is = refl; code_is = refl; length_is = refl; value_is = refl }, refl);
  distinct = distinct_one;
  origin_is = tt;
  hop_is = tt;
  med_is = tt;
  pref_is = tt;
  atomic_is = refl;
  communities_are = refl;
  reach_is = tt;
  unreach_is = record { header = omega arith; afi_is = refl; safi_is = refl; hop_is = refl; prefixes_are = refl };
  stated = no_as;
  as_path_is = tt;
  aggregator_is = tt;
  as4_path_is = refl;
  as4_aggregator_is = refl;
  chosen = chosen width;
  others_are = refl;
  count_is = refl;
}

is_update : (width : Width) (ids : IdUse) (family : Family) → IsUpdate width ids (mark_body family) (marks family)
is_update width ids V4 = record {
  withdrawn_routes = [];
  path_attributes = [];
  nlri = [];
  fields = (
    0 ∷ 0 ∷ [],
    0 ∷ 0 ∷ [],
    record { joined = refl },
    record { header = omega arith; length_is = refl; value_is = refl },
    (0 ∷ 0 ∷ [], [], record { joined = refl }, record { header = omega arith; length_is = refl; value_is = refl }, refl),
  );
  read = read_v4;
  attributes = none_v4 width;
  withdrawn = [];
  withdrawn_are = refl;
  unreachable = [];
  unreachable_are = refl;
  all_withdrawn = refl;
  plain_are = refl;
  plain_attrs_are = refl;
  multi_are = refl;
  multi_attrs_are = refl;
  mark_is = refl;
  unread_is = refl;
}
is_update width ids V6 = record {
  withdrawn_routes = [];
  path_attributes = unreach_bytes;
  nlri = [];
  fields = (
    0 ∷ 0 ∷ [],
    0 ∷ 6 ∷ unreach_bytes,
    record { joined = refl },
    record { header = omega arith; length_is = refl; value_is = refl },
    (0 ∷ 6 ∷ unreach_bytes, [], record { joined = refl }, record { header = omega arith; length_is = refl; value_is = refl }, refl),
  );
  read = read_v6;
  attributes = one_v6 width;
  withdrawn = [];
  withdrawn_are = refl;
  unreachable = [];
  unreachable_are = refl;
  all_withdrawn = refl;
  plain_are = refl;
  plain_attrs_are = refl;
  multi_are = refl;
  multi_attrs_are = refl;
  mark_is = refl;
  unread_is = refl;
}

is_message : (family : Family) → IsBgpMessage (mark_update family) (record { kind = 2; body = mark_body family })
is_message V4 = record { header = omega arith; marker_is = refl; length_is = refl; kind_is = refl; body_is = refl }
is_message V6 = record { header = omega arith; marker_is = refl; length_is = refl; kind_is = refl; body_is = refl }

is_monitoring : (opens : OpensValue) (h : HeaderValue) (family : Family) → IsRouteMonitoring opens h (mark_update family) (marks family)
is_monitoring opens h family = record {
  message = record { kind = 2; body = mark_body family };
  is = is_message family;
  is_update = refl;
  body_is = is_update (width_of h) (id_use opens h) family;
}

pub mark_written : (key : KeyValue) (view : View) (family : Family) (bytes : List ℕ) → IsPeerMessage 0 key view (mark_update family) bytes
    → IsWritten route_monitoring_type (HasUp key) (mark key view family ∷ []) unchanged bytes
mark_written key view family bytes p =
    let h = p.head_is.header in
    record {
      body = p.head ++ mark_update family;
      is = p.is;
      means = λ state up.
          let m : MessageValue = routes key view (marks family) in
          let at : m ≡ routes key (view_of h) (marks family) = ap (λ (v : View). routes key v (marks family)) (sym p.head_is.view_is) in
          let read : MatchOption (state key) (m ≡ of_unknown_peer) (λ opens. (u : UpdateValue) × IsRouteMonitoring opens h (mark_update family) u × (m ≡ routes key (view_of h) u)) =
          subst (λ (o : Option OpensValue). MatchOption o (m ≡ of_unknown_peer) (λ opens. (u : UpdateValue) × IsRouteMonitoring opens h (mark_update family) u × (m ≡ routes key (view_of h) u))) (sym up.1)
          (marks family, is_monitoring up.0 h family, at) in
          read_as state state 0 bytes (p.head ++ mark_update family) m (mark key view family ∷ []) p.is (has_peer route_monitoring state state key view p.head (mark_update family) m p.head_is (refl, read)) refl;
    }

pub peer_down_appended : (key : KeyValue) (view : View) (reason : ℕ) (old new : List ℕ) → Appends (IsPeerMessage 2 key view (reason ∷ [])) old new
    → Appends (IsWritten peer_down_type Always (down key (record { reason = reason; detail = Unread }) ∷ []) (without key)) old new
peer_down_appended key view reason old new (bytes, joined, p) = (bytes, joined, peer_down_written key view reason bytes p)

-- the mark of the family that was given
pub mark_put : (key : KeyValue) (view : View) (family given : Family) → given ≡ family → (old new : List ℕ) → Appends (IsPeerMessage 0 key view (mark_update family)) old new → Appends (IsPeerMessage 0 key view (mark_update given)) old new
mark_put key view family given same old new p = subst (λ (f : Family). Appends (IsPeerMessage 0 key view (mark_update f)) old new) (sym same) p

pub mark_appended : (key : KeyValue) (view : View) (family given : Family) → given ≡ family → (old new : List ℕ) → Appends (IsPeerMessage 0 key view (mark_update family)) old new
    → Appends (IsWritten route_monitoring_type (HasUp key) (mark key view given ∷ []) unchanged) old new
mark_appended key view family given same old new (bytes, joined, p) =
    (bytes, joined, subst (λ (f : Family). IsWritten route_monitoring_type (HasUp key) (mark key view f ∷ []) unchanged bytes) (sym same) (mark_written key view family bytes p))

-- the header behind the common header is the message's own
pub plain_appended : (kind : ℕ) (key : KeyValue) (view : View) (rest old new : List ℕ) → Appends (IsPeerMessage kind key view rest) old new → Appends HasPlainHeader old new
plain_appended kind key view rest old new (bytes, joined, p) =
    let front : take header_size (drop 6 bytes) ≡ p.head = ap (λ (l : List ℕ). take header_size l) p.is.body_is ∙ take_at p.head rest header_size p.head_is.len in
    (bytes, joined, record { header = p.head_is.header; is = subst (λ (l : List ℕ). IsHeader l p.head_is.header) (sym front) p.head_is.is; plain = p.head_is.plain })

-- no data follows the reason
pub peer_down_size : (key : KeyValue) (view : View) (reason : ℕ) (old new : List ℕ) → Appends (IsPeerMessage 2 key view (reason ∷ [])) old new → length new ≡ length old + 49
peer_down_size key view reason old new (bytes, joined, p) =
    let body = length-append p.head (reason ∷ []) in
    let all : length new ≡ length old + length bytes = ap (λ (l : List ℕ). length l) joined ∙ length-append old bytes in
    omega (arith, all, body, p.head_is.len, frame_length bytes 2 (p.head ++ reason ∷ []) p.is)

update_size : (family : Family) → 48 + length (mark_update family) ≡ mark_size family
update_size V4 = refl
update_size V6 = refl

pub mark_fills : (key : KeyValue) (view : View) (family given : Family) → given ≡ family → (old new : List ℕ) → Appends (IsPeerMessage 0 key view (mark_update family)) old new → length new ≡ length old + mark_size given
mark_fills key view family given same old new (bytes, joined, p) =
    let body = length-append p.head (mark_update family) in
    let all : length new ≡ length old + length bytes = ap (λ (l : List ℕ). length l) joined ∙ length-append old bytes in
    let size : mark_size given ≡ mark_size family = ap (λ (f : Family). mark_size f) same in
    omega (arith, all, body, size, update_size family, p.head_is.len, frame_length bytes 0 (p.head ++ mark_update family) p.is)
