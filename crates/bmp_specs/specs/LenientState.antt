-- What a lenient reading knows of a stream from its messages so far: a notion of ours.
use Rattle.std.specs.Prelude.{Bool, false, not, ◌==◌, ◌&&◌, if◌then◌else◌, Option, Some, None}
use Rattle.std.specs.Option.{option_or}
use Rattle.std.specs.Ordering.{eq_by_cmp}
use Rattle.bmp_specs.specs.declared.peers.View.{View}
use Rattle.bmp_specs.specs.ImpliedPeerUp.{implied_opens}
use Rattle.bmp_specs.specs.MessageBody.{ReadingState, no_peers, with_peer}
use Rattle.bmp_specs.specs.Orders.{key_cmp, view_cmp}
use Rattle.bmp_specs.specs.PeerHeader.{HeaderValue, loc_rib}
use Rattle.bmp_specs.specs.UpdateForms.{FormsValue, as_agreed}
use Rattle.bmp_specs.specs.Values.{KeyValue, OpensValue}

pub record LenientState : Type 0 where
  -- the two OPEN messages of each peer that is up
  pub opens : ReadingState
  -- whether the peer is a Loc-RIB of which a Peer Up or a Peer Down told
  pub told : KeyValue → Bool
  -- the forms in which the last UPDATE message of a peer and view was read, since the last Peer Up or Peer Down of the
  -- peer
  pub shown : KeyValue → View → FormsValue

abbrev pub nothing_known : LenientState
nothing_known = record { opens = no_peers; told = λ key. false; shown = λ key view. as_agreed }

-- a Loc-RIB of which neither a Peer Up nor a Peer Down told
abbrev pub is_untold : LenientState → KeyValue → Bool
is_untold state key = not (state.told key) && key.kind == loc_rib

-- the two OPEN messages under which routes of a peer are read: those of the peer that is up, or implied ones of a
-- Loc-RIB that was not told of
abbrev pub opens_for : LenientState → HeaderValue → KeyValue → Option OpensValue
opens_for state h key = option_or (state.opens key) (if is_untold state key then Some (implied_opens h) else None)

-- a Peer Up or a Peer Down told of the peer: what its messages had shown is forgotten
abbrev pub with_told : LenientState → KeyValue → Option OpensValue → LenientState
with_told state key opens = record {
  opens = with_peer state.opens key opens;
  told = λ k. if eq_by_cmp key_cmp k key then k.kind == loc_rib else state.told k;
  shown = λ k view. if eq_by_cmp key_cmp k key then as_agreed else state.shown k view;
}

-- an UPDATE message of the peer and view was read in these forms under these OPEN messages
abbrev pub with_shown : LenientState → KeyValue → View → OpensValue → FormsValue → LenientState
with_shown state key view opens forms = record {
  opens = with_peer state.opens key (Some opens);
  told = state.told;
  shown = λ k v. if eq_by_cmp key_cmp k key && eq_by_cmp view_cmp v view then forms else state.shown k v;
}
