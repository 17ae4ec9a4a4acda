-- What a lenient reading knows of each peer, and the state that this is.
use Rattle.std.specs.Prelude.{Bool, true, false, List, [], ◌∷◌, Option, Some, None}
use Rattle.std.specs.BTreeMap.{is_at}
use Rattle.std.specs.Map.{lookup}
use Rattle.bmp_specs.specs.declared.peers.View.{View}
use Rattle.bmp_specs.specs.declared.peers.View.TheVariants.{InPre, InPost, OutPre, OutPost, Loc}
use Rattle.bmp_specs.specs.LenientState.{LenientState}
use Rattle.bmp_specs.specs.Orders.{key_cmp}
use Rattle.bmp_specs.specs.UpdateForms.{FormsValue, as_agreed}
use Rattle.bmp_specs.specs.Values.{EffectValue, KeyValue, OpensValue, PeerInfoValue, up}

-- the forms of the last UPDATE message in each view
pub record ShownValue : Type 0 where
  pub in_pre : FormsValue
  pub in_post : FormsValue
  pub out_pre : FormsValue
  pub out_post : FormsValue
  pub loc : FormsValue

-- none was read
abbrev pub nothing_shown : ShownValue
nothing_shown = record { in_pre = as_agreed; in_post = as_agreed; out_pre = as_agreed; out_post = as_agreed; loc = as_agreed }

-- the forms in a view, and others in their place
abbrev pub forms_at : ShownValue → View → FormsValue
forms_at s InPre = s.in_pre
forms_at s InPost = s.in_post
forms_at s OutPre = s.out_pre
forms_at s OutPost = s.out_post
forms_at s Loc = s.loc

abbrev pub with_forms : ShownValue → View → FormsValue → ShownValue
with_forms s InPre forms = record s { in_pre = forms }
with_forms s InPost forms = record s { in_post = forms }
with_forms s OutPre forms = record s { out_pre = forms }
with_forms s OutPost forms = record s { out_post = forms }
with_forms s Loc forms = record s { loc = forms }

-- a peer that is up: its OPEN messages, whether it is a Loc-RIB of which a Peer Up told, and the forms
pub record UpPeerValue : Type 0 where
  pub opens : OpensValue
  pub told : Bool
  pub shown : ShownValue

-- the peers that are up, and the Loc-RIBs that a Peer Down told to be down, which have no value
abbrev pub KnownPeers : Type 0
KnownPeers = List (KeyValue × Option UpPeerValue)

abbrev pub known_at : KnownPeers → KeyValue → Option (Option UpPeerValue)
known_at peers key = lookup (is_at (key_cmp key)) peers

abbrev pub opens_known : Option (Option UpPeerValue) → Option OpensValue
opens_known None = None
opens_known (Some None) = None
opens_known (Some (Some peer)) = Some peer.opens

abbrev pub told_known : Option (Option UpPeerValue) → Bool
told_known None = false
told_known (Some None) = true
told_known (Some (Some peer)) = peer.told

abbrev pub shown_known : Option (Option UpPeerValue) → View → FormsValue
shown_known None view = as_agreed
shown_known (Some None) view = as_agreed
shown_known (Some (Some peer)) view = forms_at peer.shown view

-- the same peer after an UPDATE message in these forms
abbrev pub with_shown_in : Option UpPeerValue → View → FormsValue → Option UpPeerValue
with_shown_in None view forms = None
with_shown_in (Some peer) view forms = Some (record peer { shown = with_forms peer.shown view forms })

-- what this says of each key
abbrev pub lenient_state : KnownPeers → LenientState
lenient_state peers = record {
  opens = λ key. opens_known (known_at peers key);
  told = λ key. told_known (known_at peers key);
  shown = λ key view. shown_known (known_at peers key) view;
}

-- the Up that stands before the first routes of a Loc-RIB that was not told of
abbrev pub up_if : Bool → KeyValue → PeerInfoValue → List EffectValue
up_if true key info = up key info ∷ []
up_if false key info = []
