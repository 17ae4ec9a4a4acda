-- Which peers are up after some effects: a peer is up from its Peer Up to its Peer Down (RFC 7854, sections 4.9
-- and 4.10). A second Peer Up begins again.
use Rattle.std.specs.Prelude.{◌≡◌, List}
use Rattle.std.specs.List.{Any}
use Rattle.bmp_specs.specs.Values.{KeyValue, PeerInfoValue, DownInfoValue, EffectValue, up, down}
use Rattle.bmp_specs.specs.Latest.{Latest}

-- the effect is an Up or a Down of the peer
abbrev pub Names : KeyValue → EffectValue → Type 0
Names key (up k info) = k ≡ key
Names key (down k info) = k ≡ key
Names key _ = ⊥

-- some effect is an Up or a Down of the peer
abbrev pub IsNamed : List EffectValue → KeyValue → Type 0
IsNamed effects key = Any (Names key) effects

-- the last Up or Down of the peer is an Up with this info
abbrev pub IsUpWith : List EffectValue → KeyValue → PeerInfoValue → Type 0
IsUpWith effects key info = Latest (Names key) effects (up key info)

-- the last Up or Down of the peer is a Down with this info
abbrev pub IsDownWith : List EffectValue → KeyValue → DownInfoValue → Type 0
IsDownWith effects key info = Latest (Names key) effects (down key info)

-- the peer is up
abbrev pub IsUp : List EffectValue → KeyValue → Type 0
IsUp effects key = (info : PeerInfoValue) × IsUpWith effects key info

-- a peer that is up, by its last Peer Up, or down, by its last Peer Down
pub data StateValue : Type 0 where
  up_state : PeerInfoValue → StateValue
  down_state : DownInfoValue → StateValue

-- the peer is up or down, with what its last Peer Up or Peer Down told
abbrev pub IsPeerAs : List EffectValue → KeyValue → StateValue → Type 0
IsPeerAs effects key (up_state info) = IsUpWith effects key info
IsPeerAs effects key (down_state info) = IsDownWith effects key info
