-- Which tables are complete: the End-of-RIB marker of the family came since the peer was last up (RFC 4724, section 2).
use Rattle.std.specs.Prelude.{List}
use Rattle.std.specs.List.{Contains}
use Rattle.bmp_specs.specs.declared.wire.Family.{Family}
use Rattle.bmp_specs.specs.declared.peers.View.{View}
use Rattle.bmp_specs.specs.Values.{KeyValue, PeerInfoValue, EffectValue, mark}
use Rattle.bmp_specs.specs.PeerUp.{IsUpWith}

-- the peer is up, and a mark of its view and family stands after its last Up
pub record IsComplete (effects : List EffectValue) (key : KeyValue) (view : View) (family : Family) : Type 0 where
  pub info : PeerInfoValue
  pub up : IsUpWith effects key info
  pub marked : Contains up.after (mark key view family)
