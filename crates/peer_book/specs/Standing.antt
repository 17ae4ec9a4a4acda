-- The effects that a book of peers stands for.
use Rattle.std.specs.Prelude.{◌≡◌, ◌↔◌, ℕ, List, length, Some, IsSome, IsTrue}
use Rattle.bmp_specs.specs.declared.wire.Family.{Family}
use Rattle.bmp_specs.specs.declared.peers.View.{View}
use Rattle.bmp_specs.specs.Values.{KeyValue, PeerInfoValue, DownInfoValue, EffectValue}
use Rattle.bmp_specs.specs.Complete.{IsComplete}
use Rattle.bmp_specs.specs.Listed.{AreAll}
use Rattle.bmp_specs.specs.Orders.{key_cmp}
use Rattle.bmp_specs.specs.PeerUp.{IsNamed, IsUp, IsUpWith, IsDownWith, up_state, down_state}
use Rattle.bmp_specs.specs.Reply.{told_count}
use Rattle.peer_book.specs.Peers.{Peers, state_at, is_complete_at}

-- The book has the peers that the effects name, up or down by their last Peer Up or Peer Down (RFC 7854, sections 4.9
-- and 4.10), and the marks of the tables that are complete (RFC 4724, section 2).
pub record StandsForPeers (peers : Peers) (effects : List EffectValue) : Type 0 where
  pub up : (key : KeyValue) (info : PeerInfoValue) → (state_at peers key ≡ Some (up_state info)) ↔ IsUpWith effects key info
  pub down : (key : KeyValue) (info : DownInfoValue) → (state_at peers key ≡ Some (down_state info)) ↔ IsDownWith effects key info
  pub named : (key : KeyValue) → IsSome (state_at peers key) ↔ IsNamed effects key
  pub complete : (key : KeyValue) (view : View) (family : Family) → IsTrue (is_complete_at peers key view family) ↔ IsComplete effects key view family

-- so many peers are up after these effects, at most the greatest number of 64 bits
pub record AreUp (count : ℕ) (effects : List EffectValue) : Type 0 where
  pub known : List KeyValue
  pub all : AreAll (λ key. key) key_cmp (IsUp effects) known
  pub told : count ≡ told_count (length known)
