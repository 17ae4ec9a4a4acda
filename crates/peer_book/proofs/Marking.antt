-- A mark as it is written: the peer is looked up, changed, and put back in its place.
use Rattle.std.proofs.Common.{◌≡◌, Bool, true, false, Option, None, Some, sym, ap, ◌∙◌, subst}
use Rattle.std.specs.Bool.{OnFalse}
use Rattle.std.specs.BTreeMap.{is_at}
use Rattle.std.specs.Map.{set_value}
use Rattle.std.specs.Option.{option_map}
use Rattle.std.proofs.lemmas.Map.Steps.{set_value_same}
use Rattle.bmp_specs.specs.declared.wire.Family.{Family}
use Rattle.bmp_specs.specs.declared.peers.View.{View}
use Rattle.bmp_specs.specs.Orders.{key_cmp}
use Rattle.bmp_specs.specs.Values.{KeyValue}
use Rattle.peer_book.specs.Peers.{Peers, PeerValue, up_peer, down_peer, is_up_peer, marked_peer, peer_at, with_peer_there, with_mark}

pub on_false : {P : Type 0} (b : Bool) → P → OnFalse b P
on_false true p = tt
on_false false p = p

module _ (peers next : Peers) (key : KeyValue) (view : View) (family : Family) where
  pub marked_there : (peer after : PeerValue) → Some peer ≡ peer_at peers key → after ≡ marked_peer peer view family → next ≡ set_value (is_at (key_cmp key)) peers after → next ≡ with_mark peers key view family
  marked_there peer after there is set =
      set ∙ ap (λ (p : PeerValue). set_value (is_at (key_cmp key)) peers p) is ∙ ap (λ (o : Option PeerValue). with_peer_there peers key (option_map (λ p. marked_peer p view family) o)) there

  pub marked_nowhere : None ≡ peer_at peers key → next ≡ peers → next ≡ with_mark peers key view family
  marked_nowhere none same = same ∙ ap (λ (o : Option PeerValue). with_peer_there peers key (option_map (λ p. marked_peer p view family) o)) none

  -- a peer that isn't up stays as it is
  pub marked_down : (b : Bool) (peer after : PeerValue) → b ≡ is_up_peer peer → Some peer ≡ peer_at peers key → after ≡ marked_peer peer view family → next ≡ set_value (is_at (key_cmp key)) peers after → OnFalse b (next ≡ peers)
  marked_down b (up_peer info marks) after is_up there is set = subst (λ (c : Bool). OnFalse c (next ≡ peers)) (sym is_up) tt
  marked_down b (down_peer info) after is_up there is set =
      on_false b (set ∙ ap (λ (p : PeerValue). set_value (is_at (key_cmp key)) peers p) is ∙ set_value_same (is_at (key_cmp key)) peers (down_peer info) (sym there))
