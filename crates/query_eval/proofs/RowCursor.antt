-- The peers of a session after a place: the first, and those after it.
use Rattle.std.proofs.Common.{◌≡◌, Option, None, Some, refl, sym, ap, ◌∙◌}
use Rattle.std.specs.Prelude.{slice_get}
use Rattle.std.specs.Borrow.{Bor}
use Rattle.std.specs.List.Sorted.{IsStrictlySortedBy}
use Rattle.std.specs.Map.{keys_of}
use Rattle.std.specs.Option.{option_map}
use Rattle.bmp_specs.specs.Orders.{key_cmp}
use Rattle.bmp_specs.specs.PeerUp.{StateValue}
use Rattle.bmp_specs.specs.Values.{KeyValue}
use Rattle.bmp_specs.proofs.OrderLaws.{key_total}
use Rattle.peer_book.specs.Peers.{PeerValue, Peers, after_place, keyed_state}
use Rattle.query_eval.specs.Later.{later}
use Rattle.query_eval.specs.RowTables.{keys_from}
use Rattle.query_eval.proofs.Walking.{next_is, none_left}

-- the key of a line
abbrev pub line_key : Option (KeyValue × StateValue) → Option KeyValue
line_key line = option_map (λ (x : KeyValue × StateValue). x.0) line

module _ (peers : Peers) (ordered : IsStrictlySortedBy key_cmp (keys_of peers)) where
  next_keys : (place : Option KeyValue) (found : Option (KeyValue × PeerValue)) → slice_get (later key_cmp place peers) 0 ≡ found → keys_of (later key_cmp place peers) ≡ keys_from None (line_key (option_map keyed_state found)) peers
  next_keys place None is = ap keys_of (none_left (later key_cmp place peers) is)
  next_keys place (Some e) is = ap keys_of (next_is key_cmp key_total place peers e ordered is)

  pub next_peers : (place : Option (Bor KeyValue)) (line : Option (KeyValue × StateValue)) → line ≡ option_map keyed_state (slice_get (after_place place peers) 0) → keys_of (after_place place peers) ≡ keys_from None (line_key line) peers
  next_peers None line e = next_keys None (slice_get peers 0) refl ∙ ap (λ (l : Option (KeyValue × StateValue)). keys_from None (line_key l) peers) (sym e)
  next_peers (Some place) line e = next_keys (Some place.now) (slice_get (later key_cmp (Some place.now) peers) 0) refl ∙ ap (λ (l : Option (KeyValue × StateValue)). keys_from None (line_key l) peers) (sym e)
