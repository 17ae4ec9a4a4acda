-- The peers of a book, one after another.
use Rattle.std.proofs.Common.{◌≡◌, ◌<◌, ℕ, List, [], ◌∷◌, ◌++◌, length, map, Option, Some, refl, sym, ap, ◌∙◌, subst, arith}
use Rattle.std.specs.Prelude.{slice_get}
use Rattle.std.specs.List.{filter}
use Rattle.std.specs.List.Sorted.{IsStrictlySortedBy}
use Rattle.std.specs.Map.{keys_of}
use Rattle.std.specs.Option.{option_map}
use Rattle.std.proofs.lemmas.List.{map-append}
use Rattle.std.proofs.lemmas.List.Elements.{filter-append}
use Rattle.bmp_specs.specs.Orders.{key_cmp}
use Rattle.bmp_specs.specs.PeerUp.{StateValue}
use Rattle.bmp_specs.specs.QueryReply.{peer_line}
use Rattle.bmp_specs.specs.Values.{KeyValue}
use Rattle.bmp_specs.proofs.OrderLaws.{key_total}
use Rattle.peer_book.specs.Peers.{Peers, PeerValue, keyed_state}
use Rattle.query_eval.specs.Later.{later}
use Rattle.query_eval.specs.Selecting.{keeps_peer}
use Rattle.query_eval.specs.Told.{states_in, state_lines}
use Rattle.query_eval.proofs.Walking.{next_is, keys_same, later_same, first_mapped}

key_kept : (e : KeyValue × PeerValue) → (keyed_state e).0 ≡ e.0
key_kept e = refl

pub first_state : (place : Option KeyValue) (peers : Peers) → option_map keyed_state (slice_get (later key_cmp place peers) 0) ≡ slice_get (later key_cmp place (states_in peers)) 0
first_state place peers = sym (ap (λ (l : List (KeyValue × StateValue)). slice_get l 0) (later_same key_cmp keyed_state key_kept place peers) ∙ first_mapped keyed_state (later key_cmp place peers))

pub states_ordered : (peers : Peers) → IsStrictlySortedBy key_cmp (keys_of peers) → IsStrictlySortedBy key_cmp (keys_of (states_in peers))
states_ordered peers s = subst (IsStrictlySortedBy key_cmp) (sym (keys_same key_cmp keyed_state key_kept peers)) s

-- the next peer, and those behind it
pub next_state : (place : Option KeyValue) (peers : Peers) (e : KeyValue × StateValue) → IsStrictlySortedBy key_cmp (keys_of (states_in peers)) → Some e ≡ slice_get (later key_cmp place (states_in peers)) 0
    → later key_cmp place (states_in peers) ≡ e ∷ later key_cmp (Some e.0) (states_in peers)
next_state place peers e s h = next_is key_cmp key_total place (states_in peers) e s (sym h)

pub fewer : {X : Type 0} (left rest : List X) (e : X) → left ≡ e ∷ rest → length rest < length left
fewer left rest e is = let l : length left ≡ length (e ∷ rest) = ap length is in omega (arith, l)

module _ (router : Option ℕ) (peer : Option KeyValue) (lane : ℕ) where
  -- the lines of the first peer and of the others
  pub lines_first : (left rest : List (KeyValue × StateValue)) (e : KeyValue × StateValue) → left ≡ e ∷ rest → state_lines router peer lane left ≡ state_lines router peer lane (e ∷ []) ++ state_lines router peer lane rest
  lines_first left rest e is =
      ap (state_lines router peer lane) is ∙ ap (map (peer_line lane)) (filter-append (λ (p : KeyValue × StateValue). keeps_peer router peer lane p.0) (e ∷ []) rest)
      ∙ map-append (peer_line lane) (filter (λ (p : KeyValue × StateValue). keeps_peer router peer lane p.0) (e ∷ [])) (filter (λ (p : KeyValue × StateValue). keeps_peer router peer lane p.0) rest)
