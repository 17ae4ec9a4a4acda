-- Tables whose books are put in order stand for the same entries.
use Rattle.std.proofs.Common.{◌≡◌, false, cond, List, [], ◌∷◌, Option, Some, refl, sym, ap, ◌∙◌, subst}
use Rattle.std.specs.Prelude.{◌↔◌, IsSome, IsTrue}
use Rattle.std.specs.declared.cmp.Ordering.{Ordering}
use Rattle.std.specs.BTreeMap.{insert_entry, is_at}
use Rattle.std.specs.Cmp.{IsTotalOrder}
use Rattle.std.specs.List.Sorted.{IsStrictlySortedBy}
use Rattle.std.specs.Map.{keys_of, lookup}
use Rattle.std.specs.Option.{option_map, option_map_or}
use Rattle.bmp_specs.specs.Complete.{IsComplete}
use Rattle.bmp_specs.specs.Orders.{key_cmp}
use Rattle.bmp_specs.specs.PeerUp.{IsNamed, IsUpWith, IsDownWith, up_state, down_state}
use Rattle.bmp_specs.specs.Values.{KeyValue, EffectValue, EntryValue}
use Rattle.bmp_specs.proofs.OrderLaws.{key_total}
use Rattle.bmp_specs.proofs.SortedPairs.{sorted-insert, lookup-insert}
use Rattle.peer_book.specs.Peers.{Peers, PeerValue, state_of as peer_state, is_complete_peer}
use Rattle.peer_book.specs.Standing.{StandsForPeers}
use Rattle.router_tables.specs.Tables.{TablesValue, StandsFor}

-- the pairs in the order of their keys, each key with its first value
abbrev pub by_key : {K X : Type 0} → (K → K → Ordering) → List (K × X) → List (K × X)
by_key cmp [] = []
by_key cmp (e ∷ es) = insert_entry cmp (by_key cmp es) e.0 e.1

module _ {K X : Type 0} (cmp : K → K → Ordering) (total : IsTotalOrder cmp) where
  pub by_key_sorted : (es : List (K × X)) → IsStrictlySortedBy cmp (keys_of (by_key cmp es))
  unfolding IsStrictlySortedBy
  by_key_sorted [] = tt
  by_key_sorted (e ∷ es) = sorted-insert cmp total (by_key cmp es) e.0 e.1 (by_key_sorted es)

  pub by_key_same : (q : K) (es : List (K × X)) → lookup (is_at (cmp q)) (by_key cmp es) ≡ lookup (is_at (cmp q)) es
  by_key_same q [] = refl
  by_key_same q (e ∷ es) = lookup-insert cmp total q e.0 e.1 (by_key cmp es) ∙ ap (cond (is_at (cmp q) e.0) (Some e.1)) (by_key_same q es)

-- a book's peers
pub peers_by_key : (peers : Peers) (effects : List EffectValue) → StandsForPeers peers effects → StandsForPeers (by_key key_cmp peers) effects
peers_by_key peers effects h = record {
  up = λ key info. subst (λ (o : Option PeerValue). (option_map peer_state o ≡ Some (up_state info)) ↔ IsUpWith effects key info) (same key) (h.up key info);
  down = λ key info. subst (λ (o : Option PeerValue). (option_map peer_state o ≡ Some (down_state info)) ↔ IsDownWith effects key info) (same key) (h.down key info);
  named = λ key. subst (λ (o : Option PeerValue). IsSome (option_map peer_state o) ↔ IsNamed effects key) (same key) (h.named key);
  complete = λ key view family. subst (λ (o : Option PeerValue). IsTrue (option_map_or (λ p. is_complete_peer p view family) o false) ↔ IsComplete effects key view family) (same key) (h.complete key view family);
}
  where
    same : (key : KeyValue) → lookup (is_at (key_cmp key)) peers ≡ lookup (is_at (key_cmp key)) (by_key key_cmp peers)
    same key = sym (by_key_same key_cmp key_total key peers)

-- the tables with the peers in order
abbrev pub tables_by_key : TablesValue → TablesValue
tables_by_key tables = record tables { session = record tables.session { books = record tables.session.books { peers = by_key key_cmp tables.session.books.peers } } }

pub stand_by_key : (tables : TablesValue) (entries : List EntryValue) → StandsFor tables entries → StandsFor (tables_by_key tables) entries
stand_by_key tables entries h = record {
  session = record {
    state = h.session.state;
    counts = h.session.counts;
    books = record {
      name = h.session.books.name;
      description = h.session.books.description;
      peers = peers_by_key tables.session.books.peers _ h.session.books.peers;
      stats = h.session.books.stats;
    };
    last = h.session.last;
  };
  rows = h.rows;
  steps = h.steps;
}
