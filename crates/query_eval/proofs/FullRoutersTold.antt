-- The line of a lane with all that its last connection told.
use Rattle.std.proofs.Common.{◌≡◌, ℕ, List, [], ◌∷◌, length, Option, Some, None, refl, sym, ap, ◌∙◌}
use Rattle.std.specs.List.Sorted.{IsStrictlySortedBy}
use Rattle.std.specs.Map.{keys_of}
use Rattle.ask_specs.specs.Connection.{last_effects}
use Rattle.ask_specs.specs.FullRouters.{AreFullRouterLines, ConnectionValue, IsLastConnection, full_router_line}
use Rattle.bmp_specs.specs.Orders.{key_cmp}
use Rattle.bmp_specs.specs.PeerUp.{IsUp}
use Rattle.bmp_specs.specs.Reply.{told_count}
use Rattle.bmp_specs.specs.Session.{LaneStateValue, session_effects, state_of}
use Rattle.bmp_specs.specs.Values.{EntryValue, KeyValue}
use Rattle.bmp_specs.proofs.ListedOne.{all_one}
use Rattle.bmp_specs.proofs.OrderLaws.{key_total}
use Rattle.peer_book.specs.Peers.{Peers, up_keys}
use Rattle.peer_book.specs.Standing.{AreUp}
use Rattle.peer_book.proofs.UpPeers.{all_up}
use Rattle.router_tables.specs.Last.{LeftValue}
use Rattle.router_tables.specs.Tables.{TablesValue, StandsFor}
use Rattle.router_tables.proofs.LastSteps.{connection_closed, connection_open}

-- ---- a lane has one last connection, and one line
module _ (entries : List EntryValue) where
  last_one : (a b : ConnectionValue) → IsLastConnection entries a → IsLastConnection entries b → a ≡ b
  last_one a b p q =
      let came : a.came ≡ b.came = p.came_is ∙ sym q.came_is in
      let until : a.until ≡ b.until = p.until_is ∙ sym q.until_is in
      let keys : p.known ≡ q.known = all_one (λ (key : KeyValue). key) key_cmp key_total (IsUp (last_effects entries)) p.known q.known p.are_up q.are_up in
      let up : a.up ≡ b.up = p.up_is ∙ ap (λ (ks : List KeyValue). told_count (length ks)) keys ∙ sym q.up_is in
      let counts : a.counts ≡ b.counts = p.counts_are ∙ sym q.counts_are in
      let name : a.name ≡ b.name = p.name_is ∙ sym q.name_is in
      let descr : a.descr ≡ b.descr = p.descr_is ∙ sym q.descr_is in
      let passed : a.passed ≡ b.passed = p.passed_is ∙ sym q.passed_is in
      λ i. record { came = came i; until = until i; up = up i; counts = counts i; name = name i; descr = descr i; passed = passed i }

  pub full_router_lines_one : (lane : ℕ) (a b : List (List ℕ)) → AreFullRouterLines lane entries a → AreFullRouterLines lane entries b → a ≡ b
  full_router_lines_one lane a b p q = p.told ∙ ap (λ (c : ConnectionValue). full_router_line lane (state_of entries) c ∷ []) (last_one p.last q.last p.is_last q.is_last) ∙ sym q.told

-- the line that is written of this state and this connection
pub are_full_router_lines : (lane : ℕ) (tables : TablesValue) (state : LaneStateValue) (c : ConnectionValue) → state ≡ tables.session.state → ((entries : List EntryValue) → StandsFor tables entries → IsLastConnection entries c)
    → (entries : List EntryValue) → StandsFor tables entries → AreFullRouterLines lane entries (full_router_line lane state c ∷ [])
are_full_router_lines lane tables state c state_is last entries stands = record {
  last = c;
  is_last = last entries stands;
  told = ap (λ (s : LaneStateValue). full_router_line lane s c ∷ []) (state_is ∙ stands.session.state);
}

-- ---- tables that stand for entries have their last connection
module _ (tables : TablesValue) (entries : List EntryValue) (stands : StandsFor tables entries) (ordered : IsStrictlySortedBy key_cmp (keys_of tables.session.books.peers)) where
  abbrev book : Peers
  book = tables.session.books.peers

  abbrev present : LeftValue
  present = record { peers = told_count (length (up_keys book)); counts = tables.session.counts; name = tables.session.books.name; description = tables.session.books.description }

  are_up : AreUp present.peers (session_effects entries)
  are_up = record { known = up_keys book; all = all_up book (session_effects entries) ordered stands.session.books.peers; told = refl }

  pub last_there : (last : ConnectionValue) × IsLastConnection entries last
  last_there = go tables.session.last.left refl
    where
      go : (left : Option LeftValue) → tables.session.last.left ≡ left → (last : ConnectionValue) × IsLastConnection entries last
      go (Some left) is = (_, connection_closed tables.session.last left is entries stands.session.last)
      go None is = (_, connection_open tables.session.last present tables.session.books tables.session.counts is entries are_up refl refl refl stands.session.counts stands.session.books stands.session.last)
