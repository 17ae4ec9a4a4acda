-- The line of a lane with a connection tells what the present session left.
use Rattle.std.proofs.Common.{◌≡◌, ℕ, List, ◌∙◌, subst}
use Rattle.bmp_specs.specs.Counts.{CountsValue, counts_of}
use Rattle.bmp_specs.specs.PeerLines.{live_line}
use Rattle.bmp_specs.specs.QueryReply.{IsRouterLine}
use Rattle.bmp_specs.specs.Session.{LaneStateValue, live, state_of, session_effects, lane_name, lane_description}
use Rattle.bmp_specs.specs.Values.{EffectValue, EntryValue}
use Rattle.peer_book.specs.Standing.{AreUp, StandsForPeers}
use Rattle.router_tables.specs.Tables.{TablesValue, StandsFor}

module _ (lane : ℕ) (entries : List EntryValue) where
  live_line_is : (up : ℕ) (counts : CountsValue) (name description : List ℕ) → AreUp up (session_effects entries)
      → counts ≡ counts_of entries → name ≡ lane_name entries → description ≡ lane_description entries → (s : LaneStateValue) → live ≡ s → IsRouterLine lane entries s (live_line lane up counts name description)
  live_line_is up counts name description are_up counts_are name_is description_is s live_is =
      subst (λ (t : LaneStateValue). IsRouterLine lane entries t (live_line lane up counts name description)) live_is
      (are_up.known, are_up.all, λ i. live_line lane (are_up.told i) (counts_are i) (name_is i) (description_is i))

pub live_told : (tables : TablesValue) (up : ℕ) (counts : CountsValue) (name description : List ℕ) → live ≡ tables.session.state → ((effects : List EffectValue) → StandsForPeers tables.session.books.peers effects → AreUp up effects)
    → counts ≡ tables.session.counts → name ≡ tables.session.books.name → description ≡ tables.session.books.description → (lane : ℕ) (entries : List EntryValue) → StandsFor tables entries → IsRouterLine lane entries (state_of entries) (live_line lane up counts name description)
live_told tables up counts name description live_is are_up counts_are name_is description_is lane entries stands =
    live_line_is lane entries up counts name description (are_up (session_effects entries) stands.session.books.peers) (counts_are ∙ stands.session.counts) (name_is ∙ stands.session.books.name) (description_is ∙ stands.session.books.description)
    (state_of entries) (live_is ∙ stands.session.state)
