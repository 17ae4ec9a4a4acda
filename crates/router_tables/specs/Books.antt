-- What the effects of a session told, without its routes: its router's name and description, its peers and their
-- statistics.
use Rattle.std.specs.Prelude.{◌≡◌, ℕ, List}
use Rattle.bmp_specs.specs.Session.{name_of, description_of}
use Rattle.bmp_specs.specs.Values.{EffectValue}
use Rattle.peer_book.specs.Peers.{Peers}
use Rattle.peer_book.specs.Standing.{StandsForPeers}
use Rattle.stats_book.specs.Stats.{Stats}
use Rattle.stats_book.specs.Standing.{StandsForStats}

pub record BooksValue : Type 0 where
  pub name : List ℕ
  pub description : List ℕ
  pub peers : Peers
  pub stats : Stats

-- they are what these effects leave
pub record StandsForBooks (books : BooksValue) (effects : List EffectValue) : Type 0 where
  pub name : books.name ≡ name_of effects
  pub description : books.description ≡ description_of effects
  pub peers : StandsForPeers books.peers effects
  pub stats : StandsForStats books.stats effects
