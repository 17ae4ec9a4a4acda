use Rattle.std.proofs.Common.{refl, sym, ap, subst}
use Rattle.std.specs.Arc.{arc_value}
use Rattle.std.specs.Option.{option_map}
use Rattle.bmp_specs.specs.Session.{session_effects}
use Rattle.peer_book.specs.Peers.{Peers}
use Rattle.peer_book.specs.Standing.{StandsForPeers}
use Rattle.router_tables.specs.Last.{LastValue, LeftValue, StandsForLast}
use Rattle.router_tables.proofs.LastSteps.{connection_open}
use Rattle.router_tables.proofs.last.LastConnection.connection.Goals as goal

pub returns-in-None : goal.returns-in-None
returns-in-None c entries counted told h =
    let last : LastValue = record { came = c.self.inside.came; until = c.self.inside.until; passed = c.self.inside.passed; left = option_map arc_value c.self.inside.left } in
    let left : LeftValue = record { peers = c.count_up.result; counts = c.args.counts; name = c.name.result.now; description = c.description.result.now } in
    connection_open last left c.args.books.now c.args.counts (ap (option_map arc_value) c.in-None.is) entries
    (c.count_up.ensures.stands (session_effects entries) (subst (λ (p : Peers). StandsForPeers p (session_effects entries)) (sym c.peers.ensures) told.peers)) refl c.name.ensures c.description.ensures counted told
    (subst (λ (l : LastValue). StandsForLast l entries) (sym c.self.view_is) h)
