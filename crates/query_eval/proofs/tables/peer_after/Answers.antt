use Rattle.std.proofs.Common.{◌≡◌, None, Some, sym, ap, ◌∙◌, subst}
use Rattle.std.specs.Map.{keys_of}
use Rattle.std.specs.Option.{option_map}
use Rattle.peer_book.specs.Line.{line_value}
use Rattle.peer_book.specs.Peers.{Peers, after_place}
use Rattle.query_eval.specs.RowTables.{keys_from}
use Rattle.query_eval.proofs.RowCursor.{next_peers}
use Rattle.query_eval.proofs.tables.peer_after.Goals as goal

pub returns-in-Some-clause-first : goal.returns-in-Some-clause-first
returns-in-Some-clause-first c =
    subst (λ (p : Peers). keys_of (after_place c.args.place p) ≡ keys_from None (Some c.in-Some.line.key) p) c.peers.ensures
    (next_peers c.peers.result.now c.after.ensures.ordered c.args.place (Some (line_value c.in-Some.line)) (sym (ap (option_map line_value) c.in-Some.is) ∙ c.after.ensures.first))

pub returns-in-None-clause-first : goal.returns-in-None-clause-first
returns-in-None-clause-first c =
    subst (λ (p : Peers). keys_of (after_place c.args.place p) ≡ keys_from None None p) c.peers.ensures
    (next_peers c.peers.result.now c.after.ensures.ordered c.args.place None (sym (ap (option_map line_value) c.in-None.is) ∙ c.after.ensures.first))
