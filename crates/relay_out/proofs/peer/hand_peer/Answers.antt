use Rattle.std.proofs.Common.{List, ◌++◌, refl, sym, subst}
use Rattle.std.specs.List.{AllByRecursion}
use Rattle.bmp_specs.specs.declared.peers.View.{View}
use Rattle.peer_book.specs.Peers.{Peers}
use Rattle.relay_out.specs.Handed.{Hands}
use Rattle.relay_out.specs.Tables.{all_views}
use Rattle.relay_out.proofs.Handing.{hands_join, hands_more, leads_begin, leads_failed, leads_on}
use Rattle.relay_out.proofs.Members.{all_parts}
use Rattle.relay_out.proofs.Steps.{items_of_complete, items_of_views}
use Rattle.relay_out.proofs.peer.hand_peer.Goals as goal

pub returns-in_err-take : goal.returns-in_err-take
returns-in_err-take g c =
    let rows = items_of_views c.args.info.now c.args.tables.now.tables c.args.key.now all_views in
    let complete = items_of_complete c.args.tables.now.session.books.peers c.args.key.now all_views in
    hands_more _ _ _ (rows ++ complete) _ _ _ c.in_err-take.ensures c.from_residual.ensures.1 refl

pub returns-in_err-hand_rows : goal.returns-in_err-hand_rows
returns-in_err-hand_rows g c =
    let rows = items_of_views c.args.info.now c.args.tables.now.tables c.args.key.now all_views in
    let complete = items_of_complete c.args.tables.now.session.books.peers c.args.key.now all_views in
    leads_failed _ _ _ rows complete (rows ++ complete) _ _ _ (leads_on _ _ _ _ (rows ++ complete) _ _ _ (leads_begin _ _ _ refl c.requires) c.in_ok-take.ensures refl) c.in_err-hand_rows.ensures c.from_residual-in_err-hand_rows.ensures.1 refl

pub returns : goal.returns
returns g c =
    let rows = items_of_views c.args.info.now c.args.tables.now.tables c.args.key.now all_views in
    let complete = items_of_complete c.args.tables.now.session.books.peers c.args.key.now all_views in
    let last : Hands g.T.Takes.of g.T.Takes.took g.T.Takes.stopped complete c.hand_rows.new.taker c.hand_complete.result c.hand_complete.new.taker =
    subst (λ (ps : Peers). Hands g.T.Takes.of g.T.Takes.took g.T.Takes.stopped (items_of_complete ps c.args.key.now all_views) c.hand_rows.new.taker c.hand_complete.result c.hand_complete.new.taker) c.peers.ensures
    (subst (λ (vs : List View). Hands g.T.Takes.of g.T.Takes.took g.T.Takes.stopped (items_of_complete c.peers.result.now c.args.key.now vs) c.hand_rows.new.taker c.hand_complete.result c.hand_complete.new.taker) c.views.ensures c.hand_complete.ensures) in
    hands_join _ _ _ _ (rows ++ complete) _ _ _ c.in_ok-take.ensures (hands_join _ _ _ rows complete (rows ++ complete) _ _ c.in_ok-hand_rows.ensures last refl) refl

pub hand_rows-requires : goal.hand_rows-requires
hand_rows-requires g c =
    let rows = items_of_views c.args.info.now c.args.tables.now.tables c.args.key.now all_views in
    let complete = items_of_complete c.args.tables.now.session.books.peers c.args.key.now all_views in
    (all_parts g.T.Takes.may rows complete c.requires.1).0

pub hand_complete-requires : goal.hand_complete-requires
hand_complete-requires g c =
    let rows = items_of_views c.args.info.now c.args.tables.now.tables c.args.key.now all_views in
    let complete = items_of_complete c.args.tables.now.session.books.peers c.args.key.now all_views in
    subst (λ (vs : List View). AllByRecursion g.T.Takes.may (items_of_complete c.peers.result.now c.args.key.now vs)) (sym c.views.ensures)
    (subst (λ (ps : Peers). AllByRecursion g.T.Takes.may (items_of_complete ps c.args.key.now all_views)) (sym c.peers.ensures) (all_parts g.T.Takes.may rows complete c.requires.1).1)
