use Rattle.std.proofs.Common.{length, map, ap, ◌∙◌, subst, rules, tests}
use Rattle.std.specs.List.{filter}
use Rattle.std.specs.List.Sorted.{IsStrictlySortedBy}
use Rattle.std.specs.Map.{keys_of}
use Rattle.std.proofs.lemmas.Iterator.Consumers.{YieldsList-from_filter, YieldsList-from_rest, count_from_yields_List}
use Rattle.bmp_specs.specs.Orders.{key_cmp}
use Rattle.peer_book.specs.Peers.{Peers, is_up_peer, up_keys}
use Rattle.peer_book.proofs.UpPeers.{all_up, up_counted}
use Rattle.peer_book.proofs.book.PeerBook.count_up.Goals as goal

pub returns-clause-count : goal.returns-clause-count
returns-clause-count c =
    up_counted c.args.self.now c.count.result c.count.type_inv
    (count_from_yields_List c.filter.result c.count.result c.count.ensures.ran
    (YieldsList-from_filter _ is_up_peer (YieldsList-from_rest (map (λ e. e.1) c.self.inside.peers.entries) (cc c.values.ensures.rest)) c.filter.ensures.closure (λ x r q k. search (rules, tests)))
    ∙ ap (λ (v : Peers). length (filter is_up_peer (map (λ e. e.1) v))) c.self.view_is)

pub returns-clause-stands : goal.returns-clause-stands
returns-clause-stands c = λ effects stands.
    let ordered = subst (λ (v : Peers). IsStrictlySortedBy key_cmp (keys_of v)) c.self.view_is c.values.ensures.ordered in
    record { known = up_keys c.args.self.now; all = all_up c.args.self.now effects ordered stands; told = returns-clause-count c }
