use Rattle.std.proofs.Common.{◌≡◌, refl, rules}
use Rattle.std.proofs.lemmas.Result.{err_from_is_err_and}
use Rattle.wire_io.proofs.Faults.{broken_below}
use Rattle.peer_events.proofs.PeerUpReading.{opening_broken, opening_here, opening_none}
use Rattle.peer_events.proofs.peer_up.read_opening.Goals as goal

pub returns-in_default-clause-broken : goal.returns-in_default-clause-broken
returns-in_default-clause-broken c _ = opening_none c.args.input.now c.in_default.ensures.none

pub returns-clause-ok : goal.returns-clause-ok
returns-clause-ok c =
    let kind : c.in-Some.frame.kind ≡ 1 = search rules in
    opening_here c.args.input.now _ _ c.in-Some.frame.kind c.in-Some.frame.length c.in_ok-open.open c.in-Some.ensures.found kind c.split_at.ensures.front c.split_at.ensures.back c.in_ok-open.ensures.ok

pub returns-in_err-open-clause-broken : goal.returns-in_err-open-clause-broken
returns-in_err-open-clause-broken c =
    let p = err_from_is_err_and c.from_residual.result c.from_residual.ensures.1 in
    rw (p.1, p.2) (λ broken. opening_broken c.args.input.now _ c.in-Some.frame.kind c.in-Some.frame.length c.in-Some.ensures.found c.split_at.ensures.front (c.in_err-open.ensures.broken (broken_below _ broken)))
