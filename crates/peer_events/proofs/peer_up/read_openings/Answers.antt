use Rattle.std.proofs.Common.{◌≡◌, false, rules}
use Rattle.std.proofs.lemmas.Result.{err_from_is_err_and}
use Rattle.peer_events.proofs.PeerUpReading.{same_error, up_no_received, up_no_sent, up_no_tlvs, up_parts}
use Rattle.peer_events.proofs.peer_up.read_openings.Goals as goal

pub returns-in_err-sent-clause-broken : goal.returns-in_err-sent-clause-broken
returns-in_err-sent-clause-broken c =
    let p = err_from_is_err_and c.from_residual.result c.from_residual.ensures.1 in
    rw (p.1, p.2) (λ broken head. up_no_sent head c.args.rest.now (c.in_err-sent.ensures.broken (same_error _ _ broken)))

pub returns-in_err-received-clause-broken : goal.returns-in_err-received-clause-broken
returns-in_err-received-clause-broken c =
    let p = err_from_is_err_and c.from_residual-in_err-received.result c.from_residual-in_err-received.ensures.1 in
    rw (p.1, p.2) (λ broken head. up_no_received head c.args.rest.now _ _ c.in_ok-sent.ensures.ok (c.in_err-received.ensures.broken (same_error _ _ broken)))

pub returns-then-not-are_tlvs-clause-broken : goal.returns-then-not-are_tlvs-clause-broken
returns-then-not-are_tlvs-clause-broken c _ head =
    let no : c.are_tlvs.result ≡ false = search rules in
    up_no_tlvs head c.args.rest.now _ _ _ _ c.in_ok-sent.ensures.ok c.in_ok-received.ensures.ok c.are_tlvs.result c.are_tlvs.ensures.no no

pub returns-clause-parts : goal.returns-clause-parts
returns-clause-parts c =
    let found = c.are_tlvs.ensures.yes (search rules) in
    (found.0, found.1, up_parts c.args.rest.now _ _ _ _ found.0 c.in_ok-sent.ensures.ok c.in_ok-received.ensures.ok found.1)
