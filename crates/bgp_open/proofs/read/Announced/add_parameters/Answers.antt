use Rattle.std.proofs.Common.{◌≡◌, ◌<◌, length, rules}
use Rattle.std.proofs.lemmas.Result.{err_from_is_err_and}
use Rattle.bgp_open.proofs.Reading.{parameters_more, parameters_stuck, parameter_broken, parameters_end}
use Rattle.bgp_open.proofs.read.Announced.add_parameters.Goals as goal

pub returns-in_default-clause-broken : goal.returns-in_default-clause-broken
returns-in_default-clause-broken c _ =
    let some : 0 < length c.loop-rest.rest.now = search rules in
    parameters_stuck _ _ _ _ c.loop-rest.invariant some c.in_default.ensures.none

pub returns-in_err-add_parameter-clause-broken : goal.returns-in_err-add_parameter-clause-broken
returns-in_err-add_parameter-clause-broken c =
    let some : 0 < length c.loop-rest.rest.now = search rules in
    let p = err_from_is_err_and c.from_residual.result c.from_residual.ensures.1 in
    rw (p.1, p.2) (λ broken. parameter_broken _ _ _ _ _ _ c.loop-rest.invariant some c.in-Some.ensures.found (c.in_err-add_parameter.ensures.broken broken))

pub loop-rest-preserved : goal.loop-rest-preserved
loop-rest-preserved c =
    let added = c.in_ok-add_parameter.ensures.ok in
    parameters_more _ _ _ _ _ _ _ added.0 c.loop-rest.invariant c.in-Some.ensures.found added.1 added.2

pub returns-clause-ok : goal.returns-clause-ok
returns-clause-ok c =
    let none : length c.loop-rest.rest.now ≡ 0 = search rules in
    parameters_end _ _ _ _ c.loop-rest.invariant none
