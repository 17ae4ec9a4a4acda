use Rattle.std.proofs.lemmas.Result.{err_from_is_err_and}
use Rattle.wire_io.proofs.Faults.{broken_below}
use Rattle.bmp_message.proofs.UpdateOf.{no_body, no_update}
use Rattle.bmp_message.proofs.makes.WithEffectsMakes.routes.Goals as goal

pub returns-in_default-clause-broken : goal.returns-in_default-clause-broken
returns-in_default-clause-broken c _ = no_update _ _ _ c.in_default.ensures.none

pub returns-in_err-update-clause-broken : goal.returns-in_err-update-clause-broken
returns-in_err-update-clause-broken c =
    let p = err_from_is_err_and c.from_residual.result c.from_residual.ensures.1 in
    rw (p.1, p.2) (λ broken. no_body _ _ _ _ _ _ c.in-Some.ensures.found c.width_of.ensures c.id_use.ensures (c.in_err-update.ensures.broken (broken_below _ broken)))
