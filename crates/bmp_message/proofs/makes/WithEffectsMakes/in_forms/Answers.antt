use Rattle.std.proofs.Common.{subst}
use Rattle.std.proofs.lemmas.Result.{err_from_is_err_and}
use Rattle.bmp_specs.specs.LenientBody.{IsLenientUpdate}
use Rattle.bmp_specs.specs.UpdateForms.{FormsValue}
use Rattle.bmp_specs.specs.Values.{PeerInfoValue, UpdateValue}
use Rattle.wire_io.proofs.Faults.{broken_below}
use Rattle.bmp_message.specs.State.{opens_of}
use Rattle.bmp_message.proofs.makes.WithEffectsMakes.in_forms.Goals as goal

pub returns-in_err-update-clause-broken : goal.returns-in_err-update-clause-broken
returns-in_err-update-clause-broken c =
    let p = err_from_is_err_and c.from_residual.result c.from_residual.ensures.1 in
    rw (p.1, p.2)
    (λ broken. subst (λ (i : PeerInfoValue). (taken : FormsValue) (u : UpdateValue) → IsLenientUpdate (opens_of i) c.args.head.now c.args.rest.now c.args.last.now taken u → ⊥) c.deref.ensures
    (c.in_err-update.ensures.broken (broken_below _ broken)))
