use Rattle.std.proofs.Common.{subst}
use Rattle.bmp_specs.specs.LenientBody.{IsLenientUpdate}
use Rattle.bmp_specs.specs.UpdateForms.{FormsValue}
use Rattle.bmp_specs.specs.Values.{PeerInfoValue, UpdateValue}
use Rattle.bmp_message.specs.State.{opens_of}
use Rattle.bmp_message.proofs.makes.WithoutEffectsMakes.in_forms.Goals as goal

pub returns-in-None-clause-broken : goal.returns-in-None-clause-broken
returns-in-None-clause-broken c _ =
    subst (λ (i : PeerInfoValue). (taken : FormsValue) (u : UpdateValue) → IsLenientUpdate (opens_of i) c.args.head.now c.args.rest.now c.args.last.now taken u → ⊥) c.deref.ensures c.in-None.ensures.none
