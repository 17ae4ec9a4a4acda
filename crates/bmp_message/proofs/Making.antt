-- From the list of the effects to what is made of it.
use Rattle.std.proofs.Common.{◌≡◌, List, Result, Ok, Err, sym, subst, ◌∙◌}
use Rattle.std.specs.Prelude.{IfOk, IsErrOf, IsOkAnd, MatchResult}
use Rattle.bmp_specs.specs.Values.{EffectValue}
use Rattle.rib_model.specs.Effects.{effect_values}
use Rattle.rib_model.specs.declared.effect.Effect.{Effect}
use Rattle.wire_io.specs.declared.fault.BodyFault.{BodyFault}
use Rattle.wire_io.specs.declared.fault.BodyFault.TheVariants.{Broken}
use Rattle.wire_io.proofs.Faults.{broken_below}
use Rattle.bmp_message.specs.Effects.{IsMade}

-- this was made of that list, if there was one
abbrev pub MadeOf : {T : Type 0} → (T → List EffectValue → Type 0) → Result (List Effect) BodyFault → Result T BodyFault → Type 0
MadeOf IsOf given result = MatchResult given (λ list. IsOkAnd result (λ made. IsOf made (effect_values list))) (λ fault. result ≡ Err fault)

pub made_ok : {T S : Type 0} (IsOf : T → List EffectValue → Type 0) (Reads : List EffectValue → S → Type 0) (next : S) (given : Result (List Effect) BodyFault) (result : Result T BodyFault)
    → MadeOf IsOf given result → IfOk given (λ list. Reads (effect_values list) next) → IfOk result (λ made. IsMade IsOf Reads made next)
made_ok IsOf Reads next (Ok list) (Ok made) is has = (effect_values list, is, has)
made_ok IsOf Reads next (Ok list) (Err fault) is has = tt
made_ok IsOf Reads next (Err fault) result e has = subst (λ (r : Result _ BodyFault). IfOk r (λ made. IsMade IsOf Reads made next)) (sym e) tt

pub made_broken : {T X : Type 0} (IsOf : T → List EffectValue → Type 0) (given : Result (List Effect) BodyFault) (result : Result T BodyFault)
    → MadeOf IsOf given result → (IsErrOf given Broken → X) → IsErrOf result Broken → X
made_broken IsOf (Ok list) (Ok made) is none broken = absurd (cc broken)
made_broken IsOf (Ok list) (Err fault) is none broken = absurd is
made_broken IsOf (Err fault) result e none broken = none (broken_below fault (sym e ∙ broken))
