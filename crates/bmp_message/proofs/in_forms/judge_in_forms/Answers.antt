use Rattle.std.proofs.Common.{Option, Some, None}
use Rattle.std.specs.Prelude.{IfNone}
use Rattle.bmp_message.specs.State.{opens_of}
use Rattle.bmp_message.proofs.InForms.{no_message, of_body, of_last}
use Rattle.bmp_message.proofs.in_forms.judge_in_forms.Goals as goal

pub returns-in_default-clause-none : goal.returns-in_default-clause-none
returns-in_default-clause-none c = no_message (opens_of c.args.peer.now) c.args.head.now c.args.rest.now c.args.last.now c.in_default.ensures.none

pub returns-then-judge_as_last-clause-some : goal.returns-then-judge_as_last-clause-some
returns-then-judge_as_last-clause-some c =
    let p = c.judge_as_last.ensures c.if-judge_as_last.true in
    (p.0, of_last (opens_of c.args.peer.now) c.args.head.now c.args.rest.now c.args.last.now c.in-Some.body.now c.in-Some.ensures.found p.0 p.1)

if_none_by : {T : Type 0} (X Y : Type 0) (r : Option T) → (X → Y) → IfNone r X → IfNone r Y
if_none_by X Y None f x = f x
if_none_by X Y (Some r) f x = tt

pub returns-clause-none : goal.returns-clause-none
returns-clause-none c =
    if_none_by _ _ c.judge_fitting.result
    (λ none taken u p. none taken u (of_body (opens_of c.args.peer.now) c.args.head.now c.args.rest.now c.args.last.now c.in-Some.body.now c.in-Some.ensures.found taken u p)) c.judge_fitting.ensures.none
