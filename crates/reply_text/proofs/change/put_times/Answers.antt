use Rattle.std.proofs.Common.{◌≡◌, ℕ, List, ◌++◌, ap, codes, refl}
use Rattle.bmp_specs.specs.Lines.{further}
use Rattle.ask_specs.specs.AskReply.{further_step_fields}
use Rattle.rib_model.specs.declared.step.Step.{Step}
use Rattle.rib_model.specs.declared.step.Step.TheVariants.{Opened, Closed, Up, Down, Announce, Withdraw}
use Rattle.rib_model.specs.Steps.{step_value}
use Rattle.reply_text.proofs.Joining.{writes_same}
use Rattle.reply_text.proofs.change.put_times.Goals as goal

-- a step that announces nothing has no further fields
no_further : (step : Step) → ((key : _) (view : _) (nlri : _) (route : _) → step ≡ Announce key view nlri route → ⊥) → further (further_step_fields (step_value step)) ≡ codes "\n"
no_further Opened no_route = refl
no_further (Closed cause) no_route = refl
no_further (Up key) no_route = refl
no_further (Down key) no_route = refl
no_further (Announce key view nlri route) no_route = absurd (no_route key view nlri route refl)
no_further (Withdraw key view nlri) no_route = refl

pub returns-in_default : goal.returns-in_default
returns-in_default g c = writes_same _ _ _ _ _ c.write_all.ensures (ap (λ (l : List ℕ). codes " seen=- told=-" ++ l) (no_further c.args.step.now c.in_default.not-Announce))
