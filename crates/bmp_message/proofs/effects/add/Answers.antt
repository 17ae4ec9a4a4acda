use Rattle.std.proofs.Common.{ap, ◌∙◌}
use Rattle.rib_model.specs.Effects.{effect_values}
use Rattle.rib_model.proofs.Items.{values_more}
use Rattle.bmp_message.proofs.effects.add.Goals as goal

pub returns-clause-effects : goal.returns-clause-effects
returns-clause-effects c = ap effect_values c.in_ok-push.ensures.ok ∙ values_more c.args.effects.now c.args.effect
