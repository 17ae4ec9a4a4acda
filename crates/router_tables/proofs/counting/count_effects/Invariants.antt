use Rattle.std.proofs.Common.{◌≡◌, ℕ, List, ◌++◌, take}
use Rattle.bmp_specs.specs.Counts.{CountsValue}
use Rattle.bmp_specs.specs.Sums.{sum_of, message_counts}
use Rattle.bmp_specs.specs.Values.{EffectValue}
use Rattle.rib_model.specs.Effects.{effect_values}
use Rattle.router_tables.proofs.counting.count_effects.Given as goal

abbrev pub invariant-loop-effect : goal.invariant-loop-effect
invariant-loop-effect l = (before : CountsValue) (len : ℕ) (earlier : List EffectValue) → l.fn.counts ≡ sum_of before (message_counts len earlier)
    → l.counts ≡ sum_of before (message_counts len (earlier ++ effect_values (take l.effect-index l.effects)))
