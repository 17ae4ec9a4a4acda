use Rattle.std.proofs.Common.{◌≡◌, take}
use Rattle.std.specs.Prelude.{sum_by}
use Rattle.bmp_specs.specs.Counts.{parts_in}
use Rattle.bmp_specs.specs.Reply.{told_count}
use Rattle.rib_model.specs.Effects.{effect_values}
use Rattle.stats_book.proofs.passed.count_parts.Given as goal

abbrev pub invariant-loop-effect : goal.invariant-loop-effect
invariant-loop-effect l = l.parts ≡ told_count (sum_by parts_in (effect_values (take l.effect-index l.effects)))
