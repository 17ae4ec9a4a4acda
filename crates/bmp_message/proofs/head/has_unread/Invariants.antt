use Rattle.std.proofs.Common.{◌≡◌, take, nat_lt}
use Rattle.std.specs.Prelude.{sum_by}
use Rattle.bmp_specs.specs.Counts.{parts_in}
use Rattle.rib_model.specs.Effects.{effect_values}
use Rattle.bmp_message.proofs.head.has_unread.Given as goal

abbrev pub invariant-loop-item : goal.invariant-loop-item
invariant-loop-item l = l.found ≡ nat_lt 0 (sum_by parts_in (effect_values (take l.item-index l.items)))
