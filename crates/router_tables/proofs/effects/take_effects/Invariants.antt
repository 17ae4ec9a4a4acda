use Rattle.std.proofs.Common.{List, ◌++◌, take}
use Rattle.bmp_specs.specs.Values.{EffectValue}
use Rattle.rib_model.specs.Effects.{effect_values}
use Rattle.router_tables.specs.Books.{StandsForBooks}
use Rattle.router_tables.specs.Pending.{StandsForRows}
use Rattle.router_tables.proofs.effects.take_effects.Given as goal

abbrev pub invariant-loop-effect : goal.invariant-loop-effect
invariant-loop-effect l = record {
  books : (earlier : List EffectValue) → StandsForBooks l.fn.books earlier → StandsForBooks l.books (earlier ++ effect_values (take l.effect-index l.effects));
  rows : (earlier : List EffectValue) → StandsForBooks l.fn.books earlier → StandsForRows l.fn.rows earlier → StandsForRows l.rows (earlier ++ effect_values (take l.effect-index l.effects));
}
