-- Effects as values, without the place of their parts in memory.
use Rattle.std.specs.Prelude.{List, [], ◌∷◌, map}
use Rattle.std.specs.Arc.{arc_value}
use Rattle.std.specs.List.{flat_map}
use Rattle.bmp_specs.specs.Values.{EffectValue, up, down, announce, withdraw, mark, statistic, named, described, orphan, mirrored, passed, unread}
use Rattle.rib_model.specs.declared.effect.Effect.{Effect}
use Rattle.rib_model.specs.declared.effect.Effect.TheVariants.{Up, Down, Announce, Withdraw, Mark, Statistic, Name, Descr, Orphan, Mirrored, Passed, Unread}

-- the effects that an item of a list stands for: one on each of its prefixes, or one
abbrev pub item_values : Effect → List EffectValue
item_values (Up key info) = up key (arc_value info) ∷ []
item_values (Down key info) = down key info ∷ []
item_values (Announce key view nlris route) = map (λ nlri. announce key view nlri (arc_value route)) nlris
item_values (Withdraw key view nlris) = map (λ nlri. withdraw key view nlri) nlris
item_values (Mark key view family) = mark key view family ∷ []
item_values (Statistic key stat) = statistic key stat ∷ []
item_values (Name bytes) = named bytes ∷ []
item_values (Descr bytes) = described bytes ∷ []
item_values Orphan = orphan ∷ []
item_values Mirrored = mirrored ∷ []
item_values Passed = passed ∷ []
item_values (Unread parts) = unread parts ∷ []

-- those that a list stands for, in order
abbrev pub effect_values : List Effect → List EffectValue
effect_values effects = flat_map item_values effects
