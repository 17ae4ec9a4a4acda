-- The effects that a list of items stands for, as it grows.
use Rattle.std.proofs.Common.{◌≡◌, ℕ, ◌+◌, ◌<◌, List, [], ◌∷◌, ◌++◌, length, take, get_or, sym, ap, ◌∙◌}
use Rattle.std.proofs.lemmas.List.{flat_map_more, take_more}
use Rattle.rib_model.specs.Effects.{effect_values, item_values}
use Rattle.rib_model.specs.declared.effect.Effect.{Effect}

-- an item more
pub values_more : (items : List Effect) (item : Effect) → effect_values (items ++ item ∷ []) ≡ effect_values items ++ item_values item
values_more items item = sym (flat_map_more item_values [] items item)

-- one of a list more
pub values_taken : (items : List Effect) (i : ℕ) (d : Effect) → i < length items → effect_values (take (i + 1) items) ≡ effect_values (take i items) ++ item_values (get_or items i d)
values_taken items i d within = ap effect_values (take_more items i d within) ∙ values_more (take i items) (get_or items i d)
