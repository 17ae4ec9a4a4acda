use Rattle.std.proofs.Common.{◌≡◌, ◌↔◌, true, map, take}
use Rattle.bmp_specs.specs.PeerUp.{IsUp}
use Rattle.plain_model.specs.Values.{key_value, effect_value}
use Rattle.plain_model.proofs.table.is_up.Given as goal

abbrev pub invariant-loop-effect : goal.invariant-loop-effect
invariant-loop-effect l = (l.up ≡ true) ↔ IsUp (map effect_value (take l.effect-index l.effects)) (key_value l.peer)
