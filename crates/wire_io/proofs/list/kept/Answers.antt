use Rattle.std.proofs.Common.{◌∷◌, [], false, true, refl}
use Rattle.wire_io.proofs.Called.{called_at}
use Rattle.wire_io.proofs.list.kept.Goals as goal

pub returns-then-keep : goal.returns-then-keep
returns-then-keep g c = rw c.in-Err.ensures.one (true ∷ [], c.keep.new.self, refl, (c.keep.new.self, called_at _ _ _ _ _ _ c.keep.ensures c.if-keep.true, refl), refl)

pub returns-in-Err : goal.returns-in-Err
returns-in-Err g c = rw c.in-Err.ensures.one (false ∷ [], c.keep.new.self, refl, (c.keep.new.self, called_at _ _ _ _ _ _ c.keep.ensures c.if-keep.false, refl), c.new.ensures.items)
