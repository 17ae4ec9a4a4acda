use Rattle.std.proofs.Common.{refl}
use Rattle.feed_archive.proofs.Kept.{kept_new, exact_new, disk_new, going_new}
use Rattle.feed_archive.proofs.Telling.{tells_new, tells_calm, inner_new, place_new}
use Rattle.feed_archive.proofs.Asked.{plan_new}
use Rattle.feed_archive.proofs.keeping.KeepPort.new.Goals as goal

pub invariant_of-result : goal.invariant_of-result
invariant_of-result g c = rw (c.new.ensures, c.of-made.ensures, c.of-first.ensures) (refl, kept_new _ _, tells_calm _ _ _ (tells_new _), refl, exact_new _ _ _, inner_new _, place_new _ _ (λ e. absurd cc), refl, disk_new _ _ _ _ (λ e. absurd cc), going_new _, plan_new _ _)
