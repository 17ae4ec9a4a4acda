-- Steps that are alike are told alike.
use Rattle.std.proofs.Common.{◌≡◌}
use Rattle.recent_ring.specs.Recent.{RecentValue, IsCopy}
use Rattle.recent_ring.proofs.Copies.{shown_copy}
use Rattle.rib_model.specs.declared.step.Step.{Step}
use Rattle.rib_model.specs.Steps.{step_value}
use Rattle.router_tables.specs.Tables.{steps_told}

pub told_copy : (r s : RecentValue Step) → IsCopy (λ x y. step_value y ≡ step_value x) r s → steps_told s ≡ steps_told r
told_copy r s copy = let items = shown_copy (λ x y. step_value y ≡ step_value x) step_value (λ x y h. h) r s copy in λ i. record { total = copy.total i; items = items i }
