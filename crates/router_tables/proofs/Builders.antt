-- A router's tables in the making, with more entries taken.
use Rattle.std.proofs.Common.{◌≡◌, List, ◌++◌, subst}
use Rattle.bmp_specs.specs.Session.{session_effects}
use Rattle.bmp_specs.specs.Values.{EffectValue, EntryValue}
use Rattle.router_tables.specs.Building.{AreLate, BuilderValue, Builds}
use Rattle.router_tables.specs.Pending.{RowsValue, StandsForRows}
use Rattle.router_tables.specs.Taken.{AreTaken}

-- what was gathered may be made or not
pub built_more : (old new : BuilderValue) (rows : RowsValue) (given more : List EntryValue) → given ≡ more
    → ((so_far : List EntryValue) → AreTaken old.session old.rows so_far → AreTaken new.session rows (so_far ++ given)) → ((effects : List EffectValue) → StandsForRows rows effects → StandsForRows new.rows effects)
    → ((so_far : List EntryValue) → AreLate old.steps so_far → AreLate new.steps (so_far ++ more)) → (so_far : List EntryValue) → Builds old so_far → Builds new (so_far ++ more)
built_more old new rows given more same takes makes late so_far h =
    let now : AreTaken new.session rows (so_far ++ more) = subst (λ (l : List EntryValue). AreTaken new.session rows (so_far ++ l)) same (takes so_far (record { session = h.session; rows = h.rows })) in
    record { session = now.session; rows = makes (session_effects (so_far ++ more)) now.rows; steps = late so_far h.steps }
