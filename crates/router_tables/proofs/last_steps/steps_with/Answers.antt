use Rattle.bmp_specs.specs.Steps.{steps_of}
use Rattle.rib_model.specs.Entries.{entry_values}
use Rattle.router_tables.proofs.GatheredSteps.{entries_told, passed_fits}
use Rattle.router_tables.proofs.last_steps.steps_with.Goals as goal

pub returns : goal.returns
returns c so_far was =
    let steps = steps_of (entry_values c.args.entries.now) in
    let fits = passed_fits c.count_entries-count.result c.saturating_sub-passed.result steps c.count_entries-count.ensures c.saturating_sub-passed.ensures in
    entries_told c.args.before.now c.in_ok-steps.steps c.in_ok-last.last.items c.saturating_sub-passed.result c.args.entries.now c.in_ok-last.ensures fits
    c.in_ok-steps.ensures.items c.in_ok-steps.ensures.total c.in_ok-steps.ensures.short so_far was
