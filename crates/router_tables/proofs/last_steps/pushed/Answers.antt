use Rattle.std.proofs.Common.{List, ◌++◌, ◌∙◌, ap, append-nil, arith, sym, take}
use Rattle.bmp_specs.specs.Steps.{steps_of}
use Rattle.bmp_specs.specs.Values.{EntryValue}
use Rattle.recent_ring.specs.Recent.{recent}
use Rattle.rib_model.specs.Entries.{entry_values}
use Rattle.router_tables.proofs.EntrySteps.{more_entries}
use Rattle.router_tables.proofs.StepCopies.{told_copy}
use Rattle.router_tables.proofs.last_steps.pushed.Goals as goal

pub loop-entry-init : goal.loop-entry-init
loop-entry-init c so_far was = told_copy _ _ c.in_ok-steps.ensures ∙ was ∙ ap (λ (l : List EntryValue). recent (steps_of l)) (sym (append-nil so_far))

pub loop-entry-preserved : goal.loop-entry-preserved
loop-entry-preserved c so_far was =
    let entries = c.args.entries.now in
    let i = c.loop-entry.entry-index in
    c.in_ok-keep_steps.ensures (so_far ++ entry_values (take i entries)) (c.loop-entry.invariant so_far was)
    ∙ ap (λ (l : List EntryValue). recent (steps_of l)) (more_entries so_far entries i c.entry-item.result (omega arith) c.entry-item.is)
