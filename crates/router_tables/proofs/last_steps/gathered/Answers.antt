use Rattle.std.proofs.Common.{◌-◌, [], ◌∙◌, ap, arith, drop, length, map, take}
use Rattle.bmp_specs.specs.Steps.{steps_in, steps_of}
use Rattle.rib_model.specs.Entries.{entry_value, entry_values}
use Rattle.rib_model.specs.Steps.{step_value}
use Rattle.router_tables.proofs.GatheredSteps.{entries_more, gathered_more, left_more}
use Rattle.router_tables.proofs.last_steps.gathered.Goals as goal

pub loop-entry-preserved : goal.loop-entry-preserved
loop-entry-preserved c =
    let entries = c.args.entries.now in
    let i = c.loop-entry.entry-index in
    let all = steps_of (entry_values (take i entries)) in
    let next = steps_in (entry_value c.entry-item.result) in
    let more = entries_more entries i c.entry-item.result (omega arith) c.entry-item.is in
    record {
      left = left_more all next c.args.passed c.loop-entry.left c.in_ok-left.left c.loop-entry.invariant.left c.in_ok-left.ensures.left ∙ ap (λ l. c.args.passed - length l) more;
      steps = gathered_more [] (map step_value c.loop-entry.steps.items) (map step_value c.gather_entry.new.steps.items) all next c.args.passed c.loop-entry.left
          c.loop-entry.invariant.steps c.loop-entry.invariant.left c.in_ok-left.ensures.steps ∙ ap (λ l. drop c.args.passed l) more;
    }
