use Rattle.std.proofs.Common.{◌-◌, map}
use Rattle.ask_specs.specs.AskReply.{told_change}
use Rattle.router_tables.specs.Tables.{steps_told}
use Rattle.query_eval.specs.RowChanges.{kept_changes}
use Rattle.query_eval.proofs.Leading.{LeadsTo}
use Rattle.query_eval.proofs.changes.put_kept_changes.Given as goal

abbrev pub invariant-loop-found : goal.invariant-loop-found
invariant-loop-found g l = LeadsTo g.O.Sink.faults g.O.Sink.told g.O.Sink.aside l.fn.out l.out l.count (map (told_change l.full l.lane) (kept_changes (steps_told l.recent) l.next l.prefix)) (map (told_change l.full l.lane) (kept_changes (steps_told l.recent) l.from l.prefix))

abbrev pub decreases-loop-found : goal.decreases-loop-found
decreases-loop-found g l = l.recent.total - l.next
