use Rattle.std.proofs.Common.{◌<◌, List, map, arith, ap}
use Rattle.ask_specs.specs.AskReply.{told_change}
use Rattle.bmp_specs.specs.Changes.{ChangeValue}
use Rattle.route_watch.specs.Watch.{change_of}
use Rattle.query_eval.proofs.Leading.{leads_on_line, leads_failed_line, leads_end}
use Rattle.query_eval.proofs.RowChangeLaws.{kept_below, next_kept, none_kept}
use Rattle.query_eval.proofs.changes.put_kept_changes.Goals as goal

pub returns-in_err-put_told_change : goal.returns-in_err-put_told_change
returns-in_err-put_told_change g c =
    leads_failed_line c.args.out.now c.loop-found.out c.put_told_change.new.out _ _ _ _ _ _ c.from_residual.result c.loop-found.invariant c.in_err-put_told_change.ensures c.from_residual.ensures.0
    (ap (λ (l : List ChangeValue). map (told_change c.args.full c.args.lane) l) (next_kept c.args.recent.now c.args.prefix.now c.loop-found.next (change_of c.in-Some.found) c.in-Some.ensures))

pub overflow_add-next : goal.overflow_add-next
overflow_add-next g c =
    let below : c.in-Some.found.0 < c.args.recent.now.total = kept_below c.args.recent.now c.args.prefix.now c.loop-found.next (change_of c.in-Some.found) c.total-total.ensures.kept c.in-Some.ensures.0 in
    omega (arith, below, c.total-total.ensures.total)

pub loop-found-smaller : goal.loop-found-smaller
loop-found-smaller g c =
    let below : c.in-Some.found.0 < c.args.recent.now.total = kept_below c.args.recent.now c.args.prefix.now c.loop-found.next (change_of c.in-Some.found) c.total-total.ensures.kept c.in-Some.ensures.0 in
    omega (arith, below, c.in-Some.ensures.0.later)

pub loop-found-preserved : goal.loop-found-preserved
loop-found-preserved g c =
    leads_on_line c.args.out.now c.loop-found.out c.put_told_change.new.out _ _ _ _ _ _ c.loop-found.invariant c.in_ok-put_told_change.ensures
    (ap (λ (l : List ChangeValue). map (told_change c.args.full c.args.lane) l) (next_kept c.args.recent.now c.args.prefix.now c.loop-found.next (change_of c.in-Some.found) c.in-Some.ensures))
    c.saturating_add-count.ensures

pub returns : goal.returns
returns g c =
    leads_end c.args.out.now c.loop-found.out _ _ _ c.loop-found.invariant
    (ap (λ (l : List ChangeValue). map (told_change c.args.full c.args.lane) l) (none_kept c.args.recent.now c.args.prefix.now c.loop-found.next c.in_default.ensures))
