use Rattle.std.proofs.Common.{sym, ap}
use Rattle.std.specs.Option.{option_map}
use Rattle.bmp_specs.specs.StatKind.{kind_of}
use Rattle.stats_book.specs.Stats.{stats_at}
use Rattle.query_eval.specs.Told.{stat_lines}
use Rattle.query_eval.proofs.Leading.{leads_begin, leads_on_line, leads_failed_line, leads_end}
use Rattle.query_eval.proofs.PeerSteps.{fewer}
use Rattle.query_eval.proofs.StatSteps.{next_kind}
use Rattle.query_eval.proofs.Walking.{none_left}
use Rattle.query_eval.proofs.stats.put_book.Goals as goal

pub loop-stat-init : goal.loop-stat-init
loop-stat-init g c = leads_begin _ _

pub returns-in_err-put_stat-clause-lines : goal.returns-in_err-put_stat-clause-lines
returns-in_err-put_stat-clause-lines g c =
    leads_failed_line _ _ _ _ _ _ _ _ _ _ c.loop-stat.invariant c.in_err-put_stat.ensures c.from_residual.ensures.0
    (ap (stat_lines c.args.lane c.args.key.now) (next_kind (option_map kind_of c.loop-stat.place) (stats_at c.args.book.now c.args.key.now) _ c.next_stat.ensures.ordered c.in-Some.ensures.first))

pub loop-stat-smaller : goal.loop-stat-smaller
loop-stat-smaller g c = fewer _ _ _ (next_kind (option_map kind_of c.loop-stat.place) (stats_at c.args.book.now c.args.key.now) _ c.next_stat.ensures.ordered c.in-Some.ensures.first)

pub loop-stat-preserved : goal.loop-stat-preserved
loop-stat-preserved g c =
    leads_on_line _ _ _ _ _ _ _ _ _ c.loop-stat.invariant c.in_ok-put_stat.ensures
    (ap (stat_lines c.args.lane c.args.key.now) (next_kind (option_map kind_of c.loop-stat.place) (stats_at c.args.book.now c.args.key.now) _ c.next_stat.ensures.ordered c.in-Some.ensures.first))
    c.saturating_add-count.ensures

pub returns-clause-lines : goal.returns-clause-lines
returns-clause-lines g c = leads_end _ _ _ _ _ c.loop-stat.invariant (ap (stat_lines c.args.lane c.args.key.now) (none_left _ (sym c.in_default.ensures.first)))
