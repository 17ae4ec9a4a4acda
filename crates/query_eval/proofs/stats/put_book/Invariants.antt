use Rattle.std.proofs.Common.{length}
use Rattle.std.specs.Option.{option_map}
use Rattle.bmp_specs.specs.StatKind.{kind_cmp, kind_of}
use Rattle.stats_book.specs.Stats.{stats_at}
use Rattle.query_eval.specs.Later.{later}
use Rattle.query_eval.specs.Told.{stat_lines}
use Rattle.query_eval.proofs.Leading.{LeadsTo}
use Rattle.query_eval.proofs.stats.put_book.Given as goal

abbrev pub invariant-loop-stat : goal.invariant-loop-stat
invariant-loop-stat g l = LeadsTo g.O.Sink.faults g.O.Sink.told g.O.Sink.aside l.fn.out l.out l.count (stat_lines l.lane l.key (later kind_cmp (option_map kind_of l.place) (stats_at l.book l.key))) (stat_lines l.lane l.key (stats_at l.book l.key))

abbrev pub decreases-loop-stat : goal.decreases-loop-stat
decreases-loop-stat g l = length (later kind_cmp (option_map kind_of l.place) (stats_at l.book l.key))
