use Rattle.std.proofs.Common.{map, sym}
use Rattle.std.specs.Arc.{arc_value}
use Rattle.route_runs.specs.Places.{turned}
use Rattle.route_runs.specs.Runs.{latest}
use Rattle.route_runs.proofs.Searching.{turned_total, turned_exact, passed_none, none_first, passed_more, fewer_left}
use Rattle.route_runs.proofs.back.last_live.Goals as goal

pub loop-key-init : goal.loop-key-init
loop-key-init g c = passed_none (turned g.K.Ord.cmp) (turned_total g.K.Ord.cmp g.met.K.Ord.total g.met.K.RunKey.exact) (turned_exact g.K.Ord.cmp g.met.K.RunKey.exact) (λ q. latest g.K.Ord.cmp q (map arc_value c.args.runs.now)) c.args.place

pub loop-key-smaller : goal.loop-key-smaller
loop-key-smaller g c = fewer_left g.K.Ord.cmp g.met.K.RunKey.exact (turned g.K.Ord.cmp) (turned_total g.K.Ord.cmp g.met.K.Ord.total g.met.K.RunKey.exact) (turned_exact g.K.Ord.cmp g.met.K.RunKey.exact) (map arc_value c.args.runs.now) c.loop-key.at c.in-Some.key c.in-Some.ensures

pub loop-key-preserved : goal.loop-key-preserved
loop-key-preserved g c = passed_more (turned g.K.Ord.cmp) (turned_total g.K.Ord.cmp g.met.K.Ord.total g.met.K.RunKey.exact) (turned_exact g.K.Ord.cmp g.met.K.RunKey.exact) (λ q. latest g.K.Ord.cmp q (map arc_value c.args.runs.now)) c.args.place c.loop-key.at c.loop-key.invariant c.in-Some.key c.in-Some.ensures (sym c.in_default-live_in.ensures)

pub returns-in_default : goal.returns-in_default
returns-in_default g c = none_first (turned g.K.Ord.cmp) (turned_total g.K.Ord.cmp g.met.K.Ord.total g.met.K.RunKey.exact) (turned_exact g.K.Ord.cmp g.met.K.RunKey.exact) (λ q. latest g.K.Ord.cmp q (map arc_value c.args.runs.now)) c.args.place c.loop-key.at c.loop-key.invariant c.in_default.ensures
