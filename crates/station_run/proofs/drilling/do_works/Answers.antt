use Rattle.station_run.proofs.Drilled.{drill_done, drill_ready}
use Rattle.station_run.proofs.drilling.do_works.Goals as goal

pub do_all-requires-after_bounds : goal.do_all-requires-after_bounds
do_all-requires-after_bounds g c κs within = let (seed, messages, lanes, begin) = c.requires.begin in drill_ready seed messages g.J.Naming.site lanes c.args.tasks.items begin

pub returns : goal.returns
returns g c = λ seed messages lanes begin. c.in_ok-take_apart.ensures seed messages g.J.Naming.site lanes (drill_done seed messages g.J.Naming.site lanes c.args.tasks.items c.do_all.new.tasks.items begin c.do_all.ensures)
