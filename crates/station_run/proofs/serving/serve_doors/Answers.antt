use Rattle.std.proofs.Common.{◌∙◌, List, ap, arith}
use Rattle.station_run.specs.Pairing.{ends, lanes_of, outcome_of}
use Rattle.station_run.specs.declared.tasks.Task.{Task}
use Rattle.station_run.proofs.Runs.{are_ready, as_many_askers, as_many_lanes, asks_begin, have_served, lanes_begin}
use Rattle.station_run.proofs.serving.serve_doors.Goals as goal

pub do_all-requires-after_bounds : goal.do_all-requires-after_bounds
do_all-requires-after_bounds g c κs within =
    let (first, fresh, seated) = c.requires.asks in
    let lanes = lanes_begin g.J.Naming.site _ _ _ _ _ _ c.pair.new.tasks.items c.requires.feeds c.pair.ensures.pairs in
    let askers = asks_begin g.J.Naming.site _ _ _ first _ _ _ c.pair.new.tasks.items fresh seated c.pair.ensures.pairs in
    are_ready g.J.Naming.site _ c.pair.new.tasks.items lanes askers

pub part-kept-requires-clause-room : goal.part-kept-requires-clause-room
part-kept-requires-clause-room g c =
    let lanes = as_many_lanes g.B.BodyReading.meaning g.P.FeedPort.aside g.K.Sink.aside g.K.Sink.told g.K.Sink.faults _ _ _ _ _ c.pair.new.tasks.items c.do_all.new.tasks.items c.pair.ensures.pairs c.do_all.ensures in
    let askers = as_many_askers g.B.BodyReading.meaning g.P.FeedPort.aside g.K.Sink.aside g.K.Sink.told g.K.Sink.faults _ _ _ _ _ c.pair.new.tasks.items c.do_all.new.tasks.items c.pair.ensures.pairs c.do_all.ensures in
    (omega (arith, lanes, c.requires.ports, c.pair.ensures.capacity.0), omega (arith, askers, c.requires.links, c.pair.ensures.capacity.1))

pub returns : goal.returns
returns g c =
    let (first, fresh, seated) = c.requires.asks in
    let lanes = lanes_begin g.J.Naming.site _ c.args.rounds _ _ _ _ c.pair.new.tasks.items c.requires.feeds c.pair.ensures.pairs in
    let askers = asks_begin g.J.Naming.site _ c.args.rounds _ first _ _ _ c.pair.new.tasks.items fresh seated c.pair.ensures.pairs in
    let outcome = c.outcome_after-outcome.ensures ∙ ap (λ (l : List (Task g.row.B.Denot g.row.P.Denot g.row.K.Denot)). outcome_of (ends (lanes_of l))) c.as_slice.ensures.value in
    have_served g.B.BodyReading.meaning g.P.FeedPort.aside g.K.Sink.aside g.K.Sink.told g.K.Sink.faults g.J.Naming.site c.args.rounds _ _ _ _ _ _ _ _ c.pair.new.tasks.items c.do_all.new.tasks.items c.part-kept.result c.outcome_after-outcome.result lanes askers c.pair.ensures.pairs c.do_all.ensures outcome c.part-kept.ensures.ports c.part-kept.ensures.links c.part-kept.ensures.kept
