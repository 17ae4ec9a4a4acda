use Rattle.std.proofs.Common.{map}
use Rattle.std.specs.Arc.{arc_value}
use Rattle.std.specs.Option.{option_map}
use Rattle.route_runs.specs.Places.{shown}
use Rattle.route_runs.proofs.Left.{none_exactly}
use Rattle.route_runs.proofs.SiftingRuns.{sift_next, sift_ended}
use Rattle.route_runs.proofs.sift.Sift.next.Goals as goal

pub returns-clause-next : goal.returns-clause-next
returns-clause-next g c =
    sift_next g.K.Ord.cmp g.met.K.Ord.total g.met.K.RunKey.exact (g.T.RouteTest.passes c.self.inside.test.now) (map arc_value c.self.inside.runs.now) c.self.inside.place c.args.self.now (option_map shown c.next_passing_pair-found.result) c.self.view_is c.next_passing_pair-found.ensures.first
    c.place_of_next-self-inside.result c.place_of_next-self-inside.ensures

pub returns-clause-none : goal.returns-clause-none
returns-clause-none g c =
    none_exactly shown c.next_passing_pair-found.result c.args.self.now _ (returns-clause-next g c)
    (sift_ended g.K.Ord.cmp g.met.K.Ord.total g.met.K.RunKey.exact (g.T.RouteTest.passes c.self.inside.test.now) (map arc_value c.self.inside.runs.now) c.self.inside.place c.args.self.now (option_map shown c.next_passing_pair-found.result) c.self.view_is c.next_passing_pair-found.ensures.first)
