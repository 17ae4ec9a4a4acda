use Rattle.std.specs.Option.{option_map}
use Rattle.bmp_specs.proofs.OrderLaws.{nlri_total, nlri_exact}
use Rattle.bmp_specs.specs.Orders.{nlri_cmp}
use Rattle.route_runs.specs.Places.{shown}
use Rattle.route_runs.proofs.Left.{walked_on, walked_from, ended_on, ended_from, none_exactly}
use Rattle.route_runs.proofs.walk.Walk.next.Goals as goal

pub returns-in-None-clause-next : goal.returns-in-None-clause-next
returns-in-None-clause-next c =
    walked_on nlri_cmp nlri_total nlri_exact c.self.inside.from c.self.inside.cursor c.next.new.self c.args.self.now (option_map shown c.next.result) c.self.view_is c.in-None.is c.next.ensures.ordered c.next.ensures.first c.next.ensures.place c.next.ensures.pairs

pub returns-in-None-clause-none : goal.returns-in-None-clause-none
returns-in-None-clause-none c =
    none_exactly shown c.next.result c.args.self.now _ (returns-in-None-clause-next c) (ended_on nlri_cmp nlri_total nlri_exact c.self.inside.from c.self.inside.cursor c.args.self.now (option_map shown c.next.result) c.self.view_is c.in-None.is c.next.ensures.first)

pub returns-in-Some-clause-next : goal.returns-in-Some-clause-next
returns-in-Some-clause-next c =
    walked_from nlri_cmp nlri_total nlri_exact c.self.inside.from c.in-Some.nlri c.self.inside.cursor c.from.new.self c.args.self.now (option_map shown c.from.result) c.self.view_is c.in-Some.is c.from.ensures.ordered c.from.ensures.first c.from.ensures.place c.from.ensures.pairs

pub returns-in-Some-clause-none : goal.returns-in-Some-clause-none
returns-in-Some-clause-none c =
    none_exactly shown c.from.result c.args.self.now _ (returns-in-Some-clause-next c) (ended_from nlri_cmp nlri_total nlri_exact c.self.inside.from c.in-Some.nlri c.self.inside.cursor c.args.self.now (option_map shown c.from.result) c.self.view_is c.in-Some.is c.from.ensures.first)
