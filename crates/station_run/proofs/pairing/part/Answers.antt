use Rattle.std.proofs.Common.{◌≡◌, ◌∙◌, ◌++◌, ◌∷◌, [], List, length, ap, arith}
use Rattle.station_run.specs.Pairing.{ask_passes, asks_of, lanes_of, passes}
use Rattle.station_run.specs.declared.tasks.Task.{Task}
use Rattle.station_run.proofs.Taking.{is_all, link_fits, none_left, part_ask, part_lane, parted, parting_none, port_fits}
use Rattle.station_run.proofs.pairing.part.Goals as goal

pub loop-task-init : goal.loop-task-init
loop-task-init g c = record {
  parting = parting_none _ _ _ _ _ _ _ c.reverse.ensures.items c.requires.doors.0 c.requires.doors.1 c.requires.passes.0 c.requires.passes.1;
  room = omega arith;
  links_room = omega arith;
}

pub place-requires : goal.place-requires
place-requires g c =
    let last = c.in-Some.ensures.items ∙ ap (λ (t : Task g.row.B.Denot g.row.P.Denot g.row.K.Denot). c.pop.new.self.items ++ t ∷ []) c.in-Lane.is in
    let fits = port_fits _ _ _ _ _ _ _ _ c.in-Lane.work c.loop-task.invariant.parting last in
    omega (arith, fits, c.loop-task.doors.ok, c.requires.room.0, c.loop-task.invariant.room)

pub loop-task-preserved-in-Lane : goal.loop-task-preserved-in-Lane
loop-task-preserved-in-Lane g c =
    let last = c.in-Some.ensures.items ∙ ap (λ (t : Task g.row.B.Denot g.row.P.Denot g.row.K.Denot). c.pop.new.self.items ++ t ∷ []) c.in-Lane.is in
    record {
      parting = part_lane _ _ _ _ _ _ _ _ _ _ _ c.in-Lane.work c.loop-task.invariant.parting last c.place.ensures.items c.keep_feed-kept.ensures;
      room = omega (arith, c.loop-task.invariant.room, c.place.ensures.capacity);
      links_room = c.loop-task.invariant.links_room;
    }

pub place-requires-in-Ask : goal.place-requires-in-Ask
place-requires-in-Ask g c =
    let last = c.in-Some.ensures.items ∙ ap (λ (t : Task g.row.B.Denot g.row.P.Denot g.row.K.Denot). c.pop.new.self.items ++ t ∷ []) c.in-Ask.is in
    let fits = link_fits _ _ _ _ _ _ _ _ c.in-Ask.work c.loop-task.invariant.parting last in
    omega (arith, fits, c.loop-task.ask_doors.ok, c.requires.room.1, c.loop-task.invariant.links_room)

pub loop-task-preserved : goal.loop-task-preserved
loop-task-preserved g c =
    let last = c.in-Some.ensures.items ∙ ap (λ (t : Task g.row.B.Denot g.row.P.Denot g.row.K.Denot). c.pop.new.self.items ++ t ∷ []) c.in-Ask.is in
    record {
      parting = part_ask _ _ _ _ _ _ _ _ _ _ _ c.in-Ask.work c.loop-task.invariant.parting last c.place-in-Ask.ensures.items c.keep_ask-kept.ensures;
      room = c.loop-task.invariant.room;
      links_room = omega (arith, c.loop-task.invariant.links_room, c.place-in-Ask.ensures.capacity);
    }

pub returns-clause-kept : goal.returns-clause-kept
returns-clause-kept g c = λ kept.
    let none : length c.loop-task.tasks.items ≡ 0 = omega (arith, c.in_default.ensures.cases.0, c.loop-task.tasks.ok) in
    let p = parted _ _ _ _ _ _ _ c.loop-task.invariant.parting (none_left c.loop-task.tasks.items none) in
    let all = is_all _ _ _ _ _ _ p in
    (p.feeds_are kept ∙ ap (λ (l : List (Task g.row.B.Denot g.row.P.Denot g.row.K.Denot)). passes (lanes_of l)) all, p.asks_are kept ∙ ap (λ (l : List (Task g.row.B.Denot g.row.P.Denot g.row.K.Denot)). ask_passes (asks_of l)) all)
