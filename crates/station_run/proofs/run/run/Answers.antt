use Rattle.std.proofs.Common.{◌∙◌, ℕ, List, Option, Ok, Err, map, refl, sym, ap, subst, arith}
use Rattle.cut_publisher.specs.History.{Site}
use Rattle.std.specs.Arc.{arc_value}
use Rattle.cut_publisher.specs.Cuts.{total}
use Rattle.router_tables.specs.Tables.{TablesValue}
use Rattle.station_doors.specs.Doors.{KeepsEnding, YardValue, one_more}
use Rattle.station_run.specs.Handed.{AllComeBack, link_shows, numbered, numbered_links}
use Rattle.station_run.specs.Serve.{done_line, ready_line, refused, unready, unfinished, finished, undone}
use Rattle.station_run.specs.Served.{end_of}
use Rattle.station_run.specs.declared.outcome.Outcome.TheVariants.{WriteFault, YardFault}
use Rattle.wire_io.proofs.Joins.{appends_then, join}
use Rattle.station_run.proofs.Handing.{length-numbered, length-numbered_links}
use Rattle.station_run.proofs.Runs.{is_served}
use Rattle.station_run.proofs.Ends.{answers, answers_not, as_many_back, as_many_links_back, ask_runs_are, asks_are_of, asks_of_site, by_runs, feeds_of_site, gives_back, keeps_self, no_memory_write, no_memory_yard, not_write, not_yard, runs_are, serves_all, write_yard}
use Rattle.station_run.proofs.run.run.Goals as goal

pub name-publisher-requires-clause-asks : goal.name-publisher-requires-clause-asks
name-publisher-requires-clause-asks g c = asks_are_of _ _ _ _ c.requires.opened.asks_are c.requires.named

pub returns-in_default-clause-comes : goal.returns-in_default-clause-comes
returns-in_default-clause-comes g c =
    let (before, refuses, calls) = c.in_default.ensures.refused in
    refused before refl refuses calls c.in_default.ensures.listened c.in_default.ensures.none (keeps_self (g.O.Sink.told c.args.out.now))

pub returns-in_default-clause-yard : goal.returns-in_default-clause-yard
returns-in_default-clause-yard g c = answers _ _ YardFault c.in_default.ensures.cause.failed

pub returns-in_default-put_ready-clause-comes : goal.returns-in_default-put_ready-clause-comes
returns-in_default-put_ready-clause-comes g c =
    let shows = link_shows g.Y.Link.Sink.aside g.Y.Link.Sink.told g.Y.Link.Sink.faults in
    let ps = numbered g.Y.Port.Port.aside 0 c.in-Ok.doors.ports.items in
    let ks = numbered_links shows 0 c.in-Ok.doors.links.items in
    let o = c.in-Ok.ensures in
    let b = c.give_back.ensures in
    unready ps ks refl (gives_back c.args.at.now _ (g.Y.LaneYard.seen c.open_doors.new.yard) _ ps ps ks ks
    o.listened o.calls (length-numbered g.Y.Port.Port.aside 0 c.in-Ok.doors.ports.items ∙ o.asked.0) (length-numbered_links shows 0 c.in-Ok.doors.links.items ∙ o.asked.1) o.lends b.rest.listened b.rest.calls refl refl b.told)
    (record { endings = b.rest.endings ∙ o.none.endings; last = b.rest.ending ∙ o.none.last }) c.in_default-put_ready.ensures.front

pub returns-in_default-put_ready-clause-out : goal.returns-in_default-put_ready-clause-out
returns-in_default-put_ready-clause-out g c = answers _ _ WriteFault c.in_default-put_ready.ensures.cause.failed

pub returns-in_default-put_ready-clause-yard : goal.returns-in_default-put_ready-clause-yard
returns-in_default-put_ready-clause-yard g c = answers_not _ _ _ _ write_yard (c.give_back.ensures.calm ∙ c.in-Ok.ensures.cause.fine)

pub give_back-requires-2-clause-few : goal.give_back-requires-2-clause-few
give_back-requires-2-clause-few g c κs within =
    let shows = link_shows g.Y.Link.Sink.aside g.Y.Link.Sink.told g.Y.Link.Sink.faults in
    let s = c.serve_doors-outcome.ensures in
    let ports = as_many_back _ _ _ _ _ _ _ _ _ _ _ s in
    let links = as_many_links_back _ _ _ _ _ _ _ _ _ _ _ s in (
      omega (arith, ports, length-numbered g.Y.Port.Port.aside 0 c.in-Ok.doors.ports.items, length-numbered g.Y.Port.Port.aside 0 c.serve_doors-outcome.new.ports.items, c.in-Ok.ensures.asked.0, c.requires.few.0),
      omega (arith, links, length-numbered_links shows 0 c.in-Ok.doors.links.items, length-numbered_links shows 0 c.serve_doors-outcome.new.links.items, c.in-Ok.ensures.asked.1, c.requires.few.1),
    )

pub returns-then-not-kept-clause-comes : goal.returns-then-not-kept-clause-comes
returns-then-not-kept-clause-comes g c =
    let shows = link_shows g.Y.Link.Sink.aside g.Y.Link.Sink.told g.Y.Link.Sink.faults in
    let s = c.serve_doors-outcome.ensures in
    let o = c.in-Ok.ensures in
    let b = c.give_back-2.ensures in
    unfinished refl (serves_all _ _ _ _ _ _ _ _ _ _ _ s c.args.at.now _ _ (sym (ap (λ (x : Site). x.lanes) c.requires.named) ∙ c.requires.opened.wide) (gives_back c.args.at.now _ (g.Y.LaneYard.seen c.open_doors.new.yard) _ _ _ _ _
    o.listened o.calls (length-numbered g.Y.Port.Port.aside 0 c.in-Ok.doors.ports.items ∙ o.asked.0) (length-numbered_links shows 0 c.in-Ok.doors.links.items ∙ o.asked.1) o.lends b.rest.listened b.rest.calls
    (as_many_back _ _ _ _ _ _ _ _ _ _ _ s) (as_many_links_back _ _ _ _ _ _ _ _ _ _ _ s) b.told))
    (record { endings = b.rest.endings ∙ o.none.endings; last = b.rest.ending ∙ o.none.last }) c.in-Ok-put_ready.ensures.whole

pub returns-then-not-kept-clause-out : goal.returns-then-not-kept-clause-out
returns-then-not-kept-clause-out g c = answers_not _ _ _ _ no_memory_write c.in-Ok-put_ready.ensures.cause.fine

pub returns-then-not-kept-clause-yard : goal.returns-then-not-kept-clause-yard
returns-then-not-kept-clause-yard g c = answers_not _ _ _ _ no_memory_yard (c.give_back-2.ensures.calm ∙ c.in-Ok.ensures.cause.fine)

pub finish-requires-clause-feeds : goal.finish-requires-clause-feeds
finish-requires-clause-feeds g c = feeds_of_site _ _ _ _ _ _ _ _ _ _ _ c.serve_doors-outcome.ensures c.if-not-kept.false

pub finish-requires-clause-asks : goal.finish-requires-clause-asks
finish-requires-clause-asks g c = asks_of_site _ _ _ _ _ _ _ _ _ _ _ c.serve_doors-outcome.ensures c.if-not-kept.false

pub returns-in-Ok-put_done-clause-comes : goal.returns-in-Ok-put_done-clause-comes
returns-in-Ok-put_done-clause-comes g c =
    let shows = link_shows g.Y.Link.Sink.aside g.Y.Link.Sink.told g.Y.Link.Sink.faults in
    let s = c.serve_doors-outcome.ensures in
    let o = c.in-Ok.ensures in
    let b = c.give_back-2.ensures in
    let t = c.take_ending.ensures in
    let ports_count = length-numbered g.Y.Port.Port.aside 0 c.in-Ok.doors.ports.items ∙ o.asked.0 in
    let links_count = length-numbered_links shows 0 c.in-Ok.doors.links.items ∙ o.asked.1 in
    let told = subst (λ (y : Option YardValue). AllComeBack (g.Y.LaneYard.seen c.open_doors.new.yard).told y (numbered g.Y.Port.Port.aside 0 c.serve_doors-outcome.new.ports.items) (numbered_links shows 0 c.serve_doors-outcome.new.links.items)) (sym t.told) b.told in
    let writes = join {faults = g.O.Sink.faults} {told = g.O.Sink.told} {aside = g.O.Sink.aside} c.args.out.now c.put_ready.new.out c.put_done.new.out ready_line (done_line c.rev-rev.result) _ c.in-Ok-put_ready.field-0 (Ok c.in-Ok-put_done.field-0) c.in-Ok-put_ready.ensures c.in-Ok-put_done.ensures refl in
    finished c.rev-rev.result (record {
      runs = s.runs;
      ask_runs = s.ask_runs;
      cut = arc_value c.in-Ok-finish.ending.cut;
      feeds = c.in-Ok-finish.ending.feeds;
      asks = c.in-Ok-finish.ending.asks;
      back = by_runs _ _ _ _ _ _ _ _ _ _ _ s c.args.at.now _ _ (gives_back c.args.at.now _ (g.Y.LaneYard.seen c.open_doors.new.yard) _ _ _ _ _
          o.listened o.calls ports_count links_count o.lends (t.listened ∙ b.rest.listened) (t.calls ∙ b.rest.calls) (as_many_back _ _ _ _ _ _ _ _ _ _ _ s) (as_many_links_back _ _ _ _ _ _ _ _ _ _ _ s) told);
      served = is_served g.B.BodyReading.meaning c.args.rounds c.args.at.now.feeds c.args.at.now.askers g.J.Naming.site s.runs s.ask_runs (arc_value c.in-Ok-finish.ending.cut) _ c.in-Ok-finish.ending.feeds _ c.in-Ok-finish.ending.asks c.rev-rev.result
          (sym (ap (λ (x : Site). x.lanes) c.requires.named) ∙ c.requires.opened.wide) (runs_are _ _ _ _ _ _ _ _ _ _ _ s ∙ ports_count) (ask_runs_are _ _ _ _ _ _ _ _ _ _ _ s ∙ links_count)
          s.lanes s.askers (s.feeds_are c.if-not-kept.false) (s.asks_are c.if-not-kept.false) c.in-Ok-finish.ensures (c.rev-rev.ensures ∙ ap (λ (x : List (TablesValue × ℕ)). total x) c.deref.ensures);
      ending = c.of.result;
      shows = c.of.ensures;
      takes = record { endings = t.endings ∙ ap (λ (n : ℕ). one_more n) (b.rest.endings ∙ o.none.endings); last = subst (λ (y : Option YardValue). KeepsEnding y c.of.result (g.Y.LaneYard.seen c.take_ending.new.self).last_ending) (sym t.told) t.ending };
      outcome_is = s.outcome_is;
    }) writes.whole

pub returns-in-Ok-put_done-clause-out : goal.returns-in-Ok-put_done-clause-out
returns-in-Ok-put_done-clause-out g c =
    let s = c.serve_doors-outcome.ensures in
    answers_not _ _ _ _ (λ e. not_write (map end_of s.runs) (sym s.outcome_is ∙ e)) (c.in-Ok-put_done.ensures.cause.fine ∙ c.in-Ok-put_ready.ensures.cause.fine)

pub returns-in-Ok-put_done-clause-yard : goal.returns-in-Ok-put_done-clause-yard
returns-in-Ok-put_done-clause-yard g c =
    let s = c.serve_doors-outcome.ensures in
    answers_not _ _ _ _ (λ e. not_yard (map end_of s.runs) (sym s.outcome_is ∙ e)) (c.take_ending.ensures.calm ∙ c.give_back-2.ensures.calm ∙ c.in-Ok.ensures.cause.fine)

pub returns-in-Err-clause-comes : goal.returns-in-Err-clause-comes
returns-in-Err-clause-comes g c =
    let shows = link_shows g.Y.Link.Sink.aside g.Y.Link.Sink.told g.Y.Link.Sink.faults in
    let s = c.serve_doors-outcome.ensures in
    let o = c.in-Ok.ensures in
    let b = c.give_back-2.ensures in
    let t = c.take_ending.ensures in
    let ports_count = length-numbered g.Y.Port.Port.aside 0 c.in-Ok.doors.ports.items ∙ o.asked.0 in
    let links_count = length-numbered_links shows 0 c.in-Ok.doors.links.items ∙ o.asked.1 in
    let told = subst (λ (y : Option YardValue). AllComeBack (g.Y.LaneYard.seen c.open_doors.new.yard).told y (numbered g.Y.Port.Port.aside 0 c.serve_doors-outcome.new.ports.items) (numbered_links shows 0 c.serve_doors-outcome.new.links.items)) (sym t.told) b.told in
    undone c.rev-rev.result c.serve_doors-outcome.result.0 refl (record {
      runs = s.runs;
      ask_runs = s.ask_runs;
      cut = arc_value c.in-Ok-finish.ending.cut;
      feeds = c.in-Ok-finish.ending.feeds;
      asks = c.in-Ok-finish.ending.asks;
      back = by_runs _ _ _ _ _ _ _ _ _ _ _ s c.args.at.now _ _ (gives_back c.args.at.now _ (g.Y.LaneYard.seen c.open_doors.new.yard) _ _ _ _ _
          o.listened o.calls ports_count links_count o.lends (t.listened ∙ b.rest.listened) (t.calls ∙ b.rest.calls) (as_many_back _ _ _ _ _ _ _ _ _ _ _ s) (as_many_links_back _ _ _ _ _ _ _ _ _ _ _ s) told);
      served = is_served g.B.BodyReading.meaning c.args.rounds c.args.at.now.feeds c.args.at.now.askers g.J.Naming.site s.runs s.ask_runs (arc_value c.in-Ok-finish.ending.cut) _ c.in-Ok-finish.ending.feeds _ c.in-Ok-finish.ending.asks c.rev-rev.result
          (sym (ap (λ (x : Site). x.lanes) c.requires.named) ∙ c.requires.opened.wide) (runs_are _ _ _ _ _ _ _ _ _ _ _ s ∙ ports_count) (ask_runs_are _ _ _ _ _ _ _ _ _ _ _ s ∙ links_count)
          s.lanes s.askers (s.feeds_are c.if-not-kept.false) (s.asks_are c.if-not-kept.false) c.in-Ok-finish.ensures (c.rev-rev.ensures ∙ ap (λ (x : List (TablesValue × ℕ)). total x) c.deref.ensures);
      ending = c.of.result;
      shows = c.of.ensures;
      takes = record { endings = t.endings ∙ ap (λ (n : ℕ). one_more n) (b.rest.endings ∙ o.none.endings); last = subst (λ (y : Option YardValue). KeepsEnding y c.of.result (g.Y.LaneYard.seen c.take_ending.new.self).last_ending) (sym t.told) t.ending };
      outcome_is = s.outcome_is;
    }) (record {
      front = c.in-Err.ensures.front.front;
      back = c.in-Err.ensures.front.back;
      parts = c.in-Err.ensures.front.parts;
      grown = appends_then (g.O.Sink.told c.args.out.now) (g.O.Sink.told c.put_ready.new.out) (g.O.Sink.told c.put_done.new.out) ready_line c.in-Err.ensures.front.front c.in-Ok-put_ready.ensures.whole c.in-Err.ensures.front.grown;
    })

pub returns-in-Err-clause-out : goal.returns-in-Err-clause-out
returns-in-Err-clause-out g c =
    let writes = join {faults = g.O.Sink.faults} {told = g.O.Sink.told} {aside = g.O.Sink.aside} c.args.out.now c.put_ready.new.out c.put_done.new.out ready_line (done_line c.rev-rev.result) _ c.in-Ok-put_ready.field-0 (Err c.in-Err.field-0) c.in-Ok-put_ready.ensures c.in-Err.ensures refl in
    answers _ _ WriteFault writes.cause.failed

pub returns-in-Err-clause-yard : goal.returns-in-Err-clause-yard
returns-in-Err-clause-yard g c = answers_not _ _ _ _ write_yard (c.take_ending.ensures.calm ∙ c.give_back-2.ensures.calm ∙ c.in-Ok.ensures.cause.fine)

pub returns-in-Err-NoMemory-clause-comes : goal.returns-in-Err-NoMemory-clause-comes
returns-in-Err-NoMemory-clause-comes g c =
    let shows = link_shows g.Y.Link.Sink.aside g.Y.Link.Sink.told g.Y.Link.Sink.faults in
    let s = c.serve_doors-outcome.ensures in
    let o = c.in-Ok.ensures in
    let b = c.give_back-2.ensures in
    unfinished refl (serves_all _ _ _ _ _ _ _ _ _ _ _ s c.args.at.now _ _ (sym (ap (λ (x : Site). x.lanes) c.requires.named) ∙ c.requires.opened.wide) (gives_back c.args.at.now _ (g.Y.LaneYard.seen c.open_doors.new.yard) _ _ _ _ _
    o.listened o.calls (length-numbered g.Y.Port.Port.aside 0 c.in-Ok.doors.ports.items ∙ o.asked.0) (length-numbered_links shows 0 c.in-Ok.doors.links.items ∙ o.asked.1) o.lends b.rest.listened b.rest.calls
    (as_many_back _ _ _ _ _ _ _ _ _ _ _ s) (as_many_links_back _ _ _ _ _ _ _ _ _ _ _ s) b.told))
    (record { endings = b.rest.endings ∙ o.none.endings; last = b.rest.ending ∙ o.none.last }) c.in-Ok-put_ready.ensures.whole

pub returns-in-Err-NoMemory-clause-out : goal.returns-in-Err-NoMemory-clause-out
returns-in-Err-NoMemory-clause-out g c = answers_not _ _ _ _ no_memory_write c.in-Ok-put_ready.ensures.cause.fine

pub returns-in-Err-NoMemory-clause-yard : goal.returns-in-Err-NoMemory-clause-yard
returns-in-Err-NoMemory-clause-yard g c = answers_not _ _ _ _ no_memory_yard (c.give_back-2.ensures.calm ∙ c.in-Ok.ensures.cause.fine)
