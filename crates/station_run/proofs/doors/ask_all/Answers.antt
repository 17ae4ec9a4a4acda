use Rattle.std.proofs.Common.{◌≡◌, ◌+◌, ◌<◌, ◌∷◌, ◌++◌, [], ℕ, List, Ok, Err, length, refl, sym, ap, ◌∙◌, subst, arith, length-append}
use Rattle.station_doors.specs.Doors.{HandsOut, HandsOutLink, one_more}
use Rattle.station_run.specs.Handed.{Lends, LendsButRefuses, call_after, link_shows, listening, asking, asking_link, numbered, numbered_links}
use Rattle.station_run.proofs.Handing.{call_next, lends_none, lends_port, lends_link, listen_refused, port_refused, link_refused, length-numbered}
use Rattle.station_run.proofs.doors.ask_all.Goals as goal

pub returns-in_default-clause-refused : goal.returns-in_default-clause-refused
returns-in_default-clause-refused g c =
    let shows = link_shows g.Y.Link.Sink.aside g.Y.Link.Sink.told g.Y.Link.Sink.faults in
    let none = listen_refused c.args.at.now (g.Y.LaneYard.seen c.args.yard.now).told (g.Y.LaneYard.seen c.listen.new.self).told (g.Y.LaneYard.seen c.args.yard.now).calls c.in_default.field-0 c.in_default.ensures.told in
    let none_handed = subst (λ (l : List g.row.Y-Port.Denot). LendsButRefuses c.args.at.now (g.Y.LaneYard.seen c.args.yard.now).told (g.Y.LaneYard.seen c.listen.new.self).told (g.Y.LaneYard.seen c.args.yard.now).calls 0 (numbered g.Y.Port.Port.aside 0 l) []) (sym c.requires.ports.0) none in (
      0,
      listening refl (ap (λ (l : List g.row.Y-Port.Denot). length l) c.requires.ports.0) (ap (λ (l : List g.row.Y-Link.Denot). length l) c.requires.links.0),
      subst (λ (l : List g.row.Y-Link.Denot). LendsButRefuses c.args.at.now (g.Y.LaneYard.seen c.args.yard.now).told (g.Y.LaneYard.seen c.listen.new.self).told (g.Y.LaneYard.seen c.args.yard.now).calls 0 (numbered g.Y.Port.Port.aside 0 c.args.ports.now.items) (numbered_links shows 0 l)) (sym c.requires.links.0) none_handed,
      c.in_default.ensures.calls,
    )

pub returns-in_default-clause-listened : goal.returns-in_default-clause-listened
returns-in_default-clause-listened g c = c.in_default.ensures.listened

pub loop-lane-init : goal.loop-lane-init
loop-lane-init g c = record {
  ports = ap (λ (l : List g.row.Y-Port.Denot). length l) c.requires.ports.0;
  links = c.requires.links.0;
  lends = subst (λ (l : List g.row.Y-Port.Denot). Lends (g.Y.LaneYard.seen c.args.yard.now).told (g.Y.LaneYard.seen c.listen.new.self).told (g.Y.LaneYard.seen c.args.yard.now).calls 1 (numbered g.Y.Port.Port.aside 0 l) []) (sym c.requires.ports.0) (lends_none (g.Y.LaneYard.seen c.args.yard.now).told (g.Y.LaneYard.seen c.listen.new.self).told (g.Y.LaneYard.seen c.args.yard.now).calls c.in-Ok.ensures.told);
  calls = c.in-Ok.ensures.calls;
  faults = c.in-Ok.ensures.cause.fine;
  listened = c.in-Ok.ensures.listened;
  endings = c.in-Ok.ensures.endings;
  ending = c.in-Ok.ensures.ending;
  room = omega arith;
  links_room = omega arith;
}

pub returns-in_default-port-clause-refused : goal.returns-in_default-port-clause-refused
returns-in_default-port-clause-refused g c =
    let shows = link_shows g.Y.Link.Sink.aside g.Y.Link.Sink.told g.Y.Link.Sink.faults in
    let l = c.loop-lane in
    let inv = l.invariant in
    let calls = (g.Y.LaneYard.seen c.args.yard.now).calls in
    let few : length (numbered g.Y.Port.Port.aside 0 l.ports.items) < c.args.at.now.feeds = omega (arith, length-numbered g.Y.Port.Port.aside 0 l.ports.items, inv.ports, c.loop-lane-test.true) in
    let asked = subst (λ (n : ℕ). HandsOut g.Y.Port.Port.aside g.Y.Port.Port.calls l.lane n (g.Y.LaneYard.seen l.yard).told (g.Y.LaneYard.seen c.port.new.self).told (Err c.in_default-port.field-0)) inv.calls c.in_default-port.ensures.told in
    let refused = port_refused g.Y.Port.Port.aside g.Y.Port.Port.calls c.args.at.now (g.Y.LaneYard.seen c.args.yard.now).told (g.Y.LaneYard.seen l.yard).told (g.Y.LaneYard.seen c.port.new.self).told calls (1 + l.lane) l.lane (numbered g.Y.Port.Port.aside 0 l.ports.items) [] c.in_default-port.field-0 inv.lends (omega arith) few asked in (
      1 + l.lane,
      asking (ap (λ (k : ℕ). 1 + k) (sym inv.ports)) (omega (arith, inv.ports, c.loop-lane-test.true)) (ap (λ (l : List g.row.Y-Link.Denot). length l) inv.links),
      subst (λ (k : List g.row.Y-Link.Denot). LendsButRefuses c.args.at.now (g.Y.LaneYard.seen c.args.yard.now).told (g.Y.LaneYard.seen c.port.new.self).told calls (1 + l.lane) (numbered g.Y.Port.Port.aside 0 l.ports.items) (numbered_links shows 0 k)) (sym inv.links) refused,
      c.in_default-port.ensures.counted.calls ∙ ap (λ (n : ℕ). one_more n) inv.calls ∙ call_next calls (1 + l.lane),
    )

pub loop-lane-preserved : goal.loop-lane-preserved
loop-lane-preserved g c =
    let l = c.loop-lane in
    let inv = l.invariant in
    let calls = (g.Y.LaneYard.seen c.args.yard.now).calls in
    let more : (1 + l.lane) + 1 ≡ 1 + (l.lane + 1) = omega arith in
    let asked = subst (λ (n : ℕ). HandsOut g.Y.Port.Port.aside g.Y.Port.Port.calls l.lane n (g.Y.LaneYard.seen l.yard).told (g.Y.LaneYard.seen c.port.new.self).told (Ok c.in-Ok-port.port)) inv.calls c.in-Ok-port.ensures.told in
    let placed = c.place.ensures.items in
    let lends = lends_port g.Y.Port.Port.aside g.Y.Port.Port.calls (g.Y.LaneYard.seen c.args.yard.now).told (g.Y.LaneYard.seen l.yard).told (g.Y.LaneYard.seen c.port.new.self).told calls (1 + l.lane) l.lane l.ports.items c.in-Ok-port.port [] inv.lends (sym inv.ports) asked in
    record {
      ports = omega (arith, inv.ports, ap (λ (l : List g.row.Y-Port.Denot). length l) placed, length-append l.ports.items (c.in-Ok-port.port ∷ []));
      links = inv.links;
      lends = subst (λ (k : List g.row.Y-Port.Denot). Lends (g.Y.LaneYard.seen c.args.yard.now).told (g.Y.LaneYard.seen c.port.new.self).told calls (1 + (l.lane + 1)) (numbered g.Y.Port.Port.aside 0 k) []) (sym placed)
          (subst (λ (n : ℕ). Lends (g.Y.LaneYard.seen c.args.yard.now).told (g.Y.LaneYard.seen c.port.new.self).told calls n (numbered g.Y.Port.Port.aside 0 (l.ports.items ++ c.in-Ok-port.port ∷ [])) []) more lends);
      calls = c.in-Ok-port.ensures.counted.calls ∙ ap (λ (n : ℕ). one_more n) inv.calls ∙ call_next calls (1 + l.lane) ∙ ap (λ (n : ℕ). call_after calls n) more;
      faults = c.in-Ok-port.ensures.cause.fine ∙ inv.faults;
      listened = c.in-Ok-port.ensures.counted.listened ∙ inv.listened;
      endings = c.in-Ok-port.ensures.counted.endings ∙ inv.endings;
      ending = c.in-Ok-port.ensures.counted.ending ∙ inv.ending;
      room = omega (arith, inv.room, c.place.ensures.capacity);
      links_room = inv.links_room;
    }

pub returns-in_default-link-clause-refused : goal.returns-in_default-link-clause-refused
returns-in_default-link-clause-refused g c =
    let shows = link_shows g.Y.Link.Sink.aside g.Y.Link.Sink.told g.Y.Link.Sink.faults in
    let l = c.loop-number in
    let inv = l.invariant in
    let calls = (g.Y.LaneYard.seen c.args.yard.now).calls in
    let before : ℕ = 1 + (c.args.at.now.feeds + l.number) in
    let all : length (numbered g.Y.Port.Port.aside 0 c.loop-lane.ports.items) ≡ c.args.at.now.feeds = length-numbered g.Y.Port.Port.aside 0 c.loop-lane.ports.items ∙ inv.ports in
    let asked = subst (λ (n : ℕ). HandsOutLink g.Y.Link.Sink.aside g.Y.Link.Sink.told g.Y.Link.Sink.faults g.Y.Link.Link.calls l.number n (g.Y.LaneYard.seen l.yard).told (g.Y.LaneYard.seen c.link.new.self).told (Err c.in_default-link.field-0)) inv.calls c.in_default-link.ensures.told in
    let refused = link_refused g.Y.Link.Sink.aside g.Y.Link.Sink.told g.Y.Link.Sink.faults g.Y.Link.Link.calls c.args.at.now (g.Y.LaneYard.seen c.args.yard.now).told (g.Y.LaneYard.seen l.yard).told (g.Y.LaneYard.seen c.link.new.self).told calls before l.number (numbered g.Y.Port.Port.aside 0 c.loop-lane.ports.items) (numbered_links shows 0 l.links.items) c.in_default-link.field-0 inv.lends (omega arith) all asked in (
      before,
      asking_link (ap (λ (k : ℕ). 1 + (c.args.at.now.feeds + k)) (sym inv.links)) inv.ports (omega (arith, inv.links, c.loop-number-test.true)),
      refused,
      c.in_default-link.ensures.counted.calls ∙ ap (λ (n : ℕ). one_more n) inv.calls ∙ call_next calls before,
    )

pub loop-number-preserved : goal.loop-number-preserved
loop-number-preserved g c =
    let shows = link_shows g.Y.Link.Sink.aside g.Y.Link.Sink.told g.Y.Link.Sink.faults in
    let l = c.loop-number in
    let inv = l.invariant in
    let calls = (g.Y.LaneYard.seen c.args.yard.now).calls in
    let before : ℕ = 1 + (c.args.at.now.feeds + l.number) in
    let more : before + 1 ≡ 1 + (c.args.at.now.feeds + (l.number + 1)) = omega arith in
    let asked = subst (λ (n : ℕ). HandsOutLink g.Y.Link.Sink.aside g.Y.Link.Sink.told g.Y.Link.Sink.faults g.Y.Link.Link.calls l.number n (g.Y.LaneYard.seen l.yard).told (g.Y.LaneYard.seen c.link.new.self).told (Ok c.in-Ok-link.link)) inv.calls c.in-Ok-link.ensures.told in
    let lends = lends_link g.Y.Link.Sink.aside g.Y.Link.Sink.told g.Y.Link.Sink.faults g.Y.Link.Link.calls (g.Y.LaneYard.seen c.args.yard.now).told (g.Y.LaneYard.seen l.yard).told (g.Y.LaneYard.seen c.link.new.self).told calls before l.number l.links.items c.in-Ok-link.link (numbered g.Y.Port.Port.aside 0 c.loop-lane.ports.items) inv.lends (sym inv.links) asked in
    record {
      ports = inv.ports;
      links = omega (arith, inv.links, ap (λ (l : List g.row.Y-Link.Denot). length l) c.place-in-loop-number.ensures.items, length-append l.links.items (c.in-Ok-link.link ∷ []));
      lends = subst (λ (k : List g.row.Y-Link.Denot). Lends (g.Y.LaneYard.seen c.args.yard.now).told (g.Y.LaneYard.seen c.link.new.self).told calls (1 + (c.args.at.now.feeds + (l.number + 1))) (numbered g.Y.Port.Port.aside 0 c.loop-lane.ports.items) (numbered_links shows 0 k)) (sym c.place-in-loop-number.ensures.items)
          (subst (λ (n : ℕ). Lends (g.Y.LaneYard.seen c.args.yard.now).told (g.Y.LaneYard.seen c.link.new.self).told calls n (numbered g.Y.Port.Port.aside 0 c.loop-lane.ports.items) (numbered_links shows 0 (l.links.items ++ c.in-Ok-link.link ∷ []))) more lends);
      calls = c.in-Ok-link.ensures.counted.calls ∙ ap (λ (n : ℕ). one_more n) inv.calls ∙ call_next calls before ∙ ap (λ (n : ℕ). call_after calls n) more;
      faults = c.in-Ok-link.ensures.cause.fine ∙ inv.faults;
      listened = c.in-Ok-link.ensures.counted.listened ∙ inv.listened;
      endings = c.in-Ok-link.ensures.counted.endings ∙ inv.endings;
      ending = c.in-Ok-link.ensures.counted.ending ∙ inv.ending;
      room = inv.room;
      links_room = omega (arith, inv.links_room, c.place-in-loop-number.ensures.capacity);
    }
