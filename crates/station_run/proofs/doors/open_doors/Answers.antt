use Rattle.std.proofs.Common.{◌∙◌, ℕ, length, sym, subst}
use Rattle.station_run.specs.Handed.{FailsAt, link_shows, numbered, numbered_links}
use Rattle.station_run.proofs.Handing.{length-numbered, length-numbered_links}
use Rattle.station_run.proofs.Returning.{refused_back}
use Rattle.station_run.proofs.doors.open_doors.Goals as goal

pub returns-in-Err-clause-refused : goal.returns-in-Err-clause-refused
returns-in-Err-clause-refused g c =
    let shows = link_shows g.Y.Link.Sink.aside g.Y.Link.Sink.told g.Y.Link.Sink.faults in
    let ps = c.ask_all.new.ports.items in
    let ks = c.ask_all.new.links.items in
    let (before, fails, told, calls) = c.in-Err.ensures.refused in
    let at_links = subst (λ (n : ℕ). FailsAt c.args.at.now before n (length ks)) (sym (length-numbered g.Y.Port.Port.aside 0 ps)) fails in (
      before,
      record {
        ports = numbered g.Y.Port.Port.aside 0 ps;
        links = numbered_links shows 0 ks;
        fails = subst (λ (n : ℕ). FailsAt c.args.at.now before (length (numbered g.Y.Port.Port.aside 0 ps)) n) (sym (length-numbered_links shows 0 ks)) at_links;
        told = refused_back c.args.at.now (g.Y.LaneYard.seen c.args.yard.now).told (g.Y.LaneYard.seen c.ask_all.new.yard).told (g.Y.LaneYard.seen c.give_back.new.yard).told (g.Y.LaneYard.seen c.args.yard.now).calls before (numbered g.Y.Port.Port.aside 0 ps) (numbered_links shows 0 ks) told c.give_back.ensures.told;
      },
      c.give_back.ensures.rest.calls ∙ calls,
    )
