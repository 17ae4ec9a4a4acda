use Rattle.std.proofs.Common.{◌∙◌, ◌∷◌, [], List, length, ap, arith, length-append}
use Rattle.station_run.specs.Handed.{link_shows}
use Rattle.station_run.proofs.Returning.{return_link}
use Rattle.station_run.proofs.doors.give_links.Goals as goal

pub loop-link-preserved : goal.loop-link-preserved
loop-link-preserved g c = record {
  back = return_link (link_shows g.Y.Link.Sink.aside g.Y.Link.Sink.told g.Y.Link.Sink.faults) _ _ _ _ _ _ _ c.in-Some.link c.loop-link.invariant.back c.in-Some.ensures.items c.take_link.ensures.told;
  few = omega (arith, c.loop-link.invariant.few, ap (λ (l : List g.row.Y-Link.Denot). length l) c.in-Some.ensures.items, length-append c.pop.new.self.items (c.in-Some.link ∷ []));
  calls = c.take_link.ensures.rest.calls ∙ c.loop-link.invariant.calls;
  faults = c.take_link.ensures.calm ∙ c.loop-link.invariant.faults;
  listened = c.take_link.ensures.rest.listened ∙ c.loop-link.invariant.listened;
  endings = c.take_link.ensures.rest.endings ∙ c.loop-link.invariant.endings;
  ending = c.take_link.ensures.rest.ending ∙ c.loop-link.invariant.ending;
}
