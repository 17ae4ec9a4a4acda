use Rattle.std.proofs.Common.{◌∙◌, ◌∷◌, [], List, length, refl, ap, arith, length-append}
use Rattle.std.proofs.lemmas.List.{length-reverse}
use Rattle.station_run.proofs.Returning.{return_more, return_none}
use Rattle.station_run.proofs.doors.give_ports.Goals as goal

pub loop-port-init : goal.loop-port-init
loop-port-init g c = record {
  back = return_none g.Y.Port.Port.aside _ _ _ c.reverse.ensures.items;
  few = omega (arith, c.requires.few, length-reverse c.args.ports.items, ap (λ (l : List g.row.Y-Port.Denot). length l) c.reverse.ensures.items);
  calls = refl;
  faults = refl;
  listened = refl;
  endings = refl;
  ending = refl;
}

pub loop-port-preserved : goal.loop-port-preserved
loop-port-preserved g c = record {
  back = return_more g.Y.Port.Port.aside _ _ _ _ _ _ _ c.in-Some.port c.loop-port.invariant.back c.in-Some.ensures.items c.take_port.ensures.told;
  few = omega (arith, c.loop-port.invariant.few, ap (λ (l : List g.row.Y-Port.Denot). length l) c.in-Some.ensures.items, length-append c.pop.new.self.items (c.in-Some.port ∷ []));
  calls = c.take_port.ensures.rest.calls ∙ c.loop-port.invariant.calls;
  faults = c.take_port.ensures.calm ∙ c.loop-port.invariant.faults;
  listened = c.take_port.ensures.rest.listened ∙ c.loop-port.invariant.listened;
  endings = c.take_port.ensures.rest.endings ∙ c.loop-port.invariant.endings;
  ending = c.take_port.ensures.rest.ending ∙ c.loop-port.invariant.ending;
}
