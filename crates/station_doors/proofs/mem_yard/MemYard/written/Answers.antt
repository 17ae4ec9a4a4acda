use Rattle.std.proofs.Common.{◌∙◌, ap}
use Rattle.station_doors.specs.declared.mem_yard.LinkBack.{LinkBack}
use Rattle.station_doors.proofs.Lent.{wrote, wrote_none}
use Rattle.station_doors.proofs.mem_yard.MemYard.written.Goals as goal

pub returns-in-Some : goal.returns-in-Some
returns-in-Some g c = rw (← c.self.view_is) (c.taken.ensures ∙ ap (λ (b : LinkBack). b.link.written) c.index.ensures ∙ wrote c.args.number c.self.inside.links_back.items c.in-Some.place c.index.result.now (rw (← c.as_slice.ensures.value, ← c.in-Some.is) c.place_by.ensures.place))

pub returns-in-None : goal.returns-in-None
returns-in-None g c = rw (← c.self.view_is) (wrote_none c.args.number c.self.inside.links_back.items (rw (← c.as_slice.ensures.value) c.in-None.ensures.none))
