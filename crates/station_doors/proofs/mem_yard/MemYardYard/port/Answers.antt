use Rattle.std.proofs.Common.{◌≡◌, ◌<◌, ◌∷◌, ◌∙◌, rules, length, sym, ap, map, Some, List, ℕ}
use Rattle.std.specs.List.{Contains}
use Rattle.station_doors.specs.MemPort.{MemPortValue}
use Rattle.station_doors.specs.MemYard.{plan_of, tells_of}
use Rattle.station_doors.proofs.Lent.{handed}
use Rattle.station_doors.proofs.mem_yard.MemYardYard.port.Goals as goal

pub returns-clause-told : goal.returns-clause-told
returns-clause-told g c =
    let no : (Contains c.self.inside.fails.items c.self.inside.calls → ⊥) = search (rules, c.contains.ensures.cases, c.contains.ensures.value, c.if-contains.false, c.deref.ensures) in
    let some : 0 < length c.self.inside.ports.items = search rules in
    let first = handed c.self.inside.ports.items c.remove-port.result some c.self.invariant.0 in
    let port = c.remove-port.result in
    let is = rw (← c.remove-port.ensures.value) at first in
    let lent : c.insert.new.self.items ≡ c.args.lane ∷ c.self.inside.out.items = search rules in
    let left = c.remove-port.ensures.items in
    rw (← c.self.view_is) (no, plan_of port, map plan_of c.remove-port.new.self.items, is.0 ∙ ap (λ (l : List MemPortValue). plan_of port ∷ map plan_of l) (sym left), ap (λ (l : List ℕ). Some (tells_of c.remove-port.new.self.items c.self.inside.links.items c.self.inside.fails.items l c.self.inside.links_out.items c.self.inside.back.items c.self.inside.links_back.items c.self.inside.files.items c.self.inside.disks.items)) lent, is.1.0, is.1.1)
