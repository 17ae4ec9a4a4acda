use Rattle.std.proofs.Common.{◌≡◌, ◌<◌, ◌∷◌, ◌∙◌, rules, length, sym, ap, map, Some, List, ℕ}
use Rattle.std.specs.List.{Contains}
use Rattle.station_doors.specs.MemLink.{MemLinkValue}
use Rattle.station_doors.specs.MemYard.{link_plan_of, tells_of}
use Rattle.station_doors.proofs.Lent.{handed_link}
use Rattle.station_doors.proofs.mem_yard.MemYardYard.link.Goals as goal

pub returns-clause-told : goal.returns-clause-told
returns-clause-told g c =
    let no : (Contains c.self.inside.fails.items c.self.inside.calls → ⊥) = search (rules, c.contains.ensures.cases, c.contains.ensures.value, c.if-contains.false, c.deref.ensures) in
    let some : 0 < length c.self.inside.links.items = search rules in
    let first = handed_link c.self.inside.links.items c.remove-link.result some c.self.invariant.1 in
    let link = c.remove-link.result in
    let is = rw (← c.remove-link.ensures.value) at first in
    let lent : c.insert.new.self.items ≡ c.args.number ∷ c.self.inside.links_out.items = search rules in
    let left = c.remove-link.ensures.items in
    rw (← c.self.view_is) (no, link_plan_of link, map link_plan_of c.remove-link.new.self.items, is.0 ∙ ap (λ (l : List MemLinkValue). link_plan_of link ∷ map link_plan_of l) (sym left), ap (λ (l : List ℕ). Some (tells_of c.self.inside.ports.items c.remove-link.new.self.items c.self.inside.fails.items c.self.inside.out.items l c.self.inside.back.items c.self.inside.links_back.items c.self.inside.files.items c.self.inside.disks.items)) lent, record { shown = is.1.0; written = ap (λ (l : List ℕ). Some l) is.1.1; calm = is.1.2; none = is.1.3 })
