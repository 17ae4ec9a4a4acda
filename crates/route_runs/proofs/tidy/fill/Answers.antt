use Rattle.std.proofs.Common.{◌≡◌, ◌∙◌, ◌+◌, ◌*◌, ◌<◌, ◌++◌, ◌∷◌, [], Some, length, map, ap, sym, subst, arith, rules}
use Rattle.std.specs.Arc.{arc_value}
use Rattle.std.proofs.lemmas.List.{length-map, map-append}
use Rattle.route_runs.specs.Rows.{sets_of}
use Rattle.route_runs.specs.Gathering.{Adds}
use Rattle.route_runs.proofs.Renaming.{filled}
use Rattle.route_runs.proofs.tidy.fill.Goals as goal

pub returns : goal.returns
returns g c =
    let packs = sets_of c.args.out.now.packs.items in
    let now = map arc_value c.args.out.now.now.items in
    let p : length packs ≡ c.len-pack.result = length-map c.args.out.now.packs.items _ ∙ search rules in
    let n : length now ≡ c.len-place.result = length-map c.args.out.now.now.items (arc_value {X = _}) ∙ search rules in
    let room : length now < 4096 = omega (arith, c.requires, length-map c.args.out.now.now.items (arc_value {X = _})) in
    let few : length packs < 1048574 = omega (arith, p, c.if-pack-ge1048574.false) in
    let items : c.push.new.self.items ≡ c.args.out.now.now.items ++ c.args.set ∷ [] = search rules in
    let grown : map arc_value c.push.new.self.items ≡ now ++ arc_value c.args.set ∷ [] = ap (map arc_value) items ∙ map-append arc_value c.args.out.now.now.items (c.args.set ∷ []) in
    subst (λ l. Adds (packs ++ now ∷ []) (packs ++ l ∷ []) (Some (arc_value c.args.set)) (c.len-pack.result * 4096 + c.len-place.result)) (sym grown)
    (filled packs now (arc_value c.args.set) (c.len-pack.result * 4096 + c.len-place.result) room few (omega (arith, p, n)))
