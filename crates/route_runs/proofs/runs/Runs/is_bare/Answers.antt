use Rattle.std.proofs.Common.{◌≡◌, ◌∙◌, length, map, get_or, ap, sym, rules, arith}
use Rattle.std.proofs.lemmas.Bool.Decides.{nat_tests}
use Rattle.std.proofs.lemmas.List.{length-map}
use Rattle.std.specs.Arc.{arc_value}
use Rattle.route_runs.proofs.Contents.{at_mapped}
use Rattle.route_runs.proofs.Counting.{no_run, bare_run}
use Rattle.route_runs.proofs.runs.Runs.is_bare.Goals as goal

pub returns-then-len-eq1 : goal.returns-then-len-eq1
returns-then-len-eq1 g c t =
    let runs = c.self.inside.runs.items in
    let first = c.index.result.now in
    let len : c.len.result ≡ length runs = search rules in
    let one : length (map arc_value runs) ≡ 1 = length-map runs arc_value ∙ sym len ∙ c.if-len-eq1.true in
    let is : c.deref.result.now ≡ get_or (map arc_value runs) 0 c.deref.result.now = c.deref.ensures ∙ ap arc_value c.index.ensures ∙ sym (at_mapped arc_value runs 0 first) ∙ ap (λ d. get_or (map arc_value runs) 0 d) (sym c.deref.ensures) in
    let none : length c.deref.result.now ≡ 0 = grind (arith, nat_tests, t, c.len-then-len-eq1.ensures) in
    sym c.self.view_is ∙ bare_run g.K.Ord.cmp (map arc_value runs) c.deref.result.now one is none

pub returns : goal.returns
returns g c t =
    let runs = c.self.inside.runs.items in
    let none : c.len-2.result ≡ 0 = grind (arith, nat_tests, t) in
    let len : c.len-2.result ≡ length runs = search rules in
    sym c.self.view_is ∙ no_run g.K.Ord.cmp (map arc_value runs) (length-map runs arc_value ∙ sym len ∙ none)
