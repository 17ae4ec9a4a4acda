use Rattle.std.proofs.Common.{◌≡◌, ◌∙◌, ◌<◌, length, map, take, set, ap, arith, rules, add-one}
use Rattle.std.specs.Arc.{arc_value}
use Rattle.route_runs.proofs.Contents.{map_replaced}
use Rattle.route_runs.proofs.runs.replace.Goals as goal

pub returns-clause-ok : goal.returns-clause-ok
returns-clause-ok g c =
    let len : c.len.result ≡ length c.args.runs.now.items = search rules in
    let lt : c.args.kept < length c.args.runs.now.items = omega (arith, len, c.requires, c.if-kept-len.false) in
    ap (map arc_value) (c.truncate.ensures.items ∙ ap (λ n. take n (set c.args.runs.now.items c.args.kept c.args.own)) (add-one c.args.kept)) ∙ map_replaced arc_value c.args.runs.now.items c.args.kept c.args.own lt
