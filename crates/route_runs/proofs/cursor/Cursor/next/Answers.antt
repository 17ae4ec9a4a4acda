use Rattle.std.proofs.Common.{◌∙◌, map, ap, subst}
use Rattle.std.specs.Arc.{arc_value}
use Rattle.std.specs.Option.{option_map}
use Rattle.route_runs.specs.Places.{shown}
use Rattle.route_runs.specs.Runs.{contents}
use Rattle.std.specs.List.Sorted.{IsStrictlySortedBy}
use Rattle.std.specs.Map.{keys_of}
use Rattle.route_runs.proofs.Contents.{rising-contents}
use Rattle.route_runs.proofs.Hints.{walk_first}
use Rattle.route_runs.proofs.cursor.Cursor.next.Goals as goal

pub returns-clause-first : goal.returns-clause-first
returns-clause-first g c =
    walk_first g.K.Ord.cmp g.met.K.Ord.total g.met.K.RunKey.exact (map arc_value c.as_slice.result.now) c.args.self.now c.self.inside.place c.self.inside.runs.now
    (ap (λ w. w.place) c.self.view_is) (ap (λ w. w.pairs) c.self.view_is) (ap (λ l. contents g.K.Ord.cmp (map arc_value l)) c.as_slice.ensures.value ∙ c.runs.view_is) (option_map shown c.first_near-found.result) c.first_near-found.ensures

pub returns-clause-ordered : goal.returns-clause-ordered
returns-clause-ordered g c =
    subst (λ l. IsStrictlySortedBy g.K.Ord.cmp (keys_of l)) (c.runs.view_is ∙ ap (λ w. w.pairs) c.self.view_is) (rising-contents g.K.Ord.cmp g.met.K.Ord.total g.met.K.RunKey.exact (map arc_value c.runs.inside.runs.items))
