use Rattle.std.proofs.Common.{map, reverse, subst}
use Rattle.std.specs.List.Sorted.{IsStrictlySortedBy}
use Rattle.std.specs.Map.{keys_of}
use Rattle.route_runs.specs.Gathering.{gathered}
use Rattle.route_runs.specs.Rows.{named}
use Rattle.route_runs.proofs.Contents.{rising-in_order}
use Rattle.route_runs.proofs.listed.Listed.see_order.Goals as goal

pub returns : goal.returns
returns g c =
    let sets = gathered c.self.inside.sets.packs.items c.self.inside.sets.now.items in
    subst (λ l. IsStrictlySortedBy g.K.Ord.cmp (keys_of l)) c.self.view_is (rising-in_order g.K.Ord.cmp g.met.K.Ord.total (reverse (map (named sets) c.self.inside.rows.items)))
