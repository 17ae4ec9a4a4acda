use Rattle.std.proofs.Common.{◌∙◌, length, ap, sym, subst}
use Rattle.std.specs.List.{filter}
use Rattle.std.specs.List.Sorted.{IsStrictlySortedBy}
use Rattle.std.specs.Map.{keys_of}
use Rattle.route_runs.specs.Rows.{is_live, sets_of}
use Rattle.route_runs.specs.Runs.{live}
use Rattle.route_runs.proofs.Counting.{live_count}
use Rattle.route_runs.proofs.Handles.{keys-rows}
use Rattle.route_runs.proofs.count.live_rows.Goals as goal

pub returns : goal.returns
returns g c =
    let packs = sets_of c.run.inside.packs.items in
    record {
      count = c.live_handles.ensures ∙ ap (λ l. length (filter is_live l)) c.deref.ensures.value ∙ sym (live_count packs c.run.inside.keys.items c.run.inside.handles.items c.run.invariant.even c.run.invariant.handles) ∙ ap (λ l. length (live l)) c.run.view_is;
      ordered = subst (λ l. IsStrictlySortedBy g.K.Ord.cmp (keys_of l)) c.run.view_is (subst (IsStrictlySortedBy g.K.Ord.cmp) (sym (keys-rows packs c.run.inside.keys.items c.run.inside.handles.items c.run.invariant.even)) c.run.invariant.ordered);
    }
