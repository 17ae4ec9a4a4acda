use Rattle.std.proofs.Common.{◌≡◌, take}
use Rattle.route_runs.specs.Rows.{sets_of, set_at, IsHandle}
use Rattle.route_runs.specs.Gathering.{gathered, IsRenamed}
use Rattle.route_runs.proofs.tidy.all_renamed.Given as goal

abbrev pub invariant-loop-at : goal.invariant-loop-at
invariant-loop-at g l = record {
  so_far : IsRenamed (sets_of l.packs) (take l.at l.handles) (gathered l.out.packs.items l.out.now.items) l.copy.items;
  valid : IsHandle (gathered l.out.packs.items l.out.now.items) l.handle;
  same : set_at (gathered l.out.packs.items l.out.now.items) l.handle ≡ set_at (sets_of l.packs) l.last;
}
