use Rattle.std.proofs.Common.{◌≡◌, map, take}
use Rattle.route_runs.specs.Origins.{attrs_origin}
use Rattle.route_runs.specs.Rows.{sets_of}
use Rattle.route_runs.proofs.index.all_origins.Given as goal

abbrev pub invariant-loop-pack : goal.invariant-loop-pack
invariant-loop-pack l = map (λ v. v.items) l.list.items ≡ map (map attrs_origin) (sets_of (take l.pack-index l.packs))
