use Rattle.std.proofs.Common.{Some}
use Rattle.route_watch.proofs.Kept.{StandsFrom}
use Rattle.route_watch.proofs.watch.first_kept.Given as goal

abbrev pub invariant-loop-place : goal.invariant-loop-place
invariant-loop-place l = StandsFrom l.recent l.from (Some l.prefix) l.place
