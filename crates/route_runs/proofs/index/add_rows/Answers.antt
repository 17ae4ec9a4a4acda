use Rattle.std.proofs.Common.{map}
use Rattle.route_runs.specs.Origins.{told_origin}
use Rattle.route_runs.proofs.Indexing.{named_none, named_more, named_all}
use Rattle.route_runs.proofs.index.add_rows.Goals as goal

pub loop-at-init : goal.loop-at-init
loop-at-init g c = record { kept = λ p h. h; added = named_none g.K.TableKey.spot_of (told_origin (map (λ v. v.items) c.args.origins.now)) c.args.keys.now c.args.handles.now c.args.pairs.now.items }

pub loop-at-preserved : goal.loop-at-preserved
loop-at-preserved g c =
    record {
      kept = λ p h. c.in_ok-add_pair.ensures.kept p (c.loop-at.invariant.kept p h);
      added = named_more g.K.TableKey.spot_of (told_origin (map (λ v. v.items) c.args.origins.now)) c.args.keys.now c.args.handles.now c.loop-at.at _ _ c.index-keys-at.result c.spot.result c.origin_at-origin.result c.loop-at-test.true c.index-keys-at.is c.spot.ensures
          c.origin_at-origin.ensures c.in_ok-add_pair.ensures.kept c.in_ok-add_pair.ensures.added c.loop-at.invariant.added;
    }

pub returns : goal.returns
returns g c = record { kept = c.loop-at.invariant.kept; added = named_all g.K.TableKey.spot_of (told_origin (map (λ v. v.items) c.args.origins.now)) c.args.keys.now c.args.handles.now c.loop-at.at _ c.loop-at-test.false c.loop-at.invariant.added }
