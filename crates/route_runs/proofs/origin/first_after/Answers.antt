use Rattle.std.proofs.Common.{◌∙◌, sym}
use Rattle.route_runs.specs.Cursor.{pairs_in}
use Rattle.route_runs.specs.Origins.{attrs_origin}
use Rattle.route_runs.specs.Places.{shown}
use Rattle.route_runs.proofs.Origins.{search_ended, search_fewer, search_on}
use Rattle.route_runs.proofs.origin.first_after.Goals as goal

pub returns-in_default-skipped-clause-first : goal.returns-in_default-skipped-clause-first
returns-in_default-skipped-clause-first g c =
    let f = rw c.loop-pair.invariant.rows at c.in-Some.ensures.first in
    let other = sym c.has_origin.ensures ∙ c.if-has_origin.false in
    let skip = rw c.loop-pair.invariant.index at c.in_default-skipped.ensures.skip in
    search_ended g.K.Ord.cmp g.met.K.Ord.total g.met.K.RunKey.exact g.K.Spot.Ord.cmp g.K.TableKey.spot_of g.K.TableKey.is_key g.met.K.TableKey.spots_rise attrs_origin c.args.asn
    c.args.rows.now.pairs (pairs_in c.args.index.now) c.requires.indexed c.requires.keys c.args.place.now c.loop-pair.at c.loop-pair.invariant.passed (shown c.in-Some.pair) f other skip

pub loop-pair-smaller : goal.loop-pair-smaller
loop-pair-smaller g c =
    let f = rw c.loop-pair.invariant.rows at c.in-Some.ensures.first in
    let other = sym c.has_origin.ensures ∙ c.if-has_origin.false in
    let skip = rw c.loop-pair.invariant.index at c.in-Some-skipped.ensures.skip in
    search_fewer g.K.Ord.cmp g.met.K.Ord.total g.met.K.RunKey.exact g.K.Spot.Ord.cmp g.K.TableKey.spot_of g.K.TableKey.is_key g.met.K.TableKey.spots_rise attrs_origin c.args.asn
    c.args.rows.now.pairs (pairs_in c.args.index.now) c.requires.indexed c.requires.keys c.args.place.now c.loop-pair.at c.loop-pair.invariant.passed (shown c.in-Some.pair) f other c.in-Some-skipped.next skip

pub loop-pair-preserved : goal.loop-pair-preserved
loop-pair-preserved g c =
    let f = rw c.loop-pair.invariant.rows at c.in-Some.ensures.first in
    let other = sym c.has_origin.ensures ∙ c.if-has_origin.false in
    let skip = rw c.loop-pair.invariant.index at c.in-Some-skipped.ensures.skip in
    record {
      passed = search_on g.K.Ord.cmp g.met.K.Ord.total g.met.K.RunKey.exact g.K.Spot.Ord.cmp g.K.TableKey.spot_of g.K.TableKey.is_key g.met.K.TableKey.spots_rise attrs_origin c.args.asn
          c.args.rows.now.pairs (pairs_in c.args.index.now) c.requires.indexed c.requires.keys c.args.place.now c.loop-pair.at c.loop-pair.invariant.passed (shown c.in-Some.pair) f other c.in-Some-skipped.next skip;
      rows = c.in-Some.ensures.pairs ∙ c.loop-pair.invariant.rows;
      index = c.in-Some-skipped.ensures.pairs ∙ c.loop-pair.invariant.index;
    }
