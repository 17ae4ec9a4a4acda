use Rattle.std.proofs.Common.{◌≡◌, ◌++◌, ◌∙◌, refl, sym, ap, arith, length, length-take, take}
use Rattle.std.proofs.lemmas.List.{take_more_set}
use Rattle.router_tables.specs.Views.{Table}
use Rattle.query_eval.specs.RowRuns.{shown_all}
use Rattle.query_eval.proofs.Batches.{shown_more}
use Rattle.relay_out.proofs.rows.gather.Goals as goal

pub loop-count-preserved : goal.loop-count-preserved
loop-count-preserved c =
    let i = c.loop-count.invariant in
    let k = c.loop-count.count in
    let same : length (take k c.loop-count.nlris) ≡ length (take k c.loop-count.routes) = omega (arith, length-take k c.loop-count.nlris, length-take k c.loop-count.routes) in
    record {
      rows = shown_more _ _ _ _ _ _ _ c.in-Some.found.0 c.in-Some.found.1 (take_more_set c.loop-count.nlris k _ (omega arith)) (take_more_set c.loop-count.routes k _ (omega arith)) same i.rows c.in-Some.ensures.next;
      within = omega (arith, i.within);
      fewer = omega (arith, i.fewer, ap length c.in-Some.ensures.next);
    }

pub returns-in_default-clause-all : goal.returns-in_default-clause-all
returns-in_default-clause-all c =
    let k = c.loop-count.count in
    c.loop-count.invariant.rows ∙ ap (λ (t : Table). shown_all (take k c.loop-count.nlris) (take k c.loop-count.routes) ++ t) c.in_default.ensures.next

pub returns-in_default-clause-last : goal.returns-in_default-clause-last
returns-in_default-clause-last c = λ less. sym c.in_default.ensures.next ∙ c.in_default.ensures.none.0 refl
