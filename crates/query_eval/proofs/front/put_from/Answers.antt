use Rattle.std.proofs.Common.{◌≡◌, ◌∙◌, List, [], ◌∷◌, ◌++◌, ℕ, inl, inr, refl, sym, ap, arith, eq-or-lt_of_le, take}
use Rattle.std.proofs.lemmas.List.{map-append}
use Rattle.bmp_specs.specs.Values.{AttrsValue, NlriValue}
use Rattle.route_runs.specs.Places.{shown}
use Rattle.router_tables.specs.Views.{Table}
use Rattle.query_eval.specs.RowRuns.{front_of, shown_all}
use Rattle.query_eval.specs.Rows.{lines_by}
use Rattle.query_eval.proofs.Leading.{leads_begin, leads_failed, leads_first, leads_last, leads_last_failed, leads_on, lines_as}
use Rattle.query_eval.proofs.front.put_from.Goals as goal

more_lines : (line : NlriValue → AttrsValue → List ℕ) (all some rest : Table) → all ≡ some ++ rest → lines_by line all ≡ lines_by line some ++ lines_by line rest
more_lines line all some rest e = ap (lines_by line) e ∙ map-append (λ (p : NlriValue × AttrsValue). line p.0 p.1) some rest

pub returns-in_err-count : goal.returns-in_err-count
returns-in_err-count g c =
    let line : NlriValue → AttrsValue → List ℕ = g.L.TellsTable.line c.args.lines.now in
    leads_failed c.args.out.now c.args.out.now c.put_batch.new.out 0 (lines_by line (shown c.args.first ∷ [])) (lines_by line (front_of c.args.run.now (g.W.Pairs.left c.args.walk.now))) _ _ _ c.from_residual.result (leads_begin _ _) c.in_err-count.ensures.writes c.from_residual.ensures.0 refl

pub loop-count-init : goal.loop-count-init
loop-count-init g c =
    let line : NlriValue → AttrsValue → List ℕ = g.L.TellsTable.line c.args.lines.now in
    record {
      same = c.in_ok-count.ensures.same;
      leads = leads_first c.args.out.now c.put_batch.new.out _ (lines_by line (shown c.args.first ∷ [])) (lines_by line (front_of c.args.run.now (g.W.Pairs.left c.args.walk.now))) _ c.in_ok-count.ensures.writes refl;
    }

pub returns-in_err-put_batch : goal.returns-in_err-put_batch
returns-in_err-put_batch g c =
    let line = g.L.TellsTable.line in
    let i = c.loop-count.invariant in
    let n = c.gather-some.result in
    let p : Table = shown_all (take n c.gather-some.new.nlris) (take n c.gather-some.new.routes) in
    let left : Table = front_of c.args.run.now (g.W.Pairs.left c.loop-count.walk) in
    let rest : Table = front_of c.args.run.now (g.W.Pairs.left c.gather-some.new.walk) in
    let same = ap (λ v. lines_by (line v) p) i.same in
    elim (eq-or-lt_of_le {n = c.gather-some.result} {m = 16} c.gather-some.ensures.within) [
      | inl e ↦ leads_failed c.args.out.now c.loop-count.out c.put_batch-in-loop-count.new.out _ (lines_by (line c.args.lines.now) p) (lines_by (line c.args.lines.now) rest) (lines_by (line c.args.lines.now) left) _ _ c.from_residual-in_err-put_batch.result i.leads
          (lines_as c.loop-count.out c.put_batch-in-loop-count.new.out _ _ _ same c.in_err-put_batch.ensures.writes) c.from_residual-in_err-put_batch.ensures.0 (more_lines (line c.args.lines.now) left p rest (c.gather-some.ensures.more e))
      | inr l ↦ leads_last_failed c.args.out.now c.loop-count.out c.put_batch-in-loop-count.new.out _ _ _ _ c.from_residual-in_err-put_batch.result i.leads
          (lines_as c.loop-count.out c.put_batch-in-loop-count.new.out _ (lines_by (line c.args.lines.now) left) _ (same ∙ ap (lines_by (line c.args.lines.now)) (sym (c.gather-some.ensures.last l))) c.in_err-put_batch.ensures.writes) c.from_residual-in_err-put_batch.ensures.0
    ]

pub loop-count-preserved : goal.loop-count-preserved
loop-count-preserved g c =
    let line = g.L.TellsTable.line in
    let i = c.loop-count.invariant in
    let n = c.gather-some.result in
    let p : Table = shown_all (take n c.gather-some.new.nlris) (take n c.gather-some.new.routes) in
    let left : Table = front_of c.args.run.now (g.W.Pairs.left c.loop-count.walk) in
    let rest : Table = front_of c.args.run.now (g.W.Pairs.left c.gather-some.new.walk) in
    record {
      same = c.in_ok-put_batch.ensures.same ∙ i.same;
      leads = leads_on c.args.out.now c.loop-count.out c.put_batch-in-loop-count.new.out _ _ _ (lines_by (line c.args.lines.now) p) (lines_by (line c.args.lines.now) rest) (lines_by (line c.args.lines.now) left) _ i.leads
          (lines_as c.loop-count.out c.put_batch-in-loop-count.new.out _ _ _ (ap (λ v. lines_by (line v) p) i.same) c.in_ok-put_batch.ensures.writes)
          (more_lines (line c.args.lines.now) left p rest (c.gather-some.ensures.more (omega (arith, c.gather-some.ensures.within, c.if-some-lt-AHEAD.false)))) c.saturating_add-count.ensures;
    }

pub returns-then-some-lt-AHEAD : goal.returns-then-some-lt-AHEAD
returns-then-some-lt-AHEAD g c =
    let line = g.L.TellsTable.line in
    let i = c.loop-count.invariant in
    let n = c.gather-some.result in
    let p : Table = shown_all (take n c.gather-some.new.nlris) (take n c.gather-some.new.routes) in
    let left : Table = front_of c.args.run.now (g.W.Pairs.left c.loop-count.walk) in
    leads_last c.args.out.now c.loop-count.out c.put_batch-in-loop-count.new.out _ _ _ _ _ i.leads
    (lines_as c.loop-count.out c.put_batch-in-loop-count.new.out _ (lines_by (line c.args.lines.now) left) _ (ap (λ v. lines_by (line v) p) i.same ∙ ap (lines_by (line c.args.lines.now)) (sym (c.gather-some.ensures.last c.if-some-lt-AHEAD.true))) c.in_ok-put_batch.ensures.writes)
    c.saturating_add-count.ensures
