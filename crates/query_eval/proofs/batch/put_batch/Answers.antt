use Rattle.std.proofs.Common.{◌≡◌, ◌∙◌, List, [], ℕ, drop, length-drop, sym, ap, arith, add-one}
use Rattle.std.proofs.lemmas.List.{nil_from_length}
use Rattle.bmp_specs.specs.Values.{AttrsValue, NlriValue}
use Rattle.reply_text.proofs.Joining.{writes_same}
use Rattle.query_eval.specs.RowRuns.{shown_all}
use Rattle.query_eval.specs.Rows.{lines_by}
use Rattle.query_eval.proofs.Batches.{found_now, shown_next}
use Rattle.query_eval.proofs.Leading.{leads_end, leads_failed_line, leads_on_line}
use Rattle.query_eval.proofs.batch.put_batch.Goals as goal

-- the line of a route, by what writes the lines of its table
same_line : {L : Type 0} (line : L → NlriValue → AttrsValue → List ℕ) (t u : L) (n : NlriValue) (a b : AttrsValue) → t ≡ u → a ≡ b → line u n b ≡ line t n a
same_line line t u n a b e f = ap (λ v. line v n b) (sym e) ∙ ap (λ (v : AttrsValue). line t n v) (sym f)

pub put_row-requires : goal.put_row-requires
put_row-requires g c = found_now g.L.TellsTable.finds c.args.lines.now c.loop-at.lines c.args.routes.now c.look_ahead.new.found c.loop-at.at c.index-routes-at.result c.index-routes-at.result _ _ c.look_ahead.ensures (omega arith) c.index-routes-at.is c.loop-at.invariant.same c.deref.ensures

pub returns-in_err-put_row-clause-writes : goal.returns-in_err-put_row-clause-writes
returns-in_err-put_row-clause-writes g c =
    let i = c.loop-at.invariant in
    let line = g.L.TellsTable.line in
    leads_failed_line c.args.out.now c.loop-at.out c.put_row.new.out _ _ _ _ _ _ c.from_residual.result i.leads
    (writes_same c.loop-at.out c.put_row.new.out _ _ _ c.in_err-put_row.ensures.writes (same_line line _ _ c.index-nlris-at.result _ _ i.same c.deref.ensures)) c.from_residual.ensures.0
    (ap (lines_by (line c.args.lines.now)) (shown_next c.args.nlris.now c.args.routes.now c.loop-at.at c.index-nlris-at.result c.index-nlris-at.result c.index-routes-at.result c.index-routes-at.result (omega arith) c.requires.pairs c.index-nlris-at.is c.index-routes-at.is))

pub loop-at-preserved : goal.loop-at-preserved
loop-at-preserved g c =
    let i = c.loop-at.invariant in
    let line = g.L.TellsTable.line in
    rw add-one (record {
      same = c.in_ok-put_row.ensures.same ∙ i.same;
      leads = leads_on_line c.args.out.now c.loop-at.out c.put_row.new.out _ _ _ _ _ _ i.leads
          (writes_same c.loop-at.out c.put_row.new.out _ _ _ c.in_ok-put_row.ensures.writes (same_line line _ _ c.index-nlris-at.result _ _ i.same c.deref.ensures))
          (ap (lines_by (line c.args.lines.now)) (shown_next c.args.nlris.now c.args.routes.now c.loop-at.at c.index-nlris-at.result c.index-nlris-at.result c.index-routes-at.result c.index-routes-at.result (omega arith) c.requires.pairs c.index-nlris-at.is c.index-routes-at.is))
          c.saturating_add-count.ensures;
    })

pub returns-clause-writes : goal.returns-clause-writes
returns-clause-writes g c =
    let left : drop c.loop-at.at c.args.nlris.now ≡ [] = nil_from_length _ (omega (arith, length-drop c.loop-at.at c.args.nlris.now, c.loop-at-test.false)) in
    leads_end c.args.out.now c.loop-at.out _ _ _ c.loop-at.invariant.leads (ap (λ (l : List NlriValue). lines_by (g.L.TellsTable.line c.args.lines.now) (shown_all l (drop c.loop-at.at c.args.routes.now))) left)
