use Rattle.std.proofs.Common.{◌≡◌, ◌+◌, ◌<◌, ℕ, ◌∷◌, ◌++◌, map, arith, refl, sym, ap, ◌∙◌}
use Rattle.ask_specs.specs.AskReply.{told_change}
use Rattle.bmp_specs.specs.Changes.{oldest_kept}
use Rattle.bmp_specs.specs.ChangeLines.{steps_line, missed_lines}
use Rattle.bmp_specs.specs.QueryReply.{most_told}
use Rattle.bmp_specs.specs.Reply.{told_count}
use Rattle.router_tables.specs.Tables.{steps_told}
use Rattle.query_eval.specs.RowChanges.{kept_changes, further_changes, told_changes}
use Rattle.query_eval.proofs.Leading.{leads_begin, leads_on_line, leads_on, leads_failed_line, leads_failed, leads_last, leads_last_failed}
use Rattle.query_eval.proofs.RowChangeLaws.{told_all}
use Rattle.query_eval.proofs.changes.put_recent.Goals as goal

pub returns-in_err-put_steps : goal.returns-in_err-put_steps
returns-in_err-put_steps g c =
    let all = told_changes c.args.full (steps_told c.args.recent.now) c.args.lane c.args.from c.args.prefix.now in
    let rest = further_changes c.args.full (steps_told c.args.recent.now) c.args.lane c.args.from c.args.prefix.now in
    leads_failed_line c.args.out.now c.args.out.now c.put_steps.new.out 0 _ rest all all _ c.from_residual.result (leads_begin c.args.out.now all) c.in_err-put_steps.ensures c.from_residual.ensures.0
    (ap (λ (n : ℕ). steps_line c.args.lane n ∷ rest) (sym c.total-total.ensures.total))

pub returns-in_err-lost : goal.returns-in_err-lost
returns-in_err-lost g c =
    let ring = steps_told c.args.recent.now in
    let all = told_changes c.args.full ring c.args.lane c.args.from c.args.prefix.now in
    let kept = map (told_change c.args.full c.args.lane) (kept_changes ring c.args.from c.args.prefix.now) in
    let lost = missed_lines c.args.from (oldest_kept ring.total) in
    let less : c.args.recent.now.total < most_told = omega (arith, c.if-total.false, c.total-total.ensures.total) in
    let split = told_all c.args.full ring c.args.lane c.args.from c.args.prefix.now less ∙ ap (λ (n : ℕ). steps_line c.args.lane n ∷ (lost ++ kept)) (sym c.total-total.ensures.total) in
    leads_failed c.args.out.now c.put_steps.new.out c.put_lost.new.out 1 lost kept (lost ++ kept) all _ c.from_residual-in_err-lost.result
    (leads_on_line c.args.out.now c.args.out.now c.put_steps.new.out 0 1 _ (lost ++ kept) all all (leads_begin c.args.out.now all) c.in_ok-put_steps.ensures split (omega arith))
    c.in_err-lost.ensures c.from_residual-in_err-lost.ensures.0 refl

pub returns-in_err-kept : goal.returns-in_err-kept
returns-in_err-kept g c =
    let ring = steps_told c.args.recent.now in
    let all = told_changes c.args.full ring c.args.lane c.args.from c.args.prefix.now in
    let kept = map (told_change c.args.full c.args.lane) (kept_changes ring c.args.from c.args.prefix.now) in
    let lost = missed_lines c.args.from (oldest_kept ring.total) in
    let less : c.args.recent.now.total < most_told = omega (arith, c.if-total.false, c.total-total.ensures.total) in
    let split = told_all c.args.full ring c.args.lane c.args.from c.args.prefix.now less ∙ ap (λ (n : ℕ). steps_line c.args.lane n ∷ (lost ++ kept)) (sym c.total-total.ensures.total) in
    let count : c.saturating_add-count.result ≡ told_count (1 + c.in_ok-lost.lost) = omega (arith, c.saturating_add-count.ensures) in
    leads_last_failed c.args.out.now c.put_lost.new.out c.put_kept_changes.new.out c.saturating_add-count.result kept all _ c.from_residual-in_err-kept.result
    (leads_on c.args.out.now c.put_steps.new.out c.put_lost.new.out 1 c.in_ok-lost.lost c.saturating_add-count.result lost kept (lost ++ kept) all
    (leads_on_line c.args.out.now c.args.out.now c.put_steps.new.out 0 1 _ (lost ++ kept) all all (leads_begin c.args.out.now all) c.in_ok-put_steps.ensures split (omega arith))
    c.in_ok-lost.ensures refl count)
    c.in_err-kept.ensures c.from_residual-in_err-kept.ensures.0

pub returns : goal.returns
returns g c =
    let ring = steps_told c.args.recent.now in
    let all = told_changes c.args.full ring c.args.lane c.args.from c.args.prefix.now in
    let kept = map (told_change c.args.full c.args.lane) (kept_changes ring c.args.from c.args.prefix.now) in
    let lost = missed_lines c.args.from (oldest_kept ring.total) in
    let less : c.args.recent.now.total < most_told = omega (arith, c.if-total.false, c.total-total.ensures.total) in
    let split = told_all c.args.full ring c.args.lane c.args.from c.args.prefix.now less ∙ ap (λ (n : ℕ). steps_line c.args.lane n ∷ (lost ++ kept)) (sym c.total-total.ensures.total) in
    let count : c.saturating_add-count.result ≡ told_count (1 + c.in_ok-lost.lost) = omega (arith, c.saturating_add-count.ensures) in
    leads_last c.args.out.now c.put_lost.new.out c.put_kept_changes.new.out c.saturating_add-count.result c.in_ok-kept.kept c.saturating_add.result kept all
    (leads_on c.args.out.now c.put_steps.new.out c.put_lost.new.out 1 c.in_ok-lost.lost c.saturating_add-count.result lost kept (lost ++ kept) all
    (leads_on_line c.args.out.now c.args.out.now c.put_steps.new.out 0 1 _ (lost ++ kept) all all (leads_begin c.args.out.now all) c.in_ok-put_steps.ensures split (omega arith))
    c.in_ok-lost.ensures refl count)
    c.in_ok-kept.ensures c.saturating_add.ensures

pub put_lost-requires : goal.put_lost-requires
put_lost-requires g c = omega (arith, c.if-total.false, c.total-total.ensures.total)

pub put_kept_changes-requires : goal.put_kept_changes-requires
put_kept_changes-requires g c = omega (arith, c.if-total.false, c.total-total.ensures.total)
