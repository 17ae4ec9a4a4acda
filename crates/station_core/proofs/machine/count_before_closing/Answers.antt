use Rattle.std.proofs.Common.{◌≡◌, ◌∙◌, ap, arith, get_or, sym, true}
use Rattle.std.proofs.lemmas.List.Sums.{position_or_len_is}
use Rattle.rib_model.specs.declared.entry.Entry.{Entry}
use Rattle.rib_model.specs.Entries.{entry_value}
use Rattle.station_core.specs.Machine.{is_closing}
use Rattle.station_core.proofs.Histories.{no_closing}
use Rattle.station_core.proofs.machine.count_before_closing.Goals as goal

pub returns-then-is_closing-clause-place : goal.returns-then-is_closing-clause-place
returns-then-is_closing-clause-place c =
    let d = c.index-entries-at.result in
    let here : is_closing (entry_value (get_or c.args.entries.now c.loop-at.at d)) ≡ true = ap (λ (e : Entry). is_closing (entry_value e)) (sym c.index-entries-at.is) ∙ sym c.is_closing.ensures ∙ c.if-is_closing.true in
    position_or_len_is (λ (e : Entry). is_closing (entry_value e)) c.args.entries.now c.loop-at.at d (omega (arith, c.loop-at-test.true)) (λ k lt. c.loop-at.invariant k d lt) (λ lt. here)

pub returns-clause-place : goal.returns-clause-place
returns-clause-place c = no_closing c.args.entries.now (λ k d lt. c.loop-at.invariant k d (omega (arith, lt, c.loop-at-test.false)))
