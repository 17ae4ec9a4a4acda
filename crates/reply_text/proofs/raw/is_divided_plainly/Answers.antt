use Rattle.std.proofs.Common.{◌≡◌, ◌∙◌, Bool, suc, ap, sym, drop, refl, add-one, arith}
use Rattle.std.specs.Prelude.{◌&&◌}
use Rattle.std.proofs.lemmas.List.{drop_all}
use Rattle.ask_specs.specs.FullLine.{is_divided_plainly}
use Rattle.reply_text.specs.Raw.{is_sequence}
use Rattle.reply_text.proofs.Division.{divided_next}
use Rattle.reply_text.proofs.raw.is_divided_plainly.Goals as goal

pub loop-segment-init : goal.loop-segment-init
loop-segment-init c = refl

pub returns-then-not-begins_plainly : goal.returns-then-not-begins_plainly
returns-then-not-begins_plainly c =
    let s = c.segment-item.result in
    sym (c.loop-segment.invariant ∙ divided_next c.loop-segment.after_sequence c.args.segments.now c.loop-segment.segment-index s (omega arith) c.segment-item.is
    ∙ ap (λ (b : Bool). b && is_divided_plainly (is_sequence s.kind) (drop (suc c.loop-segment.segment-index) c.args.segments.now)) (sym c.begins_plainly.ensures ∙ c.if-not-begins_plainly.true))

pub loop-segment-preserved : goal.loop-segment-preserved
loop-segment-preserved c =
    let s = c.segment-item.result in
    rw add-one (c.loop-segment.invariant ∙ divided_next c.loop-segment.after_sequence c.args.segments.now c.loop-segment.segment-index s (omega arith) c.segment-item.is
    ∙ ap (λ (b : Bool). b && is_divided_plainly (is_sequence s.kind) (drop (suc c.loop-segment.segment-index) c.args.segments.now)) (sym c.begins_plainly.ensures ∙ c.if-not-begins_plainly.false)
    ∙ ap (λ (b : Bool). is_divided_plainly b (drop (suc c.loop-segment.segment-index) c.args.segments.now)) (sym c.is_sequence-after_sequence.ensures))

pub returns : goal.returns
returns c = sym (c.loop-segment.invariant ∙ ap (is_divided_plainly c.loop-segment.after_sequence) (drop_all c.loop-segment.segment-index c.args.segments.now c.loop-segment-test.false))
