use Rattle.std.proofs.Common.{◌≡◌, ◌-◌, ◌^◌, ◌<◌, length, arith, rules}
use Rattle.std.proofs.lemmas.List.{places}
use Rattle.disk_doors.proofs.Filling.{fills_none, fills_more, fills_all, fills_end, fills_failed}
use Rattle.disk_doors.proofs.raw_file.fill.Goals as goal

pub parts-init : goal.parts-init
parts-init g c = record { room = omega arith; told = λ t. fills_none _ _ _ }

pub parts-preserved : goal.parts-preserved
parts-preserved g c =
    let low : c.args.place < 2 ^ 64 = omega arith in
    let size : length c.read_part.new.buf ≡ length c.parts.buf - c.parts.done = search (rules, places) in
    record {
      room = search (rules, places);
      told = λ t. fills_more _ _ _ _ _ _ (c.parts.invariant.told t) low c.parts.invariant.room c.saturating_add.ensures _ _ _ size c.in_ok-count.ensures.bound.0 (c.in_ok-count.ensures.told t) c.if-count-eq0.false c.if-done-buf.false;
    }

pub returns-then-count-eq0-clause-told : goal.returns-then-count-eq0-clause-told
returns-then-count-eq0-clause-told g c = λ t.
    let low : c.args.place < 2 ^ 64 = omega arith in
    let size : length c.read_part.new.buf ≡ length c.parts.buf - c.parts.done = search (rules, places) in
    fills_end _ _ _ _ _ _ (c.parts.invariant.told t) low c.parts.invariant.room c.saturating_add.ensures _ _ _ size c.in_ok-count.ensures.bound.0 (c.in_ok-count.ensures.told t) c.if-count-eq0.true

pub returns-then-done-buf-clause-told : goal.returns-then-done-buf-clause-told
returns-then-done-buf-clause-told g c = λ t.
    let low : c.args.place < 2 ^ 64 = omega arith in
    let size : length c.read_part.new.buf ≡ length c.parts.buf - c.parts.done = search (rules, places) in
    fills_all _ _ _ _ _ _ (c.parts.invariant.told t) low c.parts.invariant.room c.saturating_add.ensures _ _ _ size c.in_ok-count.ensures.bound.0 (c.in_ok-count.ensures.told t) c.if-done-buf.true

pub returns-in_err-count-clause-told : goal.returns-in_err-count-clause-told
returns-in_err-count-clause-told g c = λ t.
    fills_failed _ _ _ _ _ _ _ _ c.from_residual.ensures.0 (c.parts.invariant.told t) (c.in_err-count.ensures.told t)
