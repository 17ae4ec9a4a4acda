use Rattle.std.proofs.Common.{◌∙◌, arith, length-drop, rules}
use Rattle.std.proofs.lemmas.List.{take_rest}
use Rattle.wire_io.proofs.Buffered.{pours_none, pours_more, pours_still}
use Rattle.wire_io.proofs.buffer.pour.Goals as goal

pub loop-at-init : goal.loop-at-init
loop-at-init g c = record { above = omega arith; within = omega (arith, c.requires); told = pours_none _ _ _; kept = search rules; calm = search rules }

pub loop-at-preserved : goal.loop-at-preserved
loop-at-preserved g c =
    let at = c.loop-at.at in
    let bytes = c.args.bytes.now in
    let e = c.in-Ok.ensures in
    let i = c.loop-at.invariant in
    record {
      above = omega (arith, i.above);
      within = omega (arith, e.bound, length-drop at bytes);
      told = pours_more _ _ _ bytes c.args.start at c.in-Ok.n i.told (rw (take_rest bytes at) at e.told);
      kept = e.aside ∙ i.kept;
      calm = e.cause.fine ∙ i.calm;
    }

pub returns-in-Err-clause-told : goal.returns-in-Err-clause-told
returns-in-Err-clause-told g c = pours_still _ _ _ _ _ _ c.loop-at.invariant.told c.in-Err.ensures.told
