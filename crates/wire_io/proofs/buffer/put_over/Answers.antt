use Rattle.wire_io.proofs.Buffered.{emptied, through_failed, through_flushed}
use Rattle.wire_io.proofs.buffer.put_over.Goals.{in-Ok, in-Err}
use Rattle.wire_io.proofs.buffer.put_over.Goals as goal

pub returns : goal.returns
returns g c = elim c.match-put.branch [
  | in-Ok w ↦ through_flushed g.O.Sink.faults g.O.Sink.told g.O.Sink.aside (g.P.Puts.leaves c.args.what) c.args.out c.into_inner.result _ _ _ _ _ _ _ c.new-buffer.ensures c.into_inner.ensures.below c.into_inner.ensures.extends w.buffer-is w.result-is (emptied _ _ _ w.flush-result.ensures.empty) w.flush-result.ensures.first w.flush-result.ensures.same w.flush-result.ensures.kept w.flush-result.ensures.cause w.in-Ok.ensures
  | in-Err w ↦ through_failed g.O.Sink.faults g.O.Sink.told g.O.Sink.aside (g.P.Puts.leaves c.args.what) c.args.out c.into_inner.result _ _ _ _ _ c.new-buffer.ensures c.into_inner.ensures.below c.into_inner.ensures.extends w.buffer-is w.result-is w.in-Err.ensures
]
