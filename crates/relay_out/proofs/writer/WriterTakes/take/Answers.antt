use Rattle.std.proofs.Common.{◌≡◌, ◌∙◌}
use Rattle.relay_out.specs.Items.{item_value}
use Rattle.relay_out.specs.Writing.{WriterValue}
use Rattle.relay_out.proofs.Writes.{IsReady, next_starved, puts_next, ready_as_is, ready_flushed}
use Rattle.relay_out.proofs.writer.WriterTakes.take.Goals as goal
use Rattle.relay_out.proofs.writer.WriterTakes.take.Goals.{then-are_enough+in_ok-flush, else-are_enough}

pub returns : goal.returns
returns g c = elim c.if-are_enough.branch [
  | then-are_enough+in_ok-flush w ↦
      let ready = ready_flushed g.O.Sink.faults g.O.Sink.told g.O.Sink.aside c.args.self.now w.flush.new.self w.in_ok-flush.ensures.ok w.in_ok-flush.ensures.empty w.flush.ensures.first in
      puts_next g.O.Sink.faults g.O.Sink.told g.O.Sink.aside c.args.self.now w.flush.new.self c.self-2.inside.first.value c.self-2.inside.out c.self-2.inside.held c.put_item.new.out (item_value c.args.item.now) _ ready (c.self-2.view_is ∙ w.self-is) c.in_ok-put_item.ensures.ok
  | else-are_enough w ↦
      let ready = ready_as_is g.O.Sink.faults g.O.Sink.told g.O.Sink.aside c.args.self.now c.self.inside.first.value c.self.inside.out c.self.inside.held c.as_slice.result.now c.self.view_is c.as_slice.ensures w.if-are_enough.ensures.octets in
      puts_next g.O.Sink.faults g.O.Sink.told g.O.Sink.aside c.args.self.now c.args.self.now c.self-2.inside.first.value c.self-2.inside.out c.self-2.inside.held c.put_item.new.out (item_value c.args.item.now) _ ready (c.self-2.view_is ∙ w.self-is) c.in_ok-put_item.ensures.ok
]

pub returns-in_err-put_item : goal.returns-in_err-put_item
returns-in_err-put_item g c = elim c.if-are_enough.branch [
  | then-are_enough+in_ok-flush w ↦
      let ready = ready_flushed g.O.Sink.faults g.O.Sink.told g.O.Sink.aside c.args.self.now w.flush.new.self w.in_ok-flush.ensures.ok w.in_ok-flush.ensures.empty w.flush.ensures.first in
      next_starved g.O.Sink.faults g.O.Sink.told g.O.Sink.aside c.args.self.now w.flush.new.self c.self-2.inside.first.value c.self-2.inside.out c.self-2.inside.held c.put_item.new.out (item_value c.args.item.now) c.from_residual-in_err-put_item.result ready (c.self-2.view_is ∙ w.self-is)
      c.from_residual-in_err-put_item.ensures.1
  | else-are_enough w ↦
      let ready = ready_as_is g.O.Sink.faults g.O.Sink.told g.O.Sink.aside c.args.self.now c.self.inside.first.value c.self.inside.out c.self.inside.held c.as_slice.result.now c.self.view_is c.as_slice.ensures w.if-are_enough.ensures.octets in
      next_starved g.O.Sink.faults g.O.Sink.told g.O.Sink.aside c.args.self.now c.args.self.now c.self-2.inside.first.value c.self-2.inside.out c.self-2.inside.held c.put_item.new.out (item_value c.args.item.now) c.from_residual-in_err-put_item.result ready (c.self-2.view_is ∙ w.self-is)
      c.from_residual-in_err-put_item.ensures.1
]
