use Rattle.query_eval.specs.RowRuns.{shown_all}
use Rattle.relay_out.proofs.Steps.{items_of_pairs}
use Rattle.relay_out.proofs.Writes.{looks_flushed}
use Rattle.relay_out.proofs.writer.WriterTakes.look.Goals as goal

pub returns : goal.returns
returns g c =
    looks_flushed g.O.Sink.faults g.O.Sink.told g.O.Sink.aside c.args.self.now c.flush.new.self (items_of_pairs c.args.info.now c.args.key.now c.args.view (shown_all c.args.nlris.now c.args.routes.now)) c.flush.result
    c.flush.ensures.ok c.flush.ensures.err c.flush.ensures.first
