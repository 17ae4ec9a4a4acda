use Rattle.std.proofs.Common.{◌∙◌}
use Rattle.station_top.proofs.Drawing.{draws_entry, draws_more, draws_terminated, draws_broken}
use Rattle.station_top.proofs.take.drain.Goals as goal

pub loop-item-preserved : goal.loop-item-preserved
loop-item-preserved g c =
    let run = rw c.in-Message.is at c.in_ok-item.ensures.run in
    let moved = rw c.in-Message.is at c.in_ok-item.ensures.advances in
    record {
      fed = moved.0 ∙ c.loop-item.invariant.fed;
      drawn = λ fed first. draws_entry _ g.R.BodyReading.meaning g.R.BodyReading.state (g.A.Account.stands c.loop-item.account) fed c.loop-item.walk c.loop-item.revision (c.loop-item.invariant.drawn fed first) c.next.new.self g.A.Wants.Reads.is_of (g.A.Account.stands c.note.new.self) c.in-Message.item c.saturating_add.result
          (run fed) c.in_ok-note-in-Message.ensures c.saturating_add.ensures;
    }

pub returns-in-More-clause-draws : goal.returns-in-More-clause-draws
returns-in-More-clause-draws g c fed first =
    let run = rw c.in-More.is at c.in_ok-item.ensures.run in
    draws_more _ g.R.BodyReading.meaning g.R.BodyReading.state (g.A.Account.stands c.loop-item.account) fed c.loop-item.walk c.loop-item.revision (c.loop-item.invariant.drawn fed first) c.next.new.self g.A.Wants.Reads.is_of (run fed)

pub returns-in-Terminated-clause-draws : goal.returns-in-Terminated-clause-draws
returns-in-Terminated-clause-draws g c fed first =
    let run = rw c.in-Terminated.is at c.in_ok-item.ensures.run in
    draws_terminated _ g.R.BodyReading.meaning g.R.BodyReading.state (g.A.Account.stands c.loop-item.account) fed c.loop-item.walk c.loop-item.revision (c.loop-item.invariant.drawn fed first) c.next.new.self g.A.Wants.Reads.is_of (run fed)

pub returns-in-Broken-clause-draws : goal.returns-in-Broken-clause-draws
returns-in-Broken-clause-draws g c fed first =
    let run = rw c.in-Broken.is at c.in_ok-item.ensures.run in
    draws_broken _ g.R.BodyReading.meaning g.R.BodyReading.state (g.A.Account.stands c.loop-item.account) fed c.loop-item.walk c.loop-item.revision (c.loop-item.invariant.drawn fed first) c.next.new.self g.A.Wants.Reads.is_of c.offset.result c.in-Broken.why c.offset.ensures (run fed)
