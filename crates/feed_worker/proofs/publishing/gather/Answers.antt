use Rattle.std.proofs.Common.{◌∙◌, ◌++◌, List, sym, subst}
use Rattle.bmp_message.specs.StreamWalk.{HasReached}
use Rattle.rib_model.specs.declared.entry.Entry.{Entry}
use Rattle.rib_model.specs.Entries.{entry_values}
use Rattle.feed_worker.proofs.Gathering.{gathers_more, gives_broken}
use Rattle.feed_worker.proofs.publishing.gather.Goals as goal

pub loop-entries-preserved : goal.loop-entries-preserved
loop-entries-preserved g c =
    let run = rw c.in-Message.is at c.in_ok-entry.ensures.run in
    let moved = rw c.in-Message.is at c.in_ok-entry.ensures.advances in
    let l = c.loop-entries in
    record {
      fed = moved.0 ∙ l.invariant.fed;
      reached = λ fed given first. subst (λ (es : List Entry). HasReached g.B.BodyReading.meaning g.B.BodyReading.state fed (given ++ entry_values es) c.next.new.self) (sym c.in-Ok.ensures.ok)
          (gathers_more g.B.BodyReading.meaning g.B.BodyReading.state fed given l.entries c.in-Message.entry c.next.new.self (run fed (given ++ entry_values l.entries) (l.invariant.reached fed given first)));
    }

pub returns-in-More-clause-gives : goal.returns-in-More-clause-gives
returns-in-More-clause-gives g c fed given first =
    let run = rw c.in-More.is at c.in_ok-entry.ensures.run in
    let p = run fed (given ++ entry_values c.loop-entries.entries) (c.loop-entries.invariant.reached fed given first) in
    record { reached = p.0; walks = p.1 }

pub returns-in-Terminated-clause-gives : goal.returns-in-Terminated-clause-gives
returns-in-Terminated-clause-gives g c fed given first =
    let run = rw c.in-Terminated.is at c.in_ok-entry.ensures.run in
    let p = run fed (given ++ entry_values c.loop-entries.entries) (c.loop-entries.invariant.reached fed given first) in
    (c.next.new.self.offset, p.1)

pub returns-in-Broken-clause-gives : goal.returns-in-Broken-clause-gives
returns-in-Broken-clause-gives g c fed given first =
    let run = rw c.in-Broken.is at c.in_ok-entry.ensures.run in
    let messages = given ++ entry_values c.loop-entries.entries in
    let p = run fed messages (c.loop-entries.invariant.reached fed given first) in
    gives_broken g.B.BodyReading.meaning g.B.BodyReading.state fed messages c.next.new.self c.offset.result c.in-Broken.why c.offset.ensures p.1
