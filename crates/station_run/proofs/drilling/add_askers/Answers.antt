use Rattle.std.proofs.Common.{◌<◌, List, length, ap, arith}
use Rattle.std.proofs.lemmas.List.{length_push}
use Rattle.cut_publisher.specs.History.{Asker}
use Rattle.rib_model.specs.declared.entry.Entry.{Entry}
use Rattle.station_run.specs.declared.drill_tasks.DrillTask.TheVariants.{Ask}
use Rattle.station_run.proofs.Drilled.{asking_more, asking_none}
use Rattle.station_run.proofs.drilling.add_askers.Goals as goal

pub loop-pass-init : goal.loop-pass-init
loop-pass-init c = asking_none _ _

pub loop-pass-smaller : goal.loop-pass-smaller
loop-pass-smaller c =
    let less : length c.pop.new.self < length c.loop-pass.asks = omega (arith, ap (λ (l : List (Asker Entry)). length l) c.in-Some.ensures, length_push c.pop.new.self c.in-Some.pass) in
    less

pub loop-pass-preserved : goal.loop-pass-preserved
loop-pass-preserved c =
    asking_more _ c.loop-pass.tasks.items c.push.new.self.items _ c.loop-pass.asks c.pop.new.self (Ask (record { pass = c.in-Some.pass; link = c.in_ok-link.link; rounds = 1; served = 0 })) c.in-Some.pass c.in-Some.ensures c.in_ok-push.ensures.items
    (λ seed messages b is. is) c.loop-pass.invariant

pub returns : goal.returns
returns c = λ seed messages b lanes of works. (c.loop-pass.invariant.go seed messages b lanes of works).1
