use Rattle.std.proofs.Common.{◌<◌, ℕ, List, length, ap, subst, false, arith}
use Rattle.std.proofs.lemmas.List.{length_push}
use Rattle.cut_publisher.specs.History.{Fed}
use Rattle.drill_streams.specs.DrillStream.{IsDrillStream}
use Rattle.rib_model.specs.declared.entry.Entry.{Entry}
use Rattle.station_run.specs.declared.drill_tasks.DrillLane.{DrillLane}
use Rattle.station_run.proofs.Drilled.{adding_done, adding_more, adding_none}
use Rattle.station_run.proofs.drilling.add_lanes.Goals as goal

pub loop-pass-init : goal.loop-pass-init
loop-pass-init c = λ b lanes fresh. adding_none c.args.seed c.args.messages b lanes _ _ c.requires fresh

pub loop-pass-smaller : goal.loop-pass-smaller
loop-pass-smaller c =
    let less : length c.pop.new.self < length c.loop-pass.feeds = omega (arith, ap (λ (l : List (Fed Entry)). length l) c.in-Some.ensures, length_push c.pop.new.self c.in-Some.pass) in
    less

pub loop-pass-preserved : goal.loop-pass-preserved
loop-pass-preserved c = λ b lanes fresh.
    let w : DrillLane = record { pass = c.in-Some.pass; stream = c.in_ok-stream.stream; is_whole = false } in
    adding_more c.args.seed c.args.messages b lanes c.loop-pass.feeds c.pop.new.self c.loop-pass.tasks.items c.push.new.self.items w c.in-Some.ensures c.in_ok-push.ensures.items c.in_ok-stream.ensures.octets
    (subst (λ (n : ℕ). IsDrillStream c.args.seed n c.args.messages c.in_ok-stream.stream) c.lane.ensures c.in_ok-stream.ensures.stream) c.in_ok-stream.ensures.short (c.loop-pass.invariant b lanes fresh)

pub returns : goal.returns
returns c = λ b lanes fresh. adding_done c.args.seed c.args.messages b lanes c.loop-pass.feeds c.loop-pass.tasks.items (ap (λ (l : List (Fed Entry)). length l) c.in_default.ensures.0) (c.loop-pass.invariant b lanes fresh)
