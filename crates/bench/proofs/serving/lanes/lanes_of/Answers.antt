use Rattle.std.proofs.Common.{◌<◌, length, arith}
use Rattle.bench.proofs.Passes.{last_is_of, one_fewer, rest_are_of}
use Rattle.bench.proofs.serving.lanes.lanes_of.Goals as goal

pub invariant_of-push : goal.invariant_of-push
invariant_of-push g c = record { of = last_is_of g.J.Naming.site c.loop-pass.feeds c.pop.new.self c.in-Some.pass c.in-Some.ensures c.loop-pass.invariant }

pub loop-pass-smaller : goal.loop-pass-smaller
loop-pass-smaller g c =
    let less : length c.pop.new.self < length c.loop-pass.feeds = omega (arith, one_fewer c.loop-pass.feeds c.pop.new.self c.in-Some.pass c.in-Some.ensures) in
    less

pub loop-pass-preserved : goal.loop-pass-preserved
loop-pass-preserved g c = rest_are_of g.J.Naming.site c.loop-pass.feeds c.pop.new.self c.in-Some.pass c.in-Some.ensures c.loop-pass.invariant
