use Rattle.std.proofs.Common.{arith}
use Rattle.station_run.proofs.Runs.{done_within}
use Rattle.station_run.proofs.serving.do_all.Goals as goal

pub returns : goal.returns
returns g c =
    let done = rw c.as_mut_slice.ensures.value at c.run_all.ensures in
    done_within _ c.args.tasks.now.items c.run_all.new.works c.args.tasks.now.len (omega (arith, c.args.tasks.now.ok)) done
