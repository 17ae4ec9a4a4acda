use Rattle.bmp_specs.specs.declared.causes.Cause.TheVariants.{Ended}
use Rattle.station_top.proofs.Concluding.{answers_write, concludes_drill, concludes_no_drill}
use Rattle.station_top.proofs.top.run_drill.Goals as goal

pub returns-in-Ok-clause-concludes : goal.returns-in-Ok-clause-concludes
returns-in-Ok-clause-concludes g c = concludes_drill c.args.words c.args.out.now c.write_drill.new.out c.write_drill.result c.unless_failed.result (c.write_drill.ensures c.args.words.seed c.args.words.lanes c.args.words.messages c.in-Ok.ensures) c.unless_failed.ensures.fine c.unless_failed.ensures.failed

pub returns-in-Ok-clause-out : goal.returns-in-Ok-clause-out
returns-in-Ok-clause-out g c = answers_write Ended c.unless_failed.result _ _ c.write_drill.result (c.write_drill.ensures c.args.words.seed c.args.words.lanes c.args.words.messages c.in-Ok.ensures).written.cause c.unless_failed.ensures.fine c.unless_failed.ensures.failed

pub returns-in-Ok-clause-aside : goal.returns-in-Ok-clause-aside
returns-in-Ok-clause-aside g c = (c.write_drill.ensures c.args.words.seed c.args.words.lanes c.args.words.messages c.in-Ok.ensures).written.kept

pub returns-in-Err-clause-concludes : goal.returns-in-Err-clause-concludes
returns-in-Err-clause-concludes g c = concludes_no_drill c.args.words _
