use Rattle.query_eval.proofs.Keeping.{all_join}
use Rattle.relay_out.specs.Writable.{IsWritable}
use Rattle.relay_out.proofs.judge.JudgeTakes.has_taken.Goals as goal

pub returns : goal.returns
returns c = λ t done all. all_join IsWritable done _ all (c.can_announce_all.ensures t)
