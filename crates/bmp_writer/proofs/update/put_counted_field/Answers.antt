use Rattle.std.proofs.Common.{ap, List, ℕ, ◌++◌, ◌∙◌}
use Rattle.std.proofs.lemmas.Result.{on_ok_weaker}
use Rattle.bmp_writer.proofs.Still.{two_pieces}
use Rattle.bmp_writer.proofs.update.put_counted_field.Goals as goal

pub returns-clause-ok : goal.returns-clause-ok
returns-clause-ok c = on_ok_weaker c.extend-2.result (λ e. two_pieces c.args.out.now c.extend.new.self c.extend-2.new.self c.to_be_bytes.result c.args.field.now c.in_ok-extend.ensures.ok e ∙ ap (λ (l : List ℕ). c.args.out.now ++ (l ++ c.args.field.now)) c.to_be_bytes.ensures) c.extend-2.ensures.ok
