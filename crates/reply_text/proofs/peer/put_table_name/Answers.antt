use Rattle.std.proofs.Common.{◌++◌, codes, refl}
use Rattle.bmp_specs.specs.EscapedText.{escaped_text}
use Rattle.reply_text.proofs.Joining.{join_three}
use Rattle.wire_io.proofs.Joins.{join_failed, more}
use Rattle.reply_text.proofs.peer.put_table_name.Goals as goal

pub returns-in_err-put_filtered : goal.returns-in_err-put_filtered
returns-in_err-put_filtered g c = more _ _ _ (codes " table=" ++ escaped_text c.args.name.now ++ codes "\n") _ _ _ c.in_err-put_filtered.ensures c.from_residual.ensures.0 refl

pub returns-in_err-put_text : goal.returns-in_err-put_text
returns-in_err-put_text g c = join_failed _ _ _ _ _ (codes "\n") _ _ _ c.in_ok-put_filtered.ensures c.in_err-put_text.ensures c.from_residual-in_err-put_text.ensures.0 refl

pub returns : goal.returns
returns g c = join_three _ _ _ _ _ _ _ _ _ _ _ c.in_ok-put_filtered.ensures c.in_ok-put_text.ensures c.write_all.ensures refl
