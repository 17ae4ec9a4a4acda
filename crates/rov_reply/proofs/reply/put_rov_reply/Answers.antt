use Rattle.std.proofs.Common.{◌++◌, length, refl}
use Rattle.std.specs.List.{concat}
use Rattle.bmp_specs.specs.Lines.{end_line}
use Rattle.bmp_specs.specs.Reply.{reply, told_count}
use Rattle.reply_text.proofs.Joining.{join_three}
use Rattle.wire_io.proofs.Joins.{join_failed, more}
use Rattle.rov_reply.proofs.RovLaws.{lines_known, reply_text}
use Rattle.rov_reply.proofs.reply.put_rov_reply.Goals as goal

pub returns-in_err-put_at : goal.returns-in_err-put_at
returns-in_err-put_at g c = λ entries stands count.
    let (lines, are) = lines_known c.args.vrps.now 0 c.args.prefix.now c.args.tables.now entries stands in
    record {
      text = reply (length entries) lines;
      is_reply = record { lines = lines; are_lines = are; told = refl };
      written = more _ _ _ (concat lines ++ end_line (told_count (length lines))) _ _ _ c.in_err-put_at.ensures c.from_residual.ensures.0 (reply_text c.args.revision entries lines count);
    }

pub returns-in_err-rows : goal.returns-in_err-rows
returns-in_err-rows g c = λ entries stands count.
    let (lines, are, writes) = c.in_err-rows.ensures entries stands in
    record {
      text = reply (length entries) lines;
      is_reply = record { lines = lines; are_lines = are; told = refl };
      written = join_failed _ _ _ _ _ (end_line (told_count (length lines))) _ _ _ c.in_ok-put_at.ensures writes.written c.from_residual-in_err-rows.ensures.0 (reply_text c.args.revision entries lines count);
    }

pub returns : goal.returns
returns g c = λ entries stands count.
    let (lines, are, writes) = c.in_ok-rows.ensures entries stands in
    record {
      text = reply (length entries) lines;
      is_reply = record { lines = lines; are_lines = are; told = refl };
      written = join_three _ _ _ _ _ _ _ _ _ _ _ c.in_ok-put_at.ensures writes.written (rw writes.counted at c.put_end.ensures) (reply_text c.args.revision entries lines count);
    }
