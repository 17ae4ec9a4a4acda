use Rattle.std.proofs.Common.{◌∙◌}
use Rattle.query_lang.proofs.TextLaws.{as_text, changes_line}
use Rattle.query_lang.proofs.put.put_changes.Goals as goal

pub returns-clause-written : goal.returns-clause-written
returns-clause-written g c =
    as_text _ _ _ _ _ c.write_pieces.ensures (changes_line c.args.lane c.args.from c.args.prefix.now c.as_slice.result.now c.as_slice-2.result.now c.as_slice-3.result.now (c.as_slice.ensures ∙ c.digits-lane.ensures) (c.as_slice-2.ensures ∙ c.digits-from.ensures) (c.as_slice-3.ensures ∙ c.text-prefix.ensures.whole))
