use Rattle.reply_text.specs.Pieces.{counts_fields, name_fields, spaced}
use Rattle.reply_text.proofs.Pieces.{spaced-append}
use Rattle.wire_io.proofs.Joins.{join, more}
use Rattle.reply_text.proofs.router.put_counted.Goals as goal

pub returns-in_err-put_counts : goal.returns-in_err-put_counts
returns-in_err-put_counts g c =
    let names = name_fields c.args.name.now c.args.descr.now in
    more _ _ _ (spaced names) _ _ _ c.in_err-put_counts.ensures c.from_residual.ensures.0 (spaced-append (counts_fields c.args.peers c.args.counts.now) names)

pub returns : goal.returns
returns g c = join _ _ _ _ _ _ _ _ c.in_ok-put_counts.ensures c.put_names.ensures (spaced-append (counts_fields c.args.peers c.args.counts.now) (name_fields c.args.name.now c.args.descr.now))
