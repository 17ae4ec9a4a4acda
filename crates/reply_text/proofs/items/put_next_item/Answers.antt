use Rattle.reply_text.specs.Own.{item_text}
use Rattle.reply_text.proofs.Texts.{one_text}
use Rattle.wire_io.proofs.Joins.{join}
use Rattle.reply_text.proofs.items.put_next_item.Goals as goal

pub returns : goal.returns
returns g c = join _ _ _ _ _ _ _ _ (rw c.comma.ensures at c.in_ok-write_all.ensures) c.put_item.ensures (one_text c.args.some (item_text c.args.item c.args.octets.now))
