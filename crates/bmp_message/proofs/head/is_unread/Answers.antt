use Rattle.std.proofs.Common.{ℕ, nat_lt, sym, ap}
use Rattle.bmp_message.proofs.Heads.{none_of_item}
use Rattle.bmp_message.proofs.head.is_unread.Goals as goal

pub returns-in_default : goal.returns-in_default
returns-in_default c = sym (ap (λ (n : ℕ). nat_lt 0 n) (none_of_item c.args.item.now c.in_default.not-Unread))
