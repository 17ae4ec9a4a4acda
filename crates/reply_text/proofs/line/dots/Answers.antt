use Rattle.std.proofs.Common.{List, ℕ, ◌++◌, take, ap, sym, ◌∙◌}
use Rattle.ip_prefix.proofs.Joined.{put_more}
use Rattle.reply_text.proofs.Digits.{dots_are}
use Rattle.reply_text.proofs.line.dots.Goals as goal

pub returns-clause-whole : goal.returns-clause-whole
returns-clause-whole c =
    put_more _ _ _ _ _ _ _ c.octet-a.ensures.whole c.byte-a.ensures.whole (put_more _ _ _ _ _ _ _ c.octet-b.ensures.whole c.byte-b.ensures.whole (put_more _ _ _ _ _ _ _ c.octet-c.ensures.whole c.byte-c.ensures.whole c.octet.ensures.whole))
    ∙ ap (λ (l : List ℕ). take c.args.at c.args.line.now ++ l) (sym (dots_are c.args.octets.now c.requires.four))
