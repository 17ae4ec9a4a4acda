use Rattle.std.proofs.Common.{List, ℕ, ◌∷◌, ◌++◌, ap, append-nil}
use Rattle.ip_prefix.proofs.Joined.{put_more}
use Rattle.reply_text.specs.Rov.{origin_word}
use Rattle.reply_text.proofs.Digits.{put_two}
use Rattle.reply_text.proofs.rov_lines.judgement.Goals as goal

pub returns-clause-whole : goal.returns-clause-whole
returns-clause-whole c =
    put_two _ _ _ _ _ _ c.byte-next.ensures.whole (put_more _ _ _ _ _ _ _ c.origin_or_none-next.ensures.whole c.byte-next-2.ensures.whole c.word.ensures.whole)
    (ap (λ (l : List ℕ). 32 ∷ (origin_word c.args.origin ++ (32 ∷ l))) (append-nil c.args.judged.now))
