use Rattle.std.proofs.Common.{List, ℕ, ◌++◌, ap, codes}
use Rattle.bmp_specs.specs.RouteLine.{community_text}
use Rattle.reply_text.proofs.Digits.{put_three}
use Rattle.reply_text.proofs.Pieces.{comma_first}
use Rattle.reply_text.proofs.line.communities.Goals as goal

pub returns-in-len1-up-clause-whole : goal.returns-in-len1-up-clause-whole
returns-in-len1-up-clause-whole c =
    put_three _ _ _ _ _ _ _ _ c.word-next.ensures.whole c.community-next.ensures.whole c.further_communities.ensures.whole (ap (λ (l : List ℕ). codes " comm=" ++ l) (comma_first community_text c.args.values.now 0 c.in-len1-up.len_at_least))
