use Rattle.std.proofs.Common.{List, ℕ, ◌++◌, ◌-◌, length, take, drop, map, ap, codes}
use Rattle.bmp_specs.specs.RouteLine.{community_text}
use Rattle.reply_text.specs.Pieces.{behind}
use Rattle.reply_text.proofs.Pieces.{comma_first}
use Rattle.wire_io.proofs.Joins.{join, more}
use Rattle.reply_text.proofs.lists.put_communities.Goals as goal

pub returns-in_err-put_community-in-len1-up : goal.returns-in_err-put_community-in-len1-up
returns-in_err-put_community-in-len1-up g c =
    more _ _ _ (behind 44 (map community_text (take (length c.args.communities.now - 1) (drop 1 c.args.communities.now)))) _ _ _ c.in_err-put_community-in-len1-up.ensures c.from_residual.ensures.0
    (ap (λ (l : List ℕ). codes " comm=" ++ l) (comma_first community_text c.args.communities.now 0 c.in-len1-up.len_at_least))

pub returns-in_ok-put_community-in-len1-up : goal.returns-in_ok-put_community-in-len1-up
returns-in_ok-put_community-in-len1-up g c =
    join _ _ _ _ _ _ _ _ c.in_ok-put_community-in-len1-up.ensures c.put_further_communities.ensures
    (ap (λ (l : List ℕ). codes " comm=" ++ l) (comma_first community_text c.args.communities.now 0 c.in-len1-up.len_at_least))
