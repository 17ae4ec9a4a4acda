use Rattle.std.proofs.Common.{suc, map, take, drop, Ok, add-one, arith}
use Rattle.bmp_specs.specs.RouteLine.{community_text}
use Rattle.reply_text.specs.Pieces.{behind}
use Rattle.reply_text.proofs.Pieces.{behind_next, behind_split}
use Rattle.wire_io.proofs.Joins.{join, join_failed, writes_none}
use Rattle.reply_text.proofs.lists.put_further_communities.Goals as goal

pub loop-community-init : goal.loop-community-init
loop-community-init g c = writes_none c.args.out.now

pub returns-in_err-put_community : goal.returns-in_err-put_community
returns-in_err-put_community g c = join_failed c.args.out.now c.loop-community.out c.put_community.new.out (behind 44 (map community_text (take c.loop-community.community-index c.args.communities.now))) _ (behind 44 (map community_text (drop (suc c.loop-community.community-index) c.args.communities.now))) (behind 44 (map community_text c.args.communities.now)) _ c.from_residual.result
    c.loop-community.invariant c.in_err-put_community.ensures c.from_residual.ensures.0 (behind_split 44 community_text c.args.communities.now c.loop-community.community-index _ (omega arith))

pub loop-community-preserved : goal.loop-community-preserved
loop-community-preserved g c = join c.args.out.now c.loop-community.out c.put_community.new.out (behind 44 (map community_text (take c.loop-community.community-index c.args.communities.now))) _ _ tt (Ok tt) c.loop-community.invariant c.in_ok-put_community.ensures
    (rw add-one (behind_next 44 community_text c.args.communities.now c.loop-community.community-index _ (omega arith)))
