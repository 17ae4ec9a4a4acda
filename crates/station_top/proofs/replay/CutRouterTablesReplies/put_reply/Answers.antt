use Rattle.station_top.proofs.Replaying.{replied_on}
use Rattle.station_top.proofs.replay.CutRouterTablesReplies.put_reply.Goals as goal

pub returns : goal.returns
returns g c entries is = replied_on _ _ _ _ _ _ is c.answer.ensures.reply
