use Rattle.station_top.proofs.Kept.{keeps_recalls, keeps_replays}
use Rattle.station_top.proofs.law.queries_keep_their_replies.Goals as goal

pub returns : goal.returns
returns c = (keeps_replays, keeps_recalls)
