use Rattle.feed_archive.proofs.OneContent.{recovers_only}
use Rattle.feed_archive.proofs.laws.recovery_gives_the_content.Goals as goal

pub returns : goal.returns
returns c = recovers_only
