use Rattle.feed_archive.proofs.OneContent.{content_one, place_one}
use Rattle.feed_archive.proofs.laws.one_content.Goals as goal

pub returns-clause-content : goal.returns-clause-content
returns-clause-content c = content_one

pub returns-clause-place : goal.returns-clause-place
returns-clause-place c = place_one
