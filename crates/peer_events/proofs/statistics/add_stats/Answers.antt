use Rattle.peer_events.proofs.Reading.{stats_more, stats_passed, stats_end}
use Rattle.peer_events.proofs.statistics.add_stats.Goals as goal

pub loop-tlv-preserved-in-Continue-1 : goal.loop-tlv-preserved-in-Continue-1
loop-tlv-preserved-in-Continue-1 c =
    rw c.in_ok-push-in-Some-stat_of.ensures.ok (stats_more _ _ _ _ _ _ _ _ c.loop-tlv.invariant c.in-Some.ensures.found c.in-Some.ensures.shorter c.in-Some-stat_of.ensures)

pub loop-tlv-preserved : goal.loop-tlv-preserved
loop-tlv-preserved c = stats_passed _ _ _ _ _ _ _ c.loop-tlv.invariant c.in-Some.ensures.found c.in-Some.ensures.shorter c.in-None.ensures

pub returns-clause-stats : goal.returns-clause-stats
returns-clause-stats c ts are = (stats_end _ _ _ _ _ c.loop-tlv.invariant c.in_default.ensures.none ts are).0

pub returns-clause-unread : goal.returns-clause-unread
returns-clause-unread c ts are = (stats_end _ _ _ _ _ c.loop-tlv.invariant c.in_default.ensures.none ts are).1
