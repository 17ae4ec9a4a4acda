use Rattle.std.proofs.Common.{ℕ, ◌+◌, ap, not}
use Rattle.peer_events.proofs.Reading.{count_more, count_end}
use Rattle.peer_events.specs.Known.{is_known_in}
use Rattle.peer_events.proofs.tlvs.count_unread.Goals as goal

pub loop-tlv-preserved : goal.loop-tlv-preserved
loop-tlv-preserved c =
    count_more (λ t. not (is_known_in c.args.carrier t)) _ _ _ _ _ _ c.loop-tlv.invariant c.in-Some.ensures.found c.in-Some.ensures.shorter (ap (λ (n : ℕ). c.loop-tlv.unread + n) c.passed_over-unread.ensures)

pub returns : goal.returns
returns c ts are = count_end _ _ _ _ c.loop-tlv.invariant c.in_default.ensures.none ts are
