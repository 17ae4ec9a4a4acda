use Rattle.std.proofs.Common.{◌∙◌, ap, Some}
use Rattle.std.specs.List.{filter, slice_get}
use Rattle.std.specs.Map.Iter.{deref_pair}
use Rattle.std.specs.Ordering.{is_lt}
use Rattle.bmp_specs.proofs.FirstInRange.{first_shown, between-after}
use Rattle.bmp_specs.specs.StatKind.{KindValue, kind_cmp}
use Rattle.stats_book.specs.Stats.{PeerStats, after_place}
use Rattle.stats_book.proofs.peer.PeerStats.after.Goals as goal

pub returns-in-Some-clause-first : goal.returns-in-Some-clause-first
returns-in-Some-clause-first c =
    rw c.in-Some.is (c.stat_in-in-Some.ensures ∙ first_shown deref_pair _ _ _ c.next-in-Some.ensures.steps
    ∙ ap (λ es. slice_get es 0) (c.range.ensures.between tt ∙ between-after kind_cmp c.of-kind.result c.self.inside.values.entries)
    ∙ ap (λ (k : KindValue). slice_get (filter (λ e. is_lt (kind_cmp k e.0)) c.self.inside.values.entries) 0) c.of-kind.ensures
    ∙ ap (λ (v : PeerStats). slice_get (after_place (Some c.in-Some.place) v) 0) c.self.view_is)
