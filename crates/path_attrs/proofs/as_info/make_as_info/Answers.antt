use Rattle.std.proofs.Common.{refl, sym, ◌∙◌}
use Rattle.path_attrs.proofs.AsStated.{states_four, states_ignored, states_merged}
use Rattle.path_attrs.proofs.as_info.make_as_info.Goals as goal

pub returns-then-ignores : goal.returns-then-ignores
returns-then-ignores c =
    states_ignored _ c.in-Two.is _ _ _ _ c.in_ok-path.ensures c.make_aggregator-aggregator.ensures refl (sym c.ignores.ensures ∙ c.if-ignores.true)

pub returns-in-Four : goal.returns-in-Four
returns-in-Four c = states_four _ c.in-Four.is _ _ _ c.in_ok-path.ensures c.make_aggregator-aggregator.ensures

pub returns-in_ok-path-in-Two : goal.returns-in_ok-path-in-Two
returns-in_ok-path-in-Two c =
    states_merged _ c.in-Two.is _ _ _ _ _ _ _ c.in_ok-path.ensures c.make_aggregator-aggregator.ensures refl refl (sym c.ignores.ensures ∙ c.if-ignores.false) c.merge_aggregator-aggregator.ensures c.in_ok-path-in-Two.ensures
