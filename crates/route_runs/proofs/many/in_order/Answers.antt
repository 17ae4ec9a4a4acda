use Rattle.std.proofs.Common.{subst}
use Rattle.std.specs.List.Sorted.{IsStrictlySortedBy}
use Rattle.route_runs.proofs.many.in_order.Goals as goal

pub returns-then-keys_rise : goal.returns-then-keys_rise
returns-then-keys_rise g c = record {
  ordered = subst (IsStrictlySortedBy g.K.Ord.cmp) c.deref.ensures.value (c.keys_rise.ensures c.if-keys_rise.true);
  same = record { to = λ q has. has; from = λ q has. has };
}
