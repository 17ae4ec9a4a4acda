use Rattle.std.proofs.Common.{◌≡◌, ℕ, true, false, eqb, arith}
use Rattle.std.proofs.lemmas.Bool.Decides.{nat_tests}
use Rattle.plain_model.proofs.Walking.{walking_more, walking_stops, stops_bad, walking_breaks, walking_terminates}
use Rattle.plain_model.proofs.stream.walk.Goals as goal

is_five : (n : ℕ) → n ≡ 5 → eqb n 5 ≡ true
is_five n h = grind (arith, nat_tests)

is_other : (n : ℕ) → (n ≡ 5 → ⊥) → eqb n 5 ≡ false
is_other n h = grind (arith, nat_tests)

pub returns-in_default : goal.returns-in_default
returns-in_default g c = walking_breaks _ _ _ _ _ _ _ _ _ c.messages.invariant c.in-Message.ensures c.in_default.ensures.nothing

pub returns-then-rest-eq-TERMINATION : goal.returns-then-rest-eq-TERMINATION
returns-then-rest-eq-TERMINATION g c = rw c.in_ok-push-in-Message.ensures.items (walking_terminates _ _ _ _ _ _ _ _ _ _ _ c.messages.invariant c.in-Message.ensures c.in-Some.ensures.meaning (is_five _ c.if-rest-eq-TERMINATION.true))

pub messages-preserved : goal.messages-preserved
messages-preserved g c = rw c.in_ok-push-in-Message.ensures.items (walking_more _ _ _ _ _ _ _ _ _ _ _ c.messages.invariant c.in-Message.ensures c.in-Some.ensures.meaning (is_other _ c.if-rest-eq-TERMINATION.false))

pub returns-in-Nothing : goal.returns-in-Nothing
returns-in-Nothing g c = walking_stops _ _ _ _ _ _ _ _ c.messages.invariant c.in-Nothing.ensures

pub returns-in-Part : goal.returns-in-Part
returns-in-Part g c = walking_stops _ _ _ _ _ _ _ _ c.messages.invariant c.in-Part.ensures

pub returns-in-Bad : goal.returns-in-Bad
returns-in-Bad g c = walking_stops _ _ _ _ _ _ _ _ c.messages.invariant (stops_bad _ _ _ _ c.in-Bad.ensures)
