use Rattle.std.proofs.Common.{refl, sym, subst}
use Rattle.std.proofs.lemmas.Result.{on_ok_weaker}
use Rattle.router_tables.specs.Last.{LastValue, StandsForLast}
use Rattle.router_tables.proofs.LastSteps.{last_message}
use Rattle.router_tables.proofs.last.LastConnection.take.Goals as goal

pub returns : goal.returns
returns c = on_ok_weaker c.take.result (λ takes entries is_live h.
    last_message _ _ _ _ refl refl refl takes entries is_live (subst (λ (l : LastValue). StandsForLast l entries) (sym c.self.view_is) h)) c.take.ensures
