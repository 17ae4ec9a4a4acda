use Rattle.std.proofs.Common.{◌≡◌, refl, sym, ap, ◌∙◌, subst}
use Rattle.std.specs.Arc.{arc_value}
use Rattle.bmp_specs.specs.Session.{live, shut, state_of}
use Rattle.bmp_specs.specs.Values.{ClosingValue}
use Rattle.ask_specs.proofs.LastOne.{last_is_present}
use Rattle.router_tables.specs.Last.{LastValue, LeftValue, StandsForLast, StandsForLeft}
use Rattle.router_tables.specs.State.{state_value}
use Rattle.router_tables.proofs.LastSteps.{closed_idle, closed_live, closed_shut}
use Rattle.router_tables.proofs.last.LastConnection.close.Goals as goal

pub returns-in-Idle : goal.returns-in-Idle
returns-in-Idle c entries state counted told h = closed_idle c.args.closing.now entries c.args.self.now (sym (ap state_value c.in-Idle.is) ∙ state) h

pub returns-in_ok-new-in-Live : goal.returns-in_ok-new-in-Live
returns-in_ok-new-in-Live c entries state counted told h =
    let is : live ≡ state_of entries = sym (ap state_value c.in-Live.is) ∙ state in
    let left : LeftValue = arc_value c.in_ok-new-in-Live.field-0 in
    closed_live c.args.closing.now entries _ _ left is refl (ap (λ (k : ClosingValue). k.until) c.closing.view_is) refl refl
    (subst (λ (l : LeftValue). StandsForLeft l entries) (sym c.in_ok-new-in-Live.ensures.ok)
    (c.in_ok-left-in-Live.ensures entries (last_is_present entries (λ cause shut_is. let e : live ≡ shut cause = is ∙ shut_is in cc)) counted told))
    (subst (λ (l : LastValue). StandsForLast l entries) (sym c.self.view_is) h)

pub returns-in-Closed : goal.returns-in-Closed
returns-in-Closed c entries state counted told h =
    closed_shut c.args.closing.now entries _ _ c.in-Closed.field-0 (sym (ap state_value c.in-Closed.is) ∙ state) refl (ap (λ (k : ClosingValue). k.until) c.closing.view_is) refl refl
    (subst (λ (l : LastValue). StandsForLast l entries) (sym c.self.view_is) h)
