use Rattle.std.proofs.Common.{[], ◌∷◌, ◌++◌, refl, sym, ap, subst, ◌∙◌}
use Rattle.std.proofs.lemmas.Result.{on_ok_weaker}
use Rattle.bmp_specs.specs.Values.{ClosingValue, opened, closed}
use Rattle.router_tables.specs.Last.{LastValue, StandsForLast}
use Rattle.router_tables.specs.Session.{SessionValue}
use Rattle.router_tables.specs.State.{after_closing, is_live, state_value}
use Rattle.router_tables.proofs.SessionRows.{rows_opened, rows_closed, rows_message, rows_stay}
use Rattle.router_tables.proofs.SessionSteps.{stands_opened, stands_closed, stands_message, stands_unheard, seen, from_four}
use Rattle.router_tables.proofs.session.Session.take.Goals as goal

pub returns-then-not-is_live-clause-session : goal.returns-then-not-is_live-clause-session
returns-then-not-is_live-clause-session c = rw c.in-Message.is (λ entries h.
    stands_unheard c.args.self.now _ _ (ap (λ (s : SessionValue). is_live s.state) (sym c.self-in-Message.view_is) ∙ sym c.is_live.ensures ∙ c.if-not-is_live.true) entries h)

pub returns-then-not-is_live-clause-rows : goal.returns-then-not-is_live-clause-rows
returns-then-not-is_live-clause-rows c = rw c.in-Message.is (λ entries h rows.
    rows_stay c.args.self.now _ _ c.args.rows.now (ap (λ (s : SessionValue). is_live s.state) (sym c.self-in-Message.view_is) ∙ sym c.is_live.ensures ∙ c.if-not-is_live.true) entries h rows)

pub returns-in-Opened-clause-session : goal.returns-in-Opened-clause-session
returns-in-Opened-clause-session c = rw c.in-Opened.is (from_four c.start_over.result c.start_over.ensures.state c.start_over.ensures.counts c.start_over.ensures.books c.start_over.ensures.last
    (λ state counts books last entries h. stands_opened _ state counts books entries _ (subst (λ (l : LastValue). StandsForLast l (entries ++ opened c.in-Opened.came ∷ [])) (sym last) (c.open.ensures entries))))

pub returns-in-Opened-clause-rows : goal.returns-in-Opened-clause-rows
returns-in-Opened-clause-rows c = rw c.in-Opened.is (on_ok_weaker c.start_over.result (λ state entries h rows. rows_opened c.clear.new.self c.clear.ensures entries _) c.start_over.ensures.state)

pub returns-in_ok-take-in-Message-clause-session : goal.returns-in_ok-take-in-Message-clause-session
returns-in_ok-take-in-Message-clause-session c = rw (c.in-Message.is, ← c.as_slice-effects.ensures) (on_ok_weaker c.take_effects.result (λ takes entries h.
    stands_message _ _ _ _ (sym c.is_live.ensures ∙ c.if-not-is_live.false) refl c.count_message.ensures c.in_ok-take-in-Message.ensures takes entries (seen _ _ c.self-in-Message.view_is entries h)) c.take_effects.ensures.books)

pub returns-in_ok-take-in-Message-clause-rows : goal.returns-in_ok-take-in-Message-clause-rows
returns-in_ok-take-in-Message-clause-rows c = rw (c.in-Message.is, ← c.as_slice-effects.ensures) (on_ok_weaker c.take_effects.result (λ takes entries h rows.
    rows_message _ _ _ c.args.rows.now c.take_effects.new.rows (sym c.is_live.ensures ∙ c.if-not-is_live.false) takes entries (seen _ _ c.self-in-Message.view_is entries h) rows) c.take_effects.ensures.rows)

pub returns-in_ok-close-in-Closed-clause-session : goal.returns-in_ok-close-in-Closed-clause-session
returns-in_ok-close-in-Closed-clause-session c = rw c.in-Closed.is (from_four c.start_over-in-Closed.result c.start_over-in-Closed.ensures.state c.start_over-in-Closed.ensures.counts c.start_over-in-Closed.ensures.books c.start_over-in-Closed.ensures.last
    (λ state counts books last entries h. let was = seen _ _ c.self-in-Closed.view_is entries h in stands_closed c.args.self.now _ _ (state ∙ c.after_closing-state.ensures ∙ ap (λ (k : ClosingValue). after_closing (state_value c.self-in-Closed.inside.state) k.cause) c.closing.view_is ∙ ap (λ (s : SessionValue). after_closing s.state c.in-Closed.closing.cause) c.self-in-Closed.view_is) counts books entries h (subst (λ (l : LastValue). StandsForLast l (entries ++ closed c.in-Closed.closing ∷ [])) (sym last) (c.in_ok-close-in-Closed.ensures entries was.state was.counts was.books was.last))))

pub returns-in_ok-close-in-Closed-clause-rows : goal.returns-in_ok-close-in-Closed-clause-rows
returns-in_ok-close-in-Closed-clause-rows c = rw c.in-Closed.is (on_ok_weaker c.start_over-in-Closed.result (λ state entries h rows. rows_closed c.clear-in-Closed.new.self c.clear-in-Closed.ensures entries _) c.start_over-in-Closed.ensures.state)
