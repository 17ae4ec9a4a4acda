use Rattle.std.proofs.Common.{◌∙◌, ap, sym, subst}
use Rattle.route_runs.specs.Rows.{sets_of, rows}
use Rattle.route_runs.specs.Gathering.{IsRenamed}
use Rattle.route_runs.proofs.Renaming.{rows_renamed}
use Rattle.route_runs.proofs.run.Run.tidy.Goals as goal

pub returns : goal.returns
returns g c =
    let old = sets_of c.self.inside.packs.items in
    let new = sets_of c.turn.new.out.packs.items in
    let r : IsRenamed old c.self.inside.handles.items new c.in_ok-handles.handles.items =
    subst (λ p. IsRenamed old c.self.inside.handles.items p c.in_ok-handles.handles.items) (sym c.in_ok-turn.ensures.packs) (rw (← c.deref.ensures.value, ← c.deref-2.ensures.value) c.in_ok-handles.ensures) in
    ap (λ k. rows new k c.in_ok-handles.handles.items) (c.in_ok-keys.ensures ∙ c.deref-3.ensures.value) ∙ rows_renamed old new c.self.inside.keys.items c.self.inside.handles.items c.in_ok-handles.handles.items r.same ∙ c.self.view_is
