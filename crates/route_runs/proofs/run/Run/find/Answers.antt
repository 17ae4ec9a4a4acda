use Rattle.std.proofs.Common.{◌∙◌, ◌<◌, Some, ap, sym, subst, length, arith}
use Rattle.route_runs.specs.Override.{value_at}
use Rattle.route_runs.specs.Rows.{sets_of, set_at, IsHandle}
use Rattle.route_runs.proofs.Searching.{all_at, found_row, missing_row}
use Rattle.route_runs.proofs.run.Run.find.Goals as goal

pub set_of-requires : goal.set_of-requires
set_of-requires g c =
    let lt : c.in-Ok.at < length c.self.inside.keys.items = rw c.deref.ensures.value at c.in-Ok.ensures.bound in
    let h = all_at (IsHandle (sets_of c.self.inside.packs.items)) c.self.inside.handles.items c.self.invariant.handles c.in-Ok.at c.index.result.now (omega (arith, lt, c.self.invariant.even)) in
    subst (λ p. IsHandle (sets_of p) c.index.result.now) (sym c.deref-in-Ok.ensures.value) (subst (IsHandle (sets_of c.self.inside.packs.items)) (sym c.index.ensures) h)

pub returns-in-Ok : goal.returns-in-Ok
returns-in-Ok g c =
    let lt : c.in-Ok.at < length c.self.inside.keys.items = rw c.deref.ensures.value at c.in-Ok.ensures.bound in
    let holds = rw c.deref.ensures.value at c.in-Ok.ensures.ok in
    ap Some (c.set_of.ensures ∙ ap (λ p. set_at (sets_of p) c.index.result.now) c.deref-in-Ok.ensures.value)
    ∙ sym (found_row g.K.Ord.cmp g.met.K.Ord.total g.met.K.RunKey.exact (sets_of c.self.inside.packs.items) c.self.inside.keys.items c.self.inside.handles.items c.self.invariant c.in-Ok.at c.args.key.now c.index.result.now lt holds c.index.ensures)
    ∙ ap (value_at g.K.Ord.cmp c.args.key.now) c.self.view_is

pub returns-in-Err : goal.returns-in-Err
returns-in-Err g c =
    let point = rw c.deref.ensures.value at c.in-Err.ensures.position in
    sym (missing_row g.K.Ord.cmp g.met.K.Ord.total g.met.K.RunKey.exact (sets_of c.self.inside.packs.items) c.self.inside.keys.items c.self.inside.handles.items c.self.invariant c.args.key.now _ point)
    ∙ ap (value_at g.K.Ord.cmp c.args.key.now) c.self.view_is
