use Rattle.std.proofs.Common.{◌∙◌, Some, drop, sym, ap, subst, arith}
use Rattle.std.specs.Option.{option_map}
use Rattle.route_runs.specs.Rows.{sets_of, set_at, IsHandle}
use Rattle.route_runs.specs.Sift.{front}
use Rattle.route_runs.proofs.Searching.{all_at}
use Rattle.route_runs.proofs.SiftingRows.{set_row_at, there}
use Rattle.route_runs.proofs.spots.set_in.Goals as goal

pub index-requires : goal.index-requires
index-requires g c =
    let lt = there (sets_of c.run.inside.packs.items) c.run.inside.keys.items c.run.inside.handles.items c.args.run.now c.args.at c.run.invariant.even c.run.view_is c.requires in
    omega (arith, lt, c.run.invariant.even)

pub set_of-requires : goal.set_of-requires
set_of-requires g c =
    let lt = there (sets_of c.run.inside.packs.items) c.run.inside.keys.items c.run.inside.handles.items c.args.run.now c.args.at c.run.invariant.even c.run.view_is c.requires in
    let h = all_at (IsHandle (sets_of c.run.inside.packs.items)) c.run.inside.handles.items c.run.invariant.handles c.args.at c.index.result.now (omega (arith, lt, c.run.invariant.even)) in
    subst (λ p. IsHandle (sets_of p) c.index.result.now) (sym c.deref.ensures.value) (subst (IsHandle (sets_of c.run.inside.packs.items)) (sym c.index.ensures) h)

pub returns : goal.returns
returns g c =
    let packs = sets_of c.run.inside.packs.items in
    let lt = there packs c.run.inside.keys.items c.run.inside.handles.items c.args.run.now c.args.at c.run.invariant.even c.run.view_is c.requires in
    ap Some (c.set_of.ensures ∙ ap (λ p. set_at (sets_of p) c.index.result.now) c.deref.ensures.value ∙ ap (set_at packs) c.index.ensures)
    ∙ sym (set_row_at packs c.run.inside.keys.items c.run.inside.handles.items c.args.at c.index.result.now c.run.invariant.even lt)
    ∙ ap (λ l. option_map (λ e. e.1) (front (drop c.args.at l))) c.run.view_is
