use Rattle.std.proofs.Common.{◌≡◌, None, Some, subst, arith}
use Rattle.route_runs.specs.Places.{turned, IsBeforePoint, IsNext, has_key}
use Rattle.route_runs.specs.Rows.{sets_of}
use Rattle.route_runs.proofs.Searching.{last_at, last_none}
use Rattle.route_runs.proofs.run.Run.last_key.Goals as goal

pub returns-then-at-gt0 : goal.returns-then-at-gt0
returns-then-at-gt0 g c =
    let p : IsBeforePoint g.K.Ord.cmp c.args.place c.self.inside.keys.items c.before_place-at.result = subst (λ l. IsBeforePoint g.K.Ord.cmp c.args.place l c.before_place-at.result) c.deref.ensures.value c.before_place-at.ensures in
    subst (λ l. IsNext (turned g.K.Ord.cmp) c.args.place (has_key g.K.Ord.cmp l) (Some c.index.result.now)) c.self.view_is
    (last_at g.K.Ord.cmp g.met.K.Ord.total g.met.K.RunKey.exact (sets_of c.self.inside.packs.items) c.self.inside.keys.items c.self.inside.handles.items c.self.invariant c.args.place c.before_place-at.result c.index.result.now p c.if-at-gt0.true c.index.ensures)

pub returns-else-at-gt0 : goal.returns-else-at-gt0
returns-else-at-gt0 g c =
    let p : IsBeforePoint g.K.Ord.cmp c.args.place c.self.inside.keys.items c.before_place-at.result = subst (λ l. IsBeforePoint g.K.Ord.cmp c.args.place l c.before_place-at.result) c.deref.ensures.value c.before_place-at.ensures in
    let le : c.before_place-at.result ≡ 0 = omega (arith, c.if-at-gt0.false) in
    subst (λ l. IsNext (turned g.K.Ord.cmp) c.args.place (has_key g.K.Ord.cmp l) None) c.self.view_is
    (last_none g.K.Ord.cmp g.met.K.Ord.total g.met.K.RunKey.exact (sets_of c.self.inside.packs.items) c.self.inside.keys.items c.self.inside.handles.items c.self.invariant c.args.place c.before_place-at.result p le)
