use Rattle.std.proofs.Common.{◌∙◌, ◌-◌, ◌<◌, Some, ap, sym, subst, length, arith}
use Rattle.std.specs.Option.{option_map}
use Rattle.route_runs.specs.Override.{value_at}
use Rattle.route_runs.specs.Places.{told, turned, is_from, IsAfterPoint, IsFirstPair}
use Rattle.route_runs.specs.Rows.{sets_of, set_at, IsHandle}
use Rattle.route_runs.proofs.Searching.{all_at, turned_total, turned_exact}
use Rattle.route_runs.proofs.UpTo.{row_there, up_to_none, up_to_some, over_none, over_some, over_kept}
use Rattle.route_runs.proofs.run.Run.last_over.Goals as goal

pub returns-then-at-eq0 : goal.returns-then-at-eq0
returns-then-at-eq0 g c earlier =
    let cmp = g.K.Ord.cmp in
    let p = subst (λ l. IsAfterPoint cmp (Some c.args.place.now) l c.after_place-at.result) c.deref.ensures.value c.after_place-at.ensures in
    over_none (turned cmp) (is_from (turned cmp) c.args.place.now) (λ q. value_at cmp q c.args.self.now) earlier (option_map told c.args.earlier)
    (λ q test. ap (value_at cmp q) (sym c.self.view_is) ∙ up_to_none cmp g.met.K.Ord.total g.met.K.RunKey.exact (sets_of c.self.inside.packs.items) c.self.inside.keys.items c.self.inside.handles.items c.self.invariant c.args.place.now c.after_place-at.result p c.if-at-eq0.true q test)

pub returns-then-not-reaches : goal.returns-then-not-reaches
returns-then-not-reaches g c earlier first =
    let cmp = g.K.Ord.cmp in
    let p = subst (λ l. IsAfterPoint cmp (Some c.args.place.now) l c.after_place-at.result) c.deref.ensures.value c.after_place-at.ensures in
    let there = row_there cmp g.met.K.Ord.total g.met.K.RunKey.exact (sets_of c.self.inside.packs.items) c.self.inside.keys.items c.self.inside.handles.items c.self.invariant c.args.place.now c.after_place-at.result p c.args.self.now c.self.view_is c.index.result.now (omega (arith, c.if-at-eq0.false)) c.index.ensures in
    over_kept (turned cmp) (is_from (turned cmp) c.args.place.now) (λ q. value_at cmp q c.args.self.now) earlier (turned_total cmp g.met.K.Ord.total g.met.K.RunKey.exact) (turned_exact cmp g.met.K.RunKey.exact) _ there (option_map told c.args.earlier) first (sym c.reaches.ensures ∙ c.if-not-reaches.true)

pub set_of-requires : goal.set_of-requires
set_of-requires g c =
    let p = subst (λ l. IsAfterPoint g.K.Ord.cmp (Some c.args.place.now) l c.after_place-at.result) c.deref.ensures.value c.after_place-at.ensures in
    let at = c.after_place-at.result - 1 in
    let lt : at < length c.self.inside.keys.items = omega (arith, p.within, c.if-at-eq0.false) in
    let h = all_at (IsHandle (sets_of c.self.inside.packs.items)) c.self.inside.handles.items c.self.invariant.handles at c.index-2.result.now (omega (arith, lt, c.self.invariant.even)) in
    subst (λ p. IsHandle (sets_of p) c.index-2.result.now) (sym c.deref-2.ensures.value) (subst (IsHandle (sets_of c.self.inside.packs.items)) (sym c.index-2.ensures) h)

pub returns : goal.returns
returns g c earlier first =
    let cmp = g.K.Ord.cmp in
    let p = subst (λ l. IsAfterPoint cmp (Some c.args.place.now) l c.after_place-at.result) c.deref.ensures.value c.after_place-at.ensures in
    let there = up_to_some cmp g.met.K.Ord.total g.met.K.RunKey.exact (sets_of c.self.inside.packs.items) c.self.inside.keys.items c.self.inside.handles.items c.self.invariant c.args.place.now c.after_place-at.result p c.index.result.now c.index-2.result.now (omega (arith, c.if-at-eq0.false)) c.index.ensures c.index-2.ensures in
    let set = c.set_of.ensures ∙ ap (λ p. set_at (sets_of p) c.index-2.result.now) c.deref-2.ensures.value in
    let shown = subst (λ o. IsFirstPair (turned cmp) (is_from (turned cmp) c.args.place.now) (λ q. value_at cmp q c.args.self.now) (c.index.result.now, o)) (sym set)
    (subst (λ l. IsFirstPair (turned cmp) (is_from (turned cmp) c.args.place.now) (λ q. value_at cmp q l) (c.index.result.now, set_at (sets_of c.self.inside.packs.items) c.index-2.result.now)) c.self.view_is there) in
    over_some (turned cmp) (is_from (turned cmp) c.args.place.now) (λ q. value_at cmp q c.args.self.now) earlier (turned_total cmp g.met.K.Ord.total g.met.K.RunKey.exact) (turned_exact cmp g.met.K.RunKey.exact) _ shown (option_map told c.args.earlier) first (sym c.reaches.ensures ∙ c.if-not-reaches.false)
