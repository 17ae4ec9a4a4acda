use Rattle.std.proofs.Common.{◌∙◌, ◌<◌, ◌≤◌, Some, ap, sym, subst, length, get_or, arith, rules, refl}
use Rattle.std.specs.Option.{option_map}
use Rattle.std.proofs.lemmas.List.{get_or_default}
use Rattle.route_runs.specs.Override.{value_at}
use Rattle.route_runs.specs.Places.{told, is_after, IsAfterPoint, IsFirstPair}
use Rattle.route_runs.specs.Rows.{sets_of, set_at, IsHandle}
use Rattle.route_runs.proofs.Onward.{onward_none, onward_some}
use Rattle.route_runs.proofs.Searching.{all_at}
use Rattle.route_runs.proofs.UpTo.{over_none, over_some, over_kept}
use Rattle.route_runs.proofs.run.Run.next_over.Goals as goal

pub returns-then-at-len : goal.returns-then-at-len
returns-then-at-len g c earlier =
    let cmp = g.K.Ord.cmp in
    let p = subst (λ l. IsAfterPoint cmp c.args.place l c.near-at.result) c.deref.ensures.value c.near-at.ensures in
    let past : length c.self.inside.keys.items ≤ c.near-at.result = search rules in
    over_none cmp (is_after cmp c.args.place) (λ q. value_at cmp q c.args.self.now) earlier (option_map told c.args.earlier)
    (onward_none cmp g.met.K.Ord.total g.met.K.RunKey.exact (sets_of c.self.inside.packs.items) c.self.inside.keys.items c.self.inside.handles.items c.self.invariant c.args.place c.near-at.result p c.args.self.now c.self.view_is past)

pub returns-then-not-comes_up : goal.returns-then-not-comes_up
returns-then-not-comes_up g c earlier first =
    let cmp = g.K.Ord.cmp in
    let p = subst (λ l. IsAfterPoint cmp c.args.place l c.near-at.result) c.deref.ensures.value c.near-at.ensures in
    let lt : c.near-at.result < length c.self.inside.keys.items = search rules in
    let there = onward_some cmp g.met.K.Ord.total g.met.K.RunKey.exact (sets_of c.self.inside.packs.items) c.self.inside.keys.items c.self.inside.handles.items c.self.invariant c.args.place c.near-at.result p c.args.self.now c.self.view_is
    c.index.result.now (get_or c.self.inside.handles.items c.near-at.result 0) lt c.index.ensures (get_or_default c.self.inside.handles.items c.near-at.result 0 (get_or c.self.inside.handles.items c.near-at.result 0) (omega (arith, lt, c.self.invariant.even))) in
    over_kept cmp (is_after cmp c.args.place) (λ q. value_at cmp q c.args.self.now) earlier g.met.K.Ord.total g.met.K.RunKey.exact _ there (option_map told c.args.earlier) first (sym c.comes_up.ensures ∙ c.if-not-comes_up.true)

pub set_of-requires : goal.set_of-requires
set_of-requires g c =
    let lt : c.near-at.result < length c.self.inside.keys.items = search rules in
    let h = all_at (IsHandle (sets_of c.self.inside.packs.items)) c.self.inside.handles.items c.self.invariant.handles c.near-at.result c.index-2.result.now (omega (arith, lt, c.self.invariant.even)) in
    subst (λ p. IsHandle (sets_of p) c.index-2.result.now) (sym c.deref-2.ensures.value) (subst (IsHandle (sets_of c.self.inside.packs.items)) (sym c.index-2.ensures) h)

pub returns : goal.returns
returns g c earlier first =
    let cmp = g.K.Ord.cmp in
    let p = subst (λ l. IsAfterPoint cmp c.args.place l c.near-at.result) c.deref.ensures.value c.near-at.ensures in
    let lt : c.near-at.result < length c.self.inside.keys.items = search rules in
    let there = onward_some cmp g.met.K.Ord.total g.met.K.RunKey.exact (sets_of c.self.inside.packs.items) c.self.inside.keys.items c.self.inside.handles.items c.self.invariant c.args.place c.near-at.result p c.args.self.now c.self.view_is
    c.index.result.now c.index-2.result.now lt c.index.ensures c.index-2.ensures in
    let set = c.set_of.ensures ∙ ap (λ p. set_at (sets_of p) c.index-2.result.now) c.deref-2.ensures.value in
    let shown = subst (λ o. IsFirstPair cmp (is_after cmp c.args.place) (λ q. value_at cmp q c.args.self.now) (c.index.result.now, o)) (sym set) there in
    over_some cmp (is_after cmp c.args.place) (λ q. value_at cmp q c.args.self.now) earlier g.met.K.Ord.total g.met.K.RunKey.exact _ shown (option_map told c.args.earlier) first (sym c.comes_up.ensures ∙ c.if-not-comes_up.false)
