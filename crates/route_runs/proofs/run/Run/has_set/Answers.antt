use Rattle.std.proofs.Common.{◌≡◌, ◌∙◌, ◌-◌, ◌<◌, Some, false, true, ap, sym, subst, length, arith}
use Rattle.std.specs.Ordering.{is_eq}
use Rattle.std.specs.Option.{is_some, option_map}
use Rattle.std.proofs.lemmas.List.{get_or_default}
use Rattle.route_runs.specs.Override.{value_at}
use Rattle.route_runs.specs.Places.{IsAfterPoint}
use Rattle.route_runs.specs.Rows.{sets_of, IsHandle}
use Rattle.route_runs.proofs.Searching.{all_at, found_row}
use Rattle.route_runs.proofs.Hints.{holds_here, none_here}
use Rattle.route_runs.proofs.CountingRuns.{set_is}
use Rattle.route_runs.proofs.run.Run.has_set.Goals as goal

pub returns-then-at-eq0 : goal.returns-then-at-eq0
returns-then-at-eq0 g c =
    let p = subst (λ l. IsAfterPoint g.K.Ord.cmp (Some c.args.key.now) l c.near_key-at.result) c.deref.ensures.value c.near_key-at.ensures in
    ap (option_map is_some) (sym (none_here g.K.Ord.cmp g.met.K.Ord.total g.met.K.RunKey.exact (sets_of c.self.inside.packs.items) c.self.inside.keys.items c.self.inside.handles.items c.self.invariant c.args.key.now c.near_key-at.result p (λ d some. absurd (omega (arith, some, c.if-at-eq0.true))))
    ∙ ap (value_at g.K.Ord.cmp c.args.key.now) c.self.view_is)

pub returns : goal.returns
returns g c =
    let p = subst (λ l. IsAfterPoint g.K.Ord.cmp (Some c.args.key.now) l c.near_key-at.result) c.deref.ensures.value c.near_key-at.ensures in
    let at = c.near_key-at.result - 1 in
    let lt : at < length c.self.inside.keys.items = omega (arith, p.within, c.if-at-eq0.false) in
    let other : is_eq (g.K.Ord.cmp c.index.result.now c.args.key.now) ≡ false = sym c.is_same.ensures ∙ c.if-is_same.false in
    ap (option_map is_some) (sym (none_here g.K.Ord.cmp g.met.K.Ord.total g.met.K.RunKey.exact (sets_of c.self.inside.packs.items) c.self.inside.keys.items c.self.inside.handles.items c.self.invariant c.args.key.now c.near_key-at.result p
    (λ d some. ap (λ y. is_eq (g.K.Ord.cmp y c.args.key.now)) (get_or_default c.self.inside.keys.items at d c.index.result.now lt ∙ sym c.index.ensures) ∙ other))
    ∙ ap (value_at g.K.Ord.cmp c.args.key.now) c.self.view_is)

pub returns-then-is_same : goal.returns-then-is_same
returns-then-is_same g c =
    let p = subst (λ l. IsAfterPoint g.K.Ord.cmp (Some c.args.key.now) l c.near_key-at.result) c.deref.ensures.value c.near_key-at.ensures in
    let at = c.near_key-at.result - 1 in
    let lt : at < length c.self.inside.keys.items = omega (arith, p.within, c.if-at-eq0.false) in
    let same : is_eq (g.K.Ord.cmp c.index.result.now c.args.key.now) ≡ true = sym c.is_same.ensures ∙ c.if-is_same.true in
    let holds = holds_here g.K.Ord.cmp c.self.inside.keys.items c.args.key.now at c.index.result.now lt c.index.ensures same in
    let handle = c.index-then-is_same.result.now in
    let known : IsHandle (sets_of c.self.inside.packs.items) handle = subst (IsHandle (sets_of c.self.inside.packs.items)) (sym c.index-then-is_same.ensures)
    (all_at (IsHandle (sets_of c.self.inside.packs.items)) c.self.inside.handles.items c.self.invariant.handles at handle (omega (arith, lt, c.self.invariant.even))) in
    ap Some (sym (set_is (sets_of c.self.inside.packs.items) handle known))
    ∙ ap (option_map is_some) (sym (found_row g.K.Ord.cmp g.met.K.Ord.total g.met.K.RunKey.exact (sets_of c.self.inside.packs.items) c.self.inside.keys.items c.self.inside.handles.items c.self.invariant at c.args.key.now handle lt holds c.index-then-is_same.ensures)
    ∙ ap (value_at g.K.Ord.cmp c.args.key.now) c.self.view_is)
