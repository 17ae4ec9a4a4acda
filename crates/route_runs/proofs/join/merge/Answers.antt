use Rattle.std.proofs.Common.{◌≡◌, ◌∙◌, ◌*◌, ◌<◌, ◌++◌, length, map, ap, sym, subst, arith, rules, length-append}
use Rattle.std.proofs.lemmas.List.{length-map}
use Rattle.std.proofs.lemmas.Result.{IfOk-weaker}
use Rattle.route_runs.specs.Override.{IsOverride}
use Rattle.route_runs.specs.Rows.{sets_of, paired, rows, IsRun}
use Rattle.route_runs.specs.Weave.{shifted, IsWoven}
use Rattle.route_runs.proofs.Overriding.{run_of, overrides as both_override}
use Rattle.route_runs.proofs.join.merge.Goals as goal

pub invariant_of-both : goal.invariant_of-both
invariant_of-both g c =
    let pa = sets_of c.earlier.inside.packs.items in
    let pb = sets_of c.later.inside.packs.items in
    let first : length pa ≡ c.len-first.result = length-map c.earlier.inside.packs.items _ ∙ search rules in
    let second : length pb ≡ c.len-second.result = length-map c.later.inside.packs.items _ ∙ search rules in
    let few : length (pa ++ pb) < 1048576 = omega (arith, length-append pa pb, first, second, c.if-first-second-ge1048576.false) in
    let packs : sets_of c.in_ok-packs.packs.items ≡ pa ++ pb = c.in_ok-packs.ensures ∙ ap (λ l. sets_of l ++ sets_of c.deref-2.result.now) c.deref.ensures.value ∙ ap (λ l. pa ++ sets_of l) c.deref-2.ensures.value in
    let w : IsWoven g.K.Ord.cmp c.args.bottom (paired c.earlier.inside.keys.items c.earlier.inside.handles.items) (paired c.later.inside.keys.items (map (shifted (4096 * length pa)) c.later.inside.handles.items)) c.in_ok-rows.rows.keys.items c.in_ok-rows.rows.handles.items
    = rw (first, ← c.deref-3.ensures.value, ← c.deref-4.ensures.value, ← c.deref-5.ensures.value, ← c.deref-6.ensures.value) c.in_ok-rows.ensures.woven in
    subst (λ p. IsRun g.K.Ord.cmp p c.in_ok-rows.rows.keys.items c.in_ok-rows.rows.handles.items) (sym packs)
    (run_of g.K.Ord.cmp g.met.K.Ord.total g.met.K.RunKey.exact pa pb _ _ _ _ c.earlier.invariant c.later.invariant few c.args.bottom _ _ w)

pub returns : goal.returns
returns g c =
    let pa = sets_of c.earlier.inside.packs.items in
    let pb = sets_of c.later.inside.packs.items in
    let first : length pa ≡ c.len-first.result = length-map c.earlier.inside.packs.items _ ∙ search rules in
    let second : length pb ≡ c.len-second.result = length-map c.later.inside.packs.items _ ∙ search rules in
    let few : length (pa ++ pb) < 1048576 = omega (arith, length-append pa pb, first, second, c.if-first-second-ge1048576.false) in
    let packs : sets_of c.in_ok-packs.packs.items ≡ pa ++ pb = c.in_ok-packs.ensures ∙ ap (λ l. sets_of l ++ sets_of c.deref-2.result.now) c.deref.ensures.value ∙ ap (λ l. pa ++ sets_of l) c.deref-2.ensures.value in
    let w : IsWoven g.K.Ord.cmp c.args.bottom (paired c.earlier.inside.keys.items c.earlier.inside.handles.items) (paired c.later.inside.keys.items (map (shifted (4096 * length pa)) c.later.inside.handles.items)) c.in_ok-rows.rows.keys.items c.in_ok-rows.rows.handles.items
    = rw (first, ← c.deref-3.ensures.value, ← c.deref-4.ensures.value, ← c.deref-5.ensures.value, ← c.deref-6.ensures.value) c.in_ok-rows.ensures.woven in
    let overrides : IsOverride g.K.Ord.cmp c.args.bottom c.args.earlier.now c.args.later.now (rows (sets_of c.in_ok-packs.packs.items) c.in_ok-rows.rows.keys.items c.in_ok-rows.rows.handles.items) =
    subst (λ e. IsOverride g.K.Ord.cmp c.args.bottom e c.args.later.now (rows (sets_of c.in_ok-packs.packs.items) c.in_ok-rows.rows.keys.items c.in_ok-rows.rows.handles.items)) c.earlier.view_is
    (subst (λ e. IsOverride g.K.Ord.cmp c.args.bottom (rows pa c.earlier.inside.keys.items c.earlier.inside.handles.items) e (rows (sets_of c.in_ok-packs.packs.items) c.in_ok-rows.rows.keys.items c.in_ok-rows.rows.handles.items)) c.later.view_is
    (subst (λ p. IsOverride g.K.Ord.cmp c.args.bottom (rows pa c.earlier.inside.keys.items c.earlier.inside.handles.items) (rows pb c.later.inside.keys.items c.later.inside.handles.items) (rows p c.in_ok-rows.rows.keys.items c.in_ok-rows.rows.handles.items)) (sym packs)
    (both_override g.K.Ord.cmp g.met.K.Ord.total g.met.K.RunKey.exact pa pb _ _ _ _ c.earlier.invariant c.later.invariant few c.args.bottom _ _ w))) in
    IfOk-weaker c.in_few_packs.result _ (IsOverride g.K.Ord.cmp c.args.bottom c.args.earlier.now c.args.later.now) (λ r e. subst (IsOverride g.K.Ord.cmp c.args.bottom c.args.earlier.now c.args.later.now) (sym e) overrides) c.in_few_packs.ensures
