use Rattle.std.proofs.Common.{◌≡◌, ◌∙◌, ◌<◌, length, ap, sym, subst, arith, rules}
use Rattle.std.specs.Map.{keys_of}
use Rattle.std.proofs.lemmas.List.{length-map}
use Rattle.route_runs.specs.Gathering.{gathered}
use Rattle.route_runs.specs.Layers.{handles_of}
use Rattle.route_runs.specs.Override.{value_at}
use Rattle.route_runs.specs.Rows.{sets_of, rows, IsRun}
use Rattle.route_runs.proofs.Listing.{run_of_list, run_says}
use Rattle.route_runs.proofs.listed.Listed.run_of_all.Goals as goal

pub invariant_of-result : goal.invariant_of-result
invariant_of-result g c =
    let cmp = g.K.Ord.cmp in
    let old = gathered c.self.inside.sets.packs.items c.self.inside.sets.now.items in
    let new = sets_of c.turn.new.out.packs.items in
    let zs = c.in_ok-rows.rows.items in
    let packs : new ≡ old = c.in_ok-turn.ensures.packs in
    let ks : c.in_ok-keys.keys.items ≡ keys_of zs = c.in_ok-keys.ensures ∙ ap keys_of c.as_slice.ensures.value in
    let vs : c.in_ok-handles.handles.items ≡ handles_of zs = c.in_ok-handles.ensures ∙ ap handles_of c.as_slice-2.ensures.value in
    let n : length new ≡ c.len.result = length-map c.turn.new.out.packs.items _ ∙ search rules in
    let few : length new < 1048576 = omega (arith, n, c.if-len-ge1048576.false) in
    let base = run_of_list cmp g.met.K.Ord.total g.met.K.RunKey.exact old c.self.inside.rows.items zs c.self.invariant c.in_ok-rows.ensures.ordered c.in_ok-rows.ensures.values (subst (λ p. length p < 1048576) packs few) in
    subst (λ v. IsRun cmp new c.in_ok-keys.keys.items v) (sym vs) (subst (λ k. IsRun cmp new k (handles_of zs)) (sym ks) (subst (λ p. IsRun cmp p (keys_of zs) (handles_of zs)) (sym packs) base))

pub returns : goal.returns
returns g c q =
    let cmp = g.K.Ord.cmp in
    let old = gathered c.self.inside.sets.packs.items c.self.inside.sets.now.items in
    let new = sets_of c.turn.new.out.packs.items in
    let zs = c.in_ok-rows.rows.items in
    let packs : new ≡ old = c.in_ok-turn.ensures.packs in
    let ks : c.in_ok-keys.keys.items ≡ keys_of zs = c.in_ok-keys.ensures ∙ ap keys_of c.as_slice.ensures.value in
    let vs : c.in_ok-handles.handles.items ≡ handles_of zs = c.in_ok-handles.ensures ∙ ap handles_of c.as_slice-2.ensures.value in
    ap (λ p. value_at cmp q (rows p c.in_ok-keys.keys.items c.in_ok-handles.handles.items)) packs
    ∙ ap (λ k. value_at cmp q (rows old k c.in_ok-handles.handles.items)) ks
    ∙ ap (λ v. value_at cmp q (rows old (keys_of zs) v)) vs
    ∙ run_says cmp g.met.K.Ord.total g.met.K.RunKey.exact old c.self.inside.rows.items zs c.self.invariant c.in_ok-rows.ensures.ordered c.in_ok-rows.ensures.values q
    ∙ ap (value_at cmp q) c.self.view_is
