use Rattle.std.proofs.Common.{◌≡◌, ℕ, ◌+◌, ◌-◌, ◌<◌, length, get_or, slice_index, sym, subst, ◌∙◌, arith, true≢false}
use Rattle.std.proofs.lemmas.List.{get_or_default}
use Rattle.bmp_specs.specs.Containment.{ContainsPrefix}
use Rattle.rov_table.specs.declared.vrp.Vrp.{Vrp}
use Rattle.rov_table.specs.Index.{NoneContains, IsParent}
use Rattle.rov_table.proofs.Walk.{walked}
use Rattle.rov_table.proofs.nearest.nearest.Goals as goal

pub loop-left-preserved : goal.loop-left-preserved
loop-left-preserved c =
    let i = c.loop-left.left - 1 in
    let inside : i < length c.args.sorted.now = omega (arith, c.loop-left-test.true, c.requires.within, c.requires.whole, c.loop-left.invariant.0) in
    let is : IsParent c.args.sorted.now i (slice_index c.args.parents.now i) = c.requires.nested.each i (omega (arith, c.loop-left-test.true, c.requires.within, c.loop-left.invariant.0)) in
    let here : (d : Vrp) → ContainsPrefix (get_or c.args.sorted.now i d).prefix c.args.prefix.now → ⊥ =
    λ d holds. true≢false (sym (c.contains.ensures.1 (subst (λ (v : Vrp). ContainsPrefix v.prefix c.args.prefix.now) (get_or_default c.args.sorted.now i d c.index-sorted-at.result inside) holds)) ∙ c.if-contains.false) in
    let next : c.loop-left.left ≡ i + 1 = omega (arith, c.loop-left-test.true) in (
      omega (arith, is.before, c.loop-left.invariant.0),
      walked c.args.sorted.now c.requires.nested.exact c.requires.nested.ordered c.args.prefix.now c.requires.exact i (slice_index c.args.parents.now i) c.args.from is inside
          (λ d. c.requires.before i d (omega (arith, c.loop-left-test.true, c.loop-left.invariant.0))) here (subst (λ (n : ℕ). NoneContains c.args.sorted.now c.args.prefix.now n c.args.from) next c.loop-left.invariant.1),
    )
