use Rattle.std.proofs.Common.{◌≡◌, ℕ, ◌-◌, ◌<◌, length, get_or, slice_index, sym, subst, ◌∙◌, arith, true≢false}
use Rattle.std.proofs.lemmas.List.{get_or_read}
use Rattle.rov_table.specs.declared.vrp.Vrp.{Vrp}
use Rattle.rov_table.specs.Index.{IsNearest, IsParent}
use Rattle.rov_table.specs.Verdicts.{Allows}
use Rattle.rov_table.proofs.Judging.{Stands, none_covers, is_valid, is_invalid, starts, goes_on}
use Rattle.rov_table.proofs.judge.judge.Goals as goal

pub loop-left-init : goal.loop-left-init
loop-left-init c =
    let some : 0 < c.nearest-left.result = omega (arith, c.if-left-eq0.false) in
    starts c.args.sorted.now c.args.prefix.now c.args.origin c.count_up_to-count.result c.nearest-left.result (record { prefix = c.args.prefix.now; max = 0; asn = 0 })
    c.count_up_to-count.ensures.within c.count_up_to-count.ensures.before c.count_up_to-count.ensures.none c.nearest-left.ensures some

pub loop-left-preserved : goal.loop-left-preserved
loop-left-preserved c =
    let i = c.loop-left.left - 1 in
    let at = c.loop-left.invariant in
    let inside : i < length c.args.sorted.now = omega (arith, c.loop-left-test.true, at.within) in
    let is : IsParent c.args.sorted.now i (slice_index c.args.parents.now i) = c.requires.nested.each i (omega (arith, inside, c.requires.whole)) in
    let refused : (d : Vrp) → Allows (get_or c.args.sorted.now i d) c.args.prefix.now c.args.origin → ⊥ =
    λ d allows. true≢false (sym (c.allows.ensures.1 (subst (λ (v : Vrp). Allows v c.args.prefix.now c.args.origin) (sym (get_or_read c.args.sorted.now i c.index-sorted-left.result inside c.index-sorted-left.is d)) allows)) ∙ c.if-allows.false) in
    goes_on c.args.sorted.now c.args.prefix.now c.args.origin c.args.parents.now c.requires.nested c.requires.whole c.requires.exact c.loop-left.left (slice_index c.args.parents.now i) c.nearest-left-in-loop-left.result at c.loop-left-test.true
    is refused c.nearest-left-in-loop-left.ensures

pub returns-then-left-eq0 : goal.returns-then-left-eq0
returns-then-left-eq0 c = none_covers c.args.sorted.now c.args.prefix.now c.args.origin c.count_up_to-count.result (subst (λ (n : ℕ). IsNearest c.args.sorted.now c.count_up_to-count.result c.args.prefix.now n) c.if-left-eq0.true c.nearest-left.ensures) c.count_up_to-count.ensures.none

pub returns-then-allows : goal.returns-then-allows
returns-then-allows c =
    let i = c.loop-left.left - 1 in
    let at = c.loop-left.invariant in
    let inside : i < length c.args.sorted.now = omega (arith, c.loop-left-test.true, at.within) in
    is_valid c.args.sorted.now c.args.prefix.now c.args.origin c.loop-left.left c.index-sorted-left.result at c.loop-left-test.true
    (subst (λ (v : Vrp). Allows v c.args.prefix.now c.args.origin) (get_or_read c.args.sorted.now i c.index-sorted-left.result inside c.index-sorted-left.is c.index-sorted-left.result) (c.allows.ensures.0 c.if-allows.true))

pub returns : goal.returns
returns c =
    let none : c.loop-left.left ≡ 0 = omega (arith, c.loop-left-test.false) in
    is_invalid c.args.sorted.now c.args.prefix.now c.args.origin (subst (λ (n : ℕ). Stands c.args.sorted.now c.args.prefix.now c.args.origin n) none c.loop-left.invariant)

pub nearest-left-requires-in-loop-left-clause-within : goal.nearest-left-requires-in-loop-left-clause-within
nearest-left-requires-in-loop-left-clause-within c =
    let i = c.loop-left.left - 1 in
    let is : IsParent c.args.sorted.now i (slice_index c.args.parents.now i) = c.requires.nested.each i (omega (arith, c.loop-left-test.true, c.loop-left.invariant.within, c.requires.whole)) in
    omega (arith, is.before, c.loop-left.invariant.within, c.requires.whole)

pub nearest-left-requires-in-loop-left-clause-before : goal.nearest-left-requires-in-loop-left-clause-before
nearest-left-requires-in-loop-left-clause-before c k d less =
    let i = c.loop-left.left - 1 in
    let is : IsParent c.args.sorted.now i (slice_index c.args.parents.now i) = c.requires.nested.each i (omega (arith, c.loop-left-test.true, c.loop-left.invariant.within, c.requires.whole)) in
    c.loop-left.invariant.before k d (omega (arith, less, is.before))
