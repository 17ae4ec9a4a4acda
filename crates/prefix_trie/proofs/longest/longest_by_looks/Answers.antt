use Rattle.std.proofs.Common.{◌≡◌, ◌<◌, ap, sym, ◌∙◌, subst, arith}
use Rattle.bmp_specs.specs.Prefix.{width_of}
use Rattle.prefix_trie.specs.Looking.{IsSearching}
use Rattle.prefix_trie.proofs.Search.{search_starts, search_fails, search_finds, search_nears, search_goes_on}
use Rattle.bmp_specs.proofs.Widths.{width_within}
use Rattle.prefix_trie.proofs.longest.longest_by_looks.Goals as goal

pub loop-place-init : goal.loop-place-init
loop-place-init g c =
    let wide : c.width-bits.result ≡ width_of c.args.addr.now.family = c.width-bits.ensures ∙ ap width_of (c.family.ensures.family ∙ sym c.requires) in
    let all = c.family.ensures.one_family in
    let starts = search_starts c.args.addr.now c.octets-octets.ensures.valid c.args.looks.now.family c.requires c.args.looks.now.pairs all in
    (subst (IsSearching c.args.addr.now c.args.looks.now.pairs) (sym wide) starts, omega (arith, wide))

pub returns-in_default-last_up_to-clause-longest : goal.returns-in_default-last_up_to-clause-longest
returns-in_default-last_up_to-clause-longest g c =
    let h = c.in_default-last_up_to.ensures in
    search_fails c.args.addr.now c.octets-octets.ensures.valid c.args.looks.now.family c.requires c.args.looks.now.pairs h.one_family c.loop-place.bits c.loop-place.invariant.0 c.in-Some.place c.in-Some.ensures.value h.last

pub returns-in_default-last_up_to-clause-cost : goal.returns-in_default-last_up_to-clause-cost
returns-in_default-last_up_to-clause-cost g c = omega (arith, c.in_default-last_up_to.ensures.step, c.loop-place.invariant.1, width_within c.args.addr.now.family)

pub returns-then-bits-shared-clause-longest : goal.returns-then-bits-shared-clause-longest
returns-then-bits-shared-clause-longest g c =
    let h = c.in-Some-last_up_to.ensures in
    let agreed = rw (c.octets.ensures.same, c.addr.ensures, c.octets-octets.ensures.same) at c.shared_bits-shared.ensures in
    search_finds c.args.addr.now c.octets-octets.ensures.valid c.args.looks.now.family c.requires c.args.looks.now.pairs h.one_family c.loop-place.bits c.loop-place.invariant.0 c.in-Some.place c.in-Some.ensures.value _ h.last c.shared_bits-shared.result agreed (omega (arith, c.bits.ensures.same, c.if-bits-shared.true))

pub returns-then-bits-shared-clause-cost : goal.returns-then-bits-shared-clause-cost
returns-then-bits-shared-clause-cost g c = omega (arith, c.in-Some-last_up_to.ensures.step, c.loop-place.invariant.1, width_within c.args.addr.now.family)

pub loop-place-smaller : goal.loop-place-smaller
loop-place-smaller g c =
    let h = c.in-Some-last_up_to.ensures in
    let agreed = rw (c.octets.ensures.same, c.addr.ensures, c.octets-octets.ensures.same) at c.shared_bits-shared.ensures in
    search_nears c.args.addr.now c.octets-octets.ensures.valid c.args.looks.now.family c.requires c.args.looks.now.pairs h.one_family c.loop-place.bits c.loop-place.invariant.0 c.in-Some.place c.in-Some.ensures.value _ h.last c.shared_bits-shared.result agreed (omega (arith, c.bits.ensures.same, c.if-bits-shared.false))

pub loop-place-preserved : goal.loop-place-preserved
loop-place-preserved g c =
    let h = c.in-Some-last_up_to.ensures in
    let agreed = rw (c.octets.ensures.same, c.addr.ensures, c.octets-octets.ensures.same) at c.shared_bits-shared.ensures in
    let less : c.shared_bits-shared.result < c.in-Some-last_up_to.found.0.bits = omega (arith, c.bits.ensures.same, c.if-bits-shared.false) in
    let near = search_nears c.args.addr.now c.octets-octets.ensures.valid c.args.looks.now.family c.requires c.args.looks.now.pairs h.one_family c.loop-place.bits c.loop-place.invariant.0 c.in-Some.place c.in-Some.ensures.value _ h.last c.shared_bits-shared.result agreed less in
    (search_goes_on c.args.addr.now c.octets-octets.ensures.valid c.args.looks.now.family c.requires c.args.looks.now.pairs h.one_family c.loop-place.bits c.loop-place.invariant.0 c.in-Some.place c.in-Some.ensures.value _ h.last c.shared_bits-shared.result agreed less, omega (arith, h.step, c.loop-place.invariant.1, near))
