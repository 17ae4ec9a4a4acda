use Rattle.std.proofs.Common.{◌≡◌, ◌<◌, ap, sym, ◌∙◌, subst, arith}
use Rattle.bmp_specs.specs.Prefix.{width_of}
use Rattle.route_runs.specs.Longest.{IsSearching}
use Rattle.route_runs.proofs.Nearer.{search_starts, search_fails, search_leaves, search_finds, search_nears, search_goes_on}
use Rattle.route_runs.proofs.longest.longest_by_looks.Goals as goal

pub loop-place-init : goal.loop-place-init
loop-place-init g c =
    let wide : c.width-bits.result ≡ width_of c.args.addr.now.family = c.width-bits.ensures ∙ ap width_of c.family.ensures in
    (subst (IsSearching c.args.addr.now c.args.looks.now) (sym wide) (search_starts c.args.addr.now c.octets-octets.ensures.valid c.args.looks.now c.requires), omega (arith, wide))

pub returns-in_default-last_up_to-clause-longest : goal.returns-in_default-last_up_to-clause-longest
returns-in_default-last_up_to-clause-longest g c =
    search_fails c.args.addr.now c.octets-octets.ensures.valid c.args.looks.now c.requires c.loop-place.bits c.loop-place.invariant.0 c.in-Some.place c.in-Some.ensures.value c.in_default-last_up_to.ensures.last

pub returns-then-not-is_of_family-clause-longest : goal.returns-then-not-is_of_family-clause-longest
returns-then-not-is_of_family-clause-longest g c =
    search_leaves c.args.addr.now c.octets-octets.ensures.valid c.args.looks.now c.requires c.loop-place.bits c.loop-place.invariant.0 c.in-Some.place c.in-Some.ensures.value c.in-Some-last_up_to.found c.in-Some-last_up_to.ensures.last
    (λ same. let clash = sym c.if-not-is_of_family.true ∙ c.is_of_family.ensures.1 same in absurd cc)

pub returns-then-bits-shared-clause-longest : goal.returns-then-bits-shared-clause-longest
returns-then-bits-shared-clause-longest g c =
    let agreed = rw (c.octets.ensures.same, c.addr.ensures, c.octets-octets.ensures.same) at c.shared_bits-shared.ensures in
    search_finds c.args.addr.now c.octets-octets.ensures.valid c.args.looks.now c.requires c.loop-place.bits c.loop-place.invariant.0 c.in-Some.place c.in-Some.ensures.value c.in-Some-last_up_to.found c.in-Some-last_up_to.ensures.last
    c.shared_bits-shared.result (c.is_of_family.ensures.0 c.if-not-is_of_family.false) agreed (omega (arith, c.bits.ensures.same, c.if-bits-shared.true))

pub loop-place-smaller : goal.loop-place-smaller
loop-place-smaller g c =
    let agreed = rw (c.octets.ensures.same, c.addr.ensures, c.octets-octets.ensures.same) at c.shared_bits-shared.ensures in
    search_nears c.args.addr.now c.octets-octets.ensures.valid c.args.looks.now c.requires c.loop-place.bits c.loop-place.invariant.0 c.in-Some.place c.in-Some.ensures.value c.in-Some-last_up_to.found c.in-Some-last_up_to.ensures.last
    c.shared_bits-shared.result (c.is_of_family.ensures.0 c.if-not-is_of_family.false) agreed (omega (arith, c.bits.ensures.same, c.if-bits-shared.false))

pub loop-place-preserved : goal.loop-place-preserved
loop-place-preserved g c =
    let agreed = rw (c.octets.ensures.same, c.addr.ensures, c.octets-octets.ensures.same) at c.shared_bits-shared.ensures in
    let less : c.shared_bits-shared.result < c.in-Some-last_up_to.found.bits = omega (arith, c.bits.ensures.same, c.if-bits-shared.false) in
    let same = c.is_of_family.ensures.0 c.if-not-is_of_family.false in
    let near : c.shared_bits-shared.result < c.loop-place.bits = search_nears c.args.addr.now c.octets-octets.ensures.valid c.args.looks.now c.requires c.loop-place.bits c.loop-place.invariant.0 c.in-Some.place c.in-Some.ensures.value c.in-Some-last_up_to.found c.in-Some-last_up_to.ensures.last
    c.shared_bits-shared.result same agreed less in (
      search_goes_on c.args.addr.now c.octets-octets.ensures.valid c.args.looks.now c.requires c.loop-place.bits c.loop-place.invariant.0 c.in-Some.place c.in-Some.ensures.value c.in-Some-last_up_to.found c.in-Some-last_up_to.ensures.last
          c.shared_bits-shared.result same agreed less,
      omega (arith, c.in-Some-last_up_to.ensures.step, c.loop-place.invariant.1, near),
    )
