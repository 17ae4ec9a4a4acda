use Rattle.std.proofs.Common.{◌≡◌, ◌+◌, subst, arith}
use Rattle.bmp_specs.specs.Values.{AttrsValue}
use Rattle.bmp_writer.specs.WrittenAttributes.{short_size, with_hop}
use Rattle.bmp_writer.proofs.front.size_of_short.Goals as goal

pub returns : goal.returns
returns c =
    let m = c.attrs.inside in
    let inside : AttrsValue = record { origin = m.origin; path = m.path; hop = m.hop; med = m.med; pref = m.pref; atomic = m.atomic; aggregator = m.aggregator; communities = m.communities; others = m.others } in
    subst (λ (a : AttrsValue). c.size_of_origin.result + c.size_of_hop.result + c.size_of_number.result + c.size_of_number-2.result + c.size_of_atomic.result + c.size_of_aggregator.result ≡ short_size (with_hop c.args.plain a)) c.attrs.view_is
    (omega (arith, c.size_of_origin.ensures, c.size_of_hop.ensures, c.size_of_number.ensures, c.size_of_number-2.ensures, c.size_of_atomic.ensures, c.size_of_aggregator.ensures))
