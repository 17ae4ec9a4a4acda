use Rattle.std.proofs.Common.{ap, sym, ◌∙◌, drop}
use Rattle.std.specs.Int.{w64, from_be_bytes}
use Rattle.route_runs.proofs.NumberBytes.{octets6_of, last8}
use Rattle.route_runs.proofs.key_address.Tuple2U64U64KeyAddress.of.Goals as goal

pub returns : goal.returns
returns c =
    let same = c.octets.ensures.same in
    let high = c.from_be_bytes-high.ensures ∙ ap (from_be_bytes w64) same in
    let low = c.from_be_bytes-low.ensures ∙ last8 c.octets.result ∙ ap (λ l. from_be_bytes w64 (drop 8 l)) same in
    let whole = octets6_of c.args.addr.now.octets c.from_be_bytes-high.result c.from_be_bytes-low.result c.octets.ensures.valid.len c.octets.ensures.valid.bytes high low in
    let first = ap (from_be_bytes w64) whole ∙ sym high in
    let second = ap (λ l. from_be_bytes w64 (drop 8 l)) whole ∙ sym low in
    record { octets = whole; back = λ i. (first i, second i) }
