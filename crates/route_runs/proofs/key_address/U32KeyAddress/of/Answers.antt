use Rattle.std.proofs.Common.{subst, ap, sym, ◌∙◌}
use Rattle.std.specs.Int.{w32, from_be_bytes}
use Rattle.bmp_specs.specs.Address.{FitsFamily}
use Rattle.route_runs.proofs.NumberBytes.{octets4_of}
use Rattle.route_runs.proofs.key_address.U32KeyAddress.of.Goals as goal

pub returns : goal.returns
returns c =
    let octets = c.args.addr.now.octets in
    let number = c.from_be_bytes.ensures ∙ ap (from_be_bytes w32) c.octets.ensures.same in
    let same = octets4_of octets c.from_be_bytes.result c.octets.ensures.valid.len c.octets.ensures.valid.bytes (subst (λ f. FitsFamily f octets) c.requires c.octets.ensures.valid.used) number in
    record { octets = same; back = ap (from_be_bytes w32) same ∙ sym number }
