use Rattle.std.proofs.Common.{ap, List, ℕ, ◌++◌, ◌-◌, ◌∙◌, drop, get_or, replicate}
use Rattle.bmp_specs.specs.Address.{prefix_at}
use Rattle.bmp_specs.specs.Values.{AddressValue}
use Rattle.ip_prefix.proofs.Sizes.{fits_here, read_here}
use Rattle.ip_prefix.proofs.prefixes.Prefix.from_wire.Goals as goal

pub with_octets-requires : goal.with_octets-requires
with_octets-requires c =
    let it = c.in-Some.ensures.found in
    let size = c.in-Some.size in
    fits_here c.args.family c.args.input.now _ size it.0 it.1 (ap (λ (l : List ℕ). l ++ drop (size - 1) (replicate 16 0)) c.copy_from_slice.ensures.after)

pub returns-clause-found : goal.returns-clause-found
returns-clause-found c =
    let it = c.in-Some.ensures.found in
    let size = c.in-Some.size in
    read_here c.args.family c.args.input.now _ size it.0 c.in-Some-new.prefix it.1 (ap (λ (l : List ℕ). l ++ drop (size - 1) (replicate 16 0)) c.copy_from_slice.ensures.after)
    (c.in-Some-new.ensures.value ∙ ap (λ (a : AddressValue). prefix_at a (get_or c.args.input.now 0 0)) c.with_octets.ensures)
