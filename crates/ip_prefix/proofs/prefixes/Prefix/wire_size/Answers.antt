use Rattle.std.proofs.Common.{◌≡◌, ◌<◌, length, arith, refl, rules}
use Rattle.ip_prefix.proofs.Sizes.{empty_none, prefix_none, prefix_stands}
use Rattle.ip_prefix.proofs.prefixes.Prefix.wire_size.Goals as goal

pub returns-then-is_empty-clause-none : goal.returns-then-is_empty-clause-none
returns-then-is_empty-clause-none c =
    let none : length c.args.input.now ≡ 0 = search rules in
    empty_none _ _ none

-- more bits than an address has
pub returns-then-width-bits-clause-none : goal.returns-then-width-bits-clause-none
returns-then-width-bits-clause-none c =
    let some : 0 < length c.args.input.now = search rules in
    prefix_none _ _ _ some refl (λ wide room. omega (arith, wide, c.width.ensures))

-- fewer bytes than hold the bits
pub returns-then-input-size-clause-none : goal.returns-then-input-size-clause-none
returns-then-input-size-clause-none c =
    let some : 0 < length c.args.input.now = search rules in
    prefix_none _ _ _ some refl (λ wide room. omega (arith, room))

pub returns-clause-found : goal.returns-clause-found
returns-clause-found c =
    let some : 0 < length c.args.input.now = search rules in
    prefix_stands _ _ _ _ some refl refl (omega (arith, c.width.ensures)) (omega arith)
