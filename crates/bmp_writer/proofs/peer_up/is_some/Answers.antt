use Rattle.std.proofs.Common.{◌≡◌, length}
use Rattle.bmp_specs.specs.Values.{OpenValue}
use Rattle.bmp_writer.proofs.OpenRead.{extended_tells, families_tell}
use Rattle.bmp_writer.proofs.peer_up.is_some.Goals as goal

pub returns-then-message : goal.returns-then-message
returns-then-message c =
    let m = c.message.inside in
    let inside : OpenValue = record { version = m.version; my_as = m.my_as; hold = m.hold; identifier = m.identifier; four = m.four; families = m.families; paths = m.paths; extended = m.extended } in
    let four : length inside.identifier ≡ 4 = c.has_four_octets.ensures.four in
    let tells = extended_tells inside c.args.message.now c.message.view_is four c.if-message.true in
    let says = c.announces_nothing.ensures in
    (λ t. tells.0 (says.0 t), λ some. says.1 (tells.1 some))

pub returns : goal.returns
returns c =
    let m = c.message.inside in
    let inside : OpenValue = record { version = m.version; my_as = m.my_as; hold = m.hold; identifier = m.identifier; four = m.four; families = m.families; paths = m.paths; extended = m.extended } in
    let four : length inside.identifier ≡ 4 = c.has_four_octets.ensures.four in
    let tells = families_tell inside c.args.message.now c.message.view_is c.as_slice.result.now c.as_slice.ensures four c.if-message.false in
    let says = c.are_families.ensures in
    (λ t. tells.0 (says.0 t), λ some. says.1 (tells.1 some))
