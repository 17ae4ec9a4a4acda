use Rattle.std.proofs.Common.{Option, ℕ, ap, ◌∙◌}
use Rattle.std.specs.Option.{option_or}
use Rattle.bgp_open.proofs.Reading.{tells_more}
use Rattle.bgp_open.proofs.read.Announced.add.Goals as goal

pub returns : goal.returns
returns c cs told =
    let four = c.or-self.ensures ∙ ap (λ (o : Option ℕ). option_or c.args.self.now.four o) c.four_octet.ensures in
    tells_more cs (record { code = c.args.code; value = c.args.value.now }) c.args.self.now _ told four c.in_ok-add_family.ensures c.in_ok-add_paths.ensures
