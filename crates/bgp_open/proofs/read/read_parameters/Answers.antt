use Rattle.std.proofs.Common.{◌≡◌, length, sym, ◌∙◌, rules}
use Rattle.bgp_open.proofs.Reading.{rest_told}
use Rattle.bgp_open.proofs.read.read_parameters.Goals as goal

pub returns-clause-ok : goal.returns-clause-ok
returns-clause-ok c =
    let len : length c.args.rest.now ≡ c.args.stated = search rules in
    rest_told _ _ _ _ (sym c.is_extended.ensures ∙ c.if-is_extended.false) len c.new-announced.ensures c.in_ok-add_parameters.ensures.ok
