use Rattle.std.proofs.Common.{◌++◌, List, ap, ◌∙◌}
use Rattle.bmp_specs.specs.Values.{NlriValue}
use Rattle.bgp_update.proofs.multi.make_plain.Goals as goal

pub returns : goal.returns
returns c ns are = c.in_ok-add_items.ensures ns are ∙ ap (λ (l : List NlriValue). l ++ ns) c.in_ok-list.ensures
