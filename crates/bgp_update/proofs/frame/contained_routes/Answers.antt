use Rattle.std.proofs.Common.{◌++◌, List, ap, ◌∙◌}
use Rattle.bmp_specs.specs.Values.{NlriValue}
use Rattle.bgp_update.proofs.frame.contained_routes.Goals as goal

pub returns : goal.returns
returns c ns are = c.in_ok-add_contained.ensures ns are ∙ ap (λ (l : List NlriValue). l ++ ns) c.new-list.ensures
