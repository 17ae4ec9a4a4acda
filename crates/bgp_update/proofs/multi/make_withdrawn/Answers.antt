use Rattle.std.proofs.Common.{◌++◌, List, ap, ◌∙◌}
use Rattle.bmp_specs.specs.Values.{NlriValue}
use Rattle.bgp_update.proofs.multi.make_withdrawn.Goals as goal

pub returns : goal.returns
returns c gone lost gone_are lost_are =
    c.in_ok-add_multi.ensures lost lost_are ∙ ap (λ (l : List NlriValue). l ++ lost) (c.in_ok-add_items.ensures gone gone_are ∙ ap (λ (l : List NlriValue). l ++ gone) c.in_ok-list.ensures)
