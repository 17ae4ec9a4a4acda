use Rattle.std.proofs.Common.{ap, arith, ◌∙◌}
use Rattle.std.specs.Option.{option_map}
use Rattle.bmp_specs.specs.Update.{with_hop_of}
use Rattle.bmp_specs.specs.Values.{AttrsValue}
use Rattle.path_attrs.specs.Judged.{mp_value}
use Rattle.bgp_update.proofs.Judging.{update_is}
use Rattle.bgp_update.proofs.read.make_update.Goals as goal

pub make_attrs-requires : goal.make_attrs-requires
make_attrs-requires c = (c.args.found.now.judged, c.requires)

pub returns : goal.returns
returns c body h =
    let j = h.judged in
    let attrs = c.in_ok-attrs.ensures j.read j.are in
    let shared = c.in_ok-shared.ensures in
    let lists = c.in_ok-lists.ensures in
    update_is _ _ _ _ h _ lists.withdrawn lists.plain (shared.plain ∙ attrs) lists.multi
    (shared.multi ∙ ap (λ (a : AttrsValue). with_hop_of (option_map mp_value c.args.found.now.judged.reach) a) attrs) (c.end_of_rib.ensures j.read j.count_is j.unreach_is)
    (omega (arith, c.passed_over.ensures.is, c.passed_over-2.ensures.is))
