use Rattle.std.proofs.Common.{refl, ◌∙◌}
use Rattle.bgp_update.proofs.Own.{again_is}
use Rattle.bgp_update.proofs.reader.UpdateReader.read_again.Goals as goal

pub returns : goal.returns
returns c =
    let gone = c.in-Some-item_count.ensures.some in
    let plain = c.in-Some-item_count-2.ensures.some in
    again_is c.args.width c.args.ids c.args.body.now _ _ _ c.in-Some-split_body.ensures.found c.in-Some.last (c.are.ensures c.if-not-are.false) _ c.is_empty.ensures c.if-is_empty.false gone.0 plain.0 gone.1 plain.1 _
    c.in_ok-withdrawn.ensures c.in_ok-plain.ensures (c.in_ok-plain_attrs.ensures ∙ c.last.view_is) c.new.ensures (c.in_ok-multi_attrs.ensures ∙ c.last.view_is) refl refl
