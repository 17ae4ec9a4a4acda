use Rattle.std.proofs.Common.{◌≡◌, ◌∙◌, ◌++◌, map, codes, ap, refl}
use Rattle.bmp_specs.specs.RouteLine.{comma_list, community_text, others_text}
use Rattle.bmp_specs.specs.Values.{AttrsValue}
use Rattle.reply_text.proofs.Joining.{join_three}
use Rattle.wire_io.proofs.Joins.{join_failed, more}
use Rattle.reply_text.proofs.route.put_remaining.Goals as goal

pub returns-in_err-put_aggregator : goal.returns-in_err-put_aggregator
returns-in_err-put_aggregator g c =
    let a = c.args.attrs.now in
    let aggregator : c.attrs.inside.aggregator ≡ a.aggregator = ap (λ (v : AttrsValue). v.aggregator) c.attrs.view_is in
    more _ _ _ (codes " comm=" ++ (comma_list (map community_text a.communities) ++ (codes " other=" ++ others_text a.others))) _ _ _ (rw aggregator at c.in_err-put_aggregator.ensures) c.from_residual.ensures.0 refl

pub returns-in_err-put_communities : goal.returns-in_err-put_communities
returns-in_err-put_communities g c =
    let a = c.args.attrs.now in
    let aggregator : c.attrs.inside.aggregator ≡ a.aggregator = ap (λ (v : AttrsValue). v.aggregator) c.attrs.view_is in
    let communities : c.as_slice.result.now ≡ a.communities = c.as_slice.ensures ∙ ap (λ (v : AttrsValue). v.communities) c.attrs.view_is in
    join_failed _ _ _ _ _ (codes " other=" ++ others_text a.others) _ _ _ (rw aggregator at c.in_ok-put_aggregator.ensures) (rw communities at c.in_err-put_communities.ensures) c.from_residual-in_err-put_communities.ensures.0 refl

pub returns : goal.returns
returns g c =
    let a = c.args.attrs.now in
    let aggregator : c.attrs.inside.aggregator ≡ a.aggregator = ap (λ (v : AttrsValue). v.aggregator) c.attrs.view_is in
    let communities : c.as_slice.result.now ≡ a.communities = c.as_slice.ensures ∙ ap (λ (v : AttrsValue). v.communities) c.attrs.view_is in
    let others : c.as_slice-2.result.now ≡ a.others = c.as_slice-2.ensures ∙ ap (λ (v : AttrsValue). v.others) c.attrs.view_is in
    join_three _ _ _ _ _ _ _ _ _ _ _ (rw aggregator at c.in_ok-put_aggregator.ensures) (rw communities at c.in_ok-put_communities.ensures) (rw others at c.put_others.ensures) refl
