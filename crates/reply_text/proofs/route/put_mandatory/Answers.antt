use Rattle.std.proofs.Common.{◌≡◌, ◌++◌, codes, ap, refl}
use Rattle.bmp_specs.specs.RouteLine.{text_or_absent, origin_text, path_text}
use Rattle.bmp_specs.specs.Values.{AttrsValue}
use Rattle.reply_text.proofs.Joining.{join_three}
use Rattle.wire_io.proofs.Joins.{join_failed, more}
use Rattle.reply_text.proofs.route.put_mandatory.Goals as goal

pub returns-in_err-put_hop : goal.returns-in_err-put_hop
returns-in_err-put_hop g c =
    let a = c.args.attrs.now in
    let hop : c.attrs.inside.hop ≡ a.hop = ap (λ (v : AttrsValue). v.hop) c.attrs.view_is in
    more _ _ _ (codes " origin=" ++ (text_or_absent origin_text a.origin ++ (codes " path=" ++ text_or_absent path_text a.path))) _ _ _ (rw hop at c.in_err-put_hop.ensures) c.from_residual.ensures.0 refl

pub returns-in_err-put_origin : goal.returns-in_err-put_origin
returns-in_err-put_origin g c =
    let a = c.args.attrs.now in
    let hop : c.attrs.inside.hop ≡ a.hop = ap (λ (v : AttrsValue). v.hop) c.attrs.view_is in
    let origin : c.attrs.inside.origin ≡ a.origin = ap (λ (v : AttrsValue). v.origin) c.attrs.view_is in
    join_failed _ _ _ _ _ (codes " path=" ++ text_or_absent path_text a.path) _ _ _ (rw hop at c.in_ok-put_hop.ensures) (rw origin at c.in_err-put_origin.ensures) c.from_residual-in_err-put_origin.ensures.0 refl

pub returns : goal.returns
returns g c =
    let a = c.args.attrs.now in
    let hop : c.attrs.inside.hop ≡ a.hop = ap (λ (v : AttrsValue). v.hop) c.attrs.view_is in
    let origin : c.attrs.inside.origin ≡ a.origin = ap (λ (v : AttrsValue). v.origin) c.attrs.view_is in
    let path : c.attrs.inside.path ≡ a.path = ap (λ (v : AttrsValue). v.path) c.attrs.view_is in
    join_three _ _ _ _ _ _ _ _ _ _ _ (rw hop at c.in_ok-put_hop.ensures) (rw origin at c.in_ok-put_origin.ensures) (rw path at c.put_path.ensures) refl
