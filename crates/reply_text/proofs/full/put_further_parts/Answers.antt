use Rattle.std.proofs.Common.{◌≡◌, ◌∙◌, ◌++◌, ap}
use Rattle.bmp_specs.specs.Values.{AttrsValue}
use Rattle.reply_text.specs.Own.{inner_text, policy_text, rest_text}
use Rattle.reply_text.proofs.Further.{further_parts}
use Rattle.reply_text.proofs.Joining.{join_three}
use Rattle.wire_io.proofs.Joins.{join_failed, more}
use Rattle.reply_text.proofs.full.put_further_parts.Goals as goal

pub returns-in_err-put_flags : goal.returns-in_err-put_flags
returns-in_err-put_flags g c =
    let a = c.args.attrs.now in
    let others : c.as_slice.result.now ≡ a.others = c.as_slice.ensures ∙ ap (λ (v : AttrsValue). v.others) c.attrs.view_is in
    more _ _ _ ((policy_text a.others ++ inner_text a.others) ++ rest_text a) _ _ _ (rw others at c.in_err-put_flags.ensures) c.from_residual.ensures.0 (further_parts a)

pub returns-in_err-put_own_fields : goal.returns-in_err-put_own_fields
returns-in_err-put_own_fields g c =
    let a = c.args.attrs.now in
    let others : c.as_slice.result.now ≡ a.others = c.as_slice.ensures ∙ ap (λ (v : AttrsValue). v.others) c.attrs.view_is in
    let same : c.as_slice-2.result.now ≡ a.others = c.as_slice-2.ensures ∙ ap (λ (v : AttrsValue). v.others) c.attrs.view_is in
    join_failed _ _ _ _ _ (rest_text a) _ _ _ (rw others at c.in_ok-put_flags.ensures) (rw same at c.in_err-put_own_fields.ensures) c.from_residual-in_err-put_own_fields.ensures.0 (further_parts a)

pub returns : goal.returns
returns g c =
    let a = c.args.attrs.now in
    let others : c.as_slice.result.now ≡ a.others = c.as_slice.ensures ∙ ap (λ (v : AttrsValue). v.others) c.attrs.view_is in
    let same : c.as_slice-2.result.now ≡ a.others = c.as_slice-2.ensures ∙ ap (λ (v : AttrsValue). v.others) c.attrs.view_is in
    join_three _ _ _ _ _ _ _ _ _ _ _ (rw others at c.in_ok-put_flags.ensures) (rw same at c.in_ok-put_own_fields.ensures) c.put_rest.ensures (further_parts a)
