use Rattle.std.proofs.Common.{◌≡◌, ◌∙◌, ◌==◌, ap, sym}
use Rattle.std.specs.Prelude.{◌&&◌}
use Rattle.bmp_specs.specs.Values.{OtherValue}
use Rattle.ask_specs.specs.FullLine.{code_of, is_formed, own_text}
use Rattle.reply_text.specs.Own.{own_value}
use Rattle.reply_text.proofs.Texts.{text_if}
use Rattle.wire_io.proofs.Joins.{join}
use Rattle.reply_text.proofs.own.put_if_own.Goals as goal

pub returns : goal.returns
returns g c =
    let field = own_value c.args.own in
    let other = c.args.other.now in
    let value : c.as_slice.result.now ≡ other.value = c.as_slice.ensures ∙ ap (λ (v : OtherValue). v.value) c.other.view_is in
    join _ _ _ _ _ _ _ _ (rw c.comma.ensures at c.in_ok-write_all.ensures) (rw value at c.put_own_text.ensures)
    (text_if c.args.some (other.code == code_of field && is_formed field other.value) (own_text field other.value) (sym c.is_own.ensures ∙ c.if-not-is_own.false))
