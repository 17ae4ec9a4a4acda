use Rattle.std.proofs.Common.{◌≡◌, ◌∙◌, ◌++◌, ◌∷◌, ap, sym, append_assoc}
use Rattle.bmp_specs.specs.NumberText.{number_text}
use Rattle.bmp_specs.specs.PeerText.{hex_text}
use Rattle.bmp_specs.specs.Values.{OtherValue}
use Rattle.reply_text.specs.Pieces.{comma_of}
use Rattle.reply_text.proofs.Joining.{join_three}
use Rattle.wire_io.proofs.Joins.{join_failed}
use Rattle.reply_text.proofs.raw.put_raw_text.Goals as goal

pub returns-in_err-write_all : goal.returns-in_err-write_all
returns-in_err-write_all g c =
    let other = c.args.other.now in
    join_failed _ _ _ _ _ (hex_text other.value) _ _ _ (rw c.comma.ensures at c.in_ok-put_code.ensures) c.in_err-write_all.ensures c.from_residual-in_err-write_all.ensures.0
    (sym (append_assoc (comma_of c.args.some) (number_text other.code) (58 ∷ hex_text other.value)))

pub returns : goal.returns
returns g c =
    let other = c.args.other.now in
    let value : c.as_slice.result.now ≡ other.value = c.as_slice.ensures ∙ ap (λ (v : OtherValue). v.value) c.other.view_is in
    join_three _ _ _ _ _ _ _ _ _ _ _ (rw c.comma.ensures at c.in_ok-put_code.ensures) c.in_ok-write_all.ensures (rw value at c.put_hex.ensures)
    (sym (append_assoc (comma_of c.args.some) (number_text other.code) (58 ∷ hex_text other.value)))
