use Rattle.std.proofs.Common.{◌≡◌, ◌++◌, [], ◌∷◌, List, ℕ, ap, codes}
use Rattle.bmp_specs.specs.PeerText.{key_text, view_text}
use Rattle.bmp_specs.specs.PrefixText.{prefix_text}
use Rattle.bmp_specs.specs.RouteLine.{id_fields}
use Rattle.bmp_specs.specs.Rows.{RowKeyValue}
use Rattle.reply_text.specs.Pieces.{spaced}
use Rattle.reply_text.proofs.Joining.{join_three}
use Rattle.reply_text.proofs.Pieces.{spaced-append}
use Rattle.wire_io.proofs.Joins.{join_failed, more}
use Rattle.reply_text.proofs.change.put_withdrawal.Goals as goal

abbrev place : RowKeyValue → List (List ℕ)
place row = key_text row.key ∷ view_text row.view ∷ prefix_text row.nlri.prefix ∷ []

withdrawal_parts : (row : RowKeyValue) → spaced (codes "withdraw" ∷ (place row ++ id_fields row.nlri.id)) ≡ codes " withdraw" ++ (spaced (place row) ++ spaced (id_fields row.nlri.id))
withdrawal_parts row = ap (λ (l : List ℕ). codes " withdraw" ++ l) (spaced-append (place row) (id_fields row.nlri.id))

pub returns-in_err-write_all : goal.returns-in_err-write_all
returns-in_err-write_all g c =
    let row = c.args.row.now in
    more _ _ _ (spaced (place row) ++ spaced (id_fields row.nlri.id)) _ _ _ c.in_err-write_all.ensures c.from_residual.ensures.0 (withdrawal_parts row)

pub returns-in_err-put_row_key : goal.returns-in_err-put_row_key
returns-in_err-put_row_key g c =
    let row = c.args.row.now in
    join_failed _ _ _ _ _ (spaced (id_fields row.nlri.id)) _ _ _ c.in_ok-write_all.ensures c.in_err-put_row_key.ensures c.from_residual-in_err-put_row_key.ensures.0 (withdrawal_parts row)

pub returns : goal.returns
returns g c =
    let is : c.row.inside.nlri ≡ c.args.row.now.nlri = ap (λ (p : RowKeyValue). p.nlri) c.row.view_is in
    join_three _ _ _ _ _ _ _ _ _ _ _ c.in_ok-write_all.ensures c.in_ok-put_row_key.ensures (rw is at c.put_id_field.ensures) (withdrawal_parts c.args.row.now)
