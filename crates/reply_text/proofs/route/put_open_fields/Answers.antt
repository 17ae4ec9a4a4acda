use Rattle.std.proofs.Common.{◌≡◌, ◌++◌, ap}
use Rattle.bmp_specs.specs.RouteLine.{attribute_fields, id_fields}
use Rattle.bmp_specs.specs.Rows.{RowKeyValue}
use Rattle.reply_text.specs.Pieces.{spaced}
use Rattle.reply_text.proofs.Joining.{join_three}
use Rattle.reply_text.proofs.Pieces.{open_route_parts}
use Rattle.wire_io.proofs.Joins.{join_failed, more}
use Rattle.reply_text.proofs.route.put_open_fields.Goals as goal

pub returns-in_err-put_row_key : goal.returns-in_err-put_row_key
returns-in_err-put_row_key g c = more _ _ _ (spaced (attribute_fields c.args.attrs.now) ++ spaced (id_fields c.args.row.now.nlri.id)) _ _ _ c.in_err-put_row_key.ensures c.from_residual.ensures.0 (open_route_parts (record { row_key = c.args.row.now; route = c.args.attrs.now }))

pub returns-in_err-put_attributes : goal.returns-in_err-put_attributes
returns-in_err-put_attributes g c = join_failed _ _ _ _ _ (spaced (id_fields c.args.row.now.nlri.id)) _ _ _ c.in_ok-put_row_key.ensures c.in_err-put_attributes.ensures c.from_residual-in_err-put_attributes.ensures.0 (open_route_parts (record { row_key = c.args.row.now; route = c.args.attrs.now }))

pub returns : goal.returns
returns g c =
    let is : c.row.inside.nlri ≡ c.args.row.now.nlri = ap (λ (p : RowKeyValue). p.nlri) c.row.view_is in
    join_three _ _ _ _ _ _ _ _ _ _ _ c.in_ok-put_row_key.ensures c.in_ok-put_attributes.ensures (rw is at c.put_id_field.ensures) (open_route_parts (record { row_key = c.args.row.now; route = c.args.attrs.now }))
