use Rattle.bmp_specs.specs.Lines.{further}
use Rattle.bmp_specs.specs.RouteLine.{route_fields}
use Rattle.ask_specs.specs.FullLine.{further_fields}
use Rattle.reply_text.proofs.Pieces.{further-append}
use Rattle.wire_io.proofs.Joins.{join, more}
use Rattle.reply_text.proofs.full.put_full_fields.Goals as goal

pub returns-in_err-put_open_fields : goal.returns-in_err-put_open_fields
returns-in_err-put_open_fields g c =
    let a = c.args.attrs.now in
    more _ _ _ (further (further_fields a)) _ _ _ c.in_err-put_open_fields.ensures c.from_residual.ensures.0 (further-append (route_fields (record { row_key = c.args.row.now; route = a })) (further_fields a))

pub returns : goal.returns
returns g c =
    let a = c.args.attrs.now in
    join _ _ _ _ _ _ _ _ c.in_ok-put_open_fields.ensures c.put_further.ensures (further-append (route_fields (record { row_key = c.args.row.now; route = a })) (further_fields a))
