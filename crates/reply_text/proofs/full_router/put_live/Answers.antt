use Rattle.std.proofs.Common.{◌++◌, [], ◌∷◌, None, codes}
use Rattle.ask_specs.specs.FullRouters.{counted_fields, opening_fields, passed_fields}
use Rattle.bmp_specs.specs.Lines.{further}
use Rattle.bmp_specs.specs.NumberText.{number_text}
use Rattle.reply_text.proofs.Pieces.{line_parts}
use Rattle.wire_io.proofs.Joins.{join, more}
use Rattle.reply_text.proofs.full_router.put_live.Goals as goal

pub returns-in_err-put_state : goal.returns-in_err-put_state
returns-in_err-put_state g c =
    let v = c.args.connection.now in
    let fields = counted_fields v.up v.counts v.name v.descr ++ (opening_fields v.came None ++ passed_fields v.passed) in
    more _ _ _ (further fields) _ _ _ c.in_err-put_state.ensures c.from_residual.ensures.0 (line_parts (codes "router") (number_text c.args.lane ∷ codes "live" ∷ []) fields)

pub returns : goal.returns
returns g c =
    let v = c.args.connection.now in
    let fields = counted_fields v.up v.counts v.name v.descr ++ (opening_fields v.came None ++ passed_fields v.passed) in
    join _ _ _ _ _ _ _ _ c.in_ok-put_state.ensures c.put_open_connection.ensures (line_parts (codes "router") (number_text c.args.lane ∷ codes "live" ∷ []) fields)
