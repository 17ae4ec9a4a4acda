use Rattle.std.proofs.Common.{codes}
use Rattle.bmp_specs.specs.Lines.{further}
use Rattle.bmp_specs.specs.PeerLines.{table_fields}
use Rattle.reply_text.specs.Pieces.{session_fields}
use Rattle.reply_text.proofs.Pieces.{line_parts}
use Rattle.wire_io.proofs.Joins.{join, more}
use Rattle.reply_text.proofs.peer.put_up.Goals as goal

pub returns-in_err-put_session : goal.returns-in_err-put_session
returns-in_err-put_session g c =
    let key = c.args.key.now in
    let info = c.args.info.now in
    more _ _ _ (further (table_fields key.kind info)) _ _ _ c.in_err-put_session.ensures c.from_residual.ensures.0 (line_parts (codes "peer") (session_fields c.args.lane key info) (table_fields key.kind info))

pub returns : goal.returns
returns g c =
    let key = c.args.key.now in
    let info = c.args.info.now in
    join _ _ _ _ _ _ _ _ c.in_ok-put_session.ensures c.put_table.ensures (line_parts (codes "peer") (session_fields c.args.lane key info) (table_fields key.kind info))
