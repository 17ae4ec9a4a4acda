use Rattle.std.proofs.Common.{[], ◌∷◌, codes}
use Rattle.bmp_specs.specs.Lines.{cause_fields, further}
use Rattle.bmp_specs.specs.NumberText.{number_text}
use Rattle.reply_text.proofs.Pieces.{line_parts}
use Rattle.wire_io.proofs.Joins.{join, more}
use Rattle.reply_text.proofs.router.put_closed.Goals as goal

pub returns-in_err-put_state : goal.returns-in_err-put_state
returns-in_err-put_state g c = more _ _ _ (further (cause_fields c.args.cause)) _ _ _ c.in_err-put_state.ensures c.from_residual.ensures.0 (line_parts (codes "router") (number_text c.args.lane ∷ codes "closed" ∷ []) (cause_fields c.args.cause))

pub returns : goal.returns
returns g c = join _ _ _ _ _ _ _ _ c.in_ok-put_state.ensures c.put_cause.ensures (line_parts (codes "router") (number_text c.args.lane ∷ codes "closed" ∷ []) (cause_fields c.args.cause))
