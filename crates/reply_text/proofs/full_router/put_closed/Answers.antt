use Rattle.std.proofs.Common.{◌≡◌, ◌∙◌, ◌++◌, [], ◌∷◌, List, ℕ, ap, codes}
use Rattle.ask_specs.specs.FullRouters.{ConnectionValue, counted_fields, full_router_line, opening_fields, passed_fields}
use Rattle.bmp_specs.specs.declared.causes.Cause.{Cause}
use Rattle.bmp_specs.specs.Lines.{cause_fields, further}
use Rattle.bmp_specs.specs.NumberText.{number_text}
use Rattle.bmp_specs.specs.Session.{shut}
use Rattle.reply_text.specs.Pieces.{spaced}
use Rattle.reply_text.proofs.Joining.{join_three}
use Rattle.reply_text.proofs.Pieces.{further-append, line_parts}
use Rattle.wire_io.proofs.Joins.{join_failed, more}
use Rattle.reply_text.proofs.full_router.put_closed.Goals as goal

abbrev told : ConnectionValue → List (List ℕ)
told v = opening_fields v.came v.until ++ (counted_fields v.up v.counts v.name v.descr ++ passed_fields v.passed)

abbrev front : ℕ → List ℕ
front lane = codes "router" ++ spaced (number_text lane ∷ codes "closed" ∷ [])

closed_parts : (lane : ℕ) (cause : Cause) (v : ConnectionValue) → full_router_line lane (shut cause) v ≡ front lane ++ (spaced (cause_fields cause) ++ further (told v))
closed_parts lane cause v =
    line_parts (codes "router") (number_text lane ∷ codes "closed" ∷ []) (cause_fields cause ++ told v) ∙ ap (λ (l : List ℕ). front lane ++ l) (further-append (cause_fields cause) (told v))

pub returns-in_err-put_state : goal.returns-in_err-put_state
returns-in_err-put_state g c =
    more _ _ _ (spaced (cause_fields c.args.cause) ++ further (told c.args.connection.now)) _ _ _ c.in_err-put_state.ensures c.from_residual.ensures.0 (closed_parts c.args.lane c.args.cause c.args.connection.now)

pub returns-in_err-put_cause_fields : goal.returns-in_err-put_cause_fields
returns-in_err-put_cause_fields g c =
    join_failed _ _ _ _ _ (further (told c.args.connection.now)) _ _ _ c.in_ok-put_state.ensures c.in_err-put_cause_fields.ensures c.from_residual-in_err-put_cause_fields.ensures.0 (closed_parts c.args.lane c.args.cause c.args.connection.now)

pub returns : goal.returns
returns g c =
    join_three _ _ _ _ _ _ _ _ _ _ _ c.in_ok-put_state.ensures c.in_ok-put_cause_fields.ensures c.put_closed_connection.ensures (closed_parts c.args.lane c.args.cause c.args.connection.now)
