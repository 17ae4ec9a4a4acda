use Rattle.std.proofs.Common.{◌≡◌, ◌∙◌, ◌++◌, List, ℕ, None, ap}
use Rattle.ask_specs.specs.FullRouters.{ConnectionValue, counted_fields, opening_fields, passed_fields}
use Rattle.bmp_specs.specs.Lines.{further}
use Rattle.reply_text.specs.Pieces.{spaced}
use Rattle.reply_text.proofs.Joining.{join_three}
use Rattle.reply_text.proofs.Pieces.{further-append}
use Rattle.wire_io.proofs.Joins.{join_failed, more}
use Rattle.reply_text.proofs.full_router.put_open_connection.Goals as goal

abbrev counted : ConnectionValue → List (List ℕ)
counted v = counted_fields v.up v.counts v.name v.descr

told_parts : (v : ConnectionValue) → further (counted v ++ (opening_fields v.came None ++ passed_fields v.passed)) ≡ spaced (counted v) ++ (spaced (opening_fields v.came None) ++ further (passed_fields v.passed))
told_parts v =
    further-append (counted v) (opening_fields v.came None ++ passed_fields v.passed) ∙ ap (λ (l : List ℕ). spaced (counted v) ++ l) (further-append (opening_fields v.came None) (passed_fields v.passed))

pub returns-in_err-put_counted : goal.returns-in_err-put_counted
returns-in_err-put_counted g c =
    let i = c.connection.inside in
    let v : ConnectionValue = record { came = i.came; until = i.until; up = i.peers; counts = i.counts; name = i.name.now; descr = i.descr.now; passed = i.passed.now } in
    rw (← c.connection.view_is) (more _ _ _ (spaced (opening_fields v.came None) ++ further (passed_fields v.passed)) _ _ _ c.in_err-put_counted.ensures c.from_residual.ensures.0 (told_parts v))

pub returns-in_err-put_opening : goal.returns-in_err-put_opening
returns-in_err-put_opening g c =
    let i = c.connection.inside in
    let v : ConnectionValue = record { came = i.came; until = i.until; up = i.peers; counts = i.counts; name = i.name.now; descr = i.descr.now; passed = i.passed.now } in
    rw (← c.connection.view_is) (join_failed _ _ _ _ _ (further (passed_fields v.passed)) _ _ _ c.in_ok-put_counted.ensures c.in_err-put_opening.ensures c.from_residual-in_err-put_opening.ensures.0 (told_parts v))

pub returns : goal.returns
returns g c =
    let i = c.connection.inside in
    let v : ConnectionValue = record { came = i.came; until = i.until; up = i.peers; counts = i.counts; name = i.name.now; descr = i.descr.now; passed = i.passed.now } in
    rw (← c.connection.view_is) (join_three _ _ _ _ _ _ _ _ _ _ _ c.in_ok-put_counted.ensures c.in_ok-put_opening.ensures c.put_passed.ensures (told_parts v))
