use Rattle.std.proofs.Common.{List, Option, None, ap, ◌∙◌}
use Rattle.bmp_specs.specs.declared.causes.Cause.{Cause}
use Rattle.station_doors.specs.Doors.{told_after}
use Rattle.feed_worker.proofs.Closings.{both_tell, tells_broken}
use Rattle.feed_worker.proofs.Concluding.{both_answers, closing_fits, concludes, concludes_broken, concludes_unclosed}
use Rattle.feed_worker.proofs.feed.serve_connection.Goals as goal

pub close_connection-requires-clause-room : goal.close_connection-requires-clause-room
close_connection-requires-clause-room g c = closing_fits g.B.BodyReading.meaning _ _ _ _ _ _ c.in-Ok.ensures.taken c.requires.room

pub returns-in-Ok-clause-concludes : goal.returns-in-Ok-clause-concludes
returns-in-Ok-clause-concludes g c =
    let t = c.in-Ok.ensures.taken in
    let shut = c.close_connection.ensures.closes in
    both_answers c.close_connection.result c.close_connection.ensures.pass (λ _ d. concludes g.B.BodyReading.meaning _ _ _ _ _ _ t _ _ _ shut d) (λ _ d. concludes_unclosed g.B.BodyReading.meaning _ _ _ _ _ _ t _ _ _ shut d)

pub returns-in-Ok-clause-told : goal.returns-in-Ok-clause-told
returns-in-Ok-clause-told g c = both_tell g.B.BodyReading.meaning g.met.B.BodyReading.gives_messages _ _ _ _ _ _ _ _ c.in-Ok.ensures.causes _ c.in-Ok.ensures.taken _ _ c.close_connection.result c.close_connection.ensures.pass c.close_connection.ensures.told

pub returns-in-Err-clause-concludes : goal.returns-in-Err-clause-concludes
returns-in-Err-clause-concludes g c = rw (c.ended.ensures.aside, c.ended.ensures.began, c.close.ensures.began) (concludes_broken g.B.BodyReading.meaning _ _ _ _ _ _ _ c.in-Err.ensures.taken c.close.ensures.closes)

pub returns-in-Err-clause-told : goal.returns-in-Err-clause-told
returns-in-Err-clause-told g c = tells_broken g.B.BodyReading.meaning g.met.B.BodyReading.gives_messages _ _ _ _ _ _ _ _ c.in-Err.ensures.causes _ c.in-Err.ensures.taken (c.ended.ensures.causes ∙ ap (λ (o : Option (List Cause)). told_after o None) c.close.ensures.causes)
