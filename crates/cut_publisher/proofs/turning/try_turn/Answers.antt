use Rattle.cut_publisher.proofs.Moves.{last_shown, live_then, ready, same_shown}
use Rattle.cut_publisher.proofs.turning.try_turn.Goals as goal

pub publish_as-back-requires : goal.publish_as-back-requires
publish_as-back-requires g c next is = ready g.S.Subject.stands _ _ _ next _ c.requires is

pub returns-in-Ok-clause-shown : goal.returns-in-Ok-clause-shown
returns-in-Ok-clause-shown g c before x is =
    let values = rw c.in-Ok.is at c.publish_as-back.ensures.values in
    last_shown g.S.Subject.stands c.args.writer.desk.shown.value c.publish_as-back.result.0.desk.shown.value _ before x is values.0

pub returns-in-Ok-clause-again : goal.returns-in-Ok-clause-again
returns-in-Ok-clause-again g c none =
    let values = rw c.in-Ok.is at c.publish_as-back.ensures.values in
    same_shown g.S.Subject.stands c.args.writer.desk.shown.value c.publish_as-back.result.0.desk.shown.value _ none values.0

pub returns-in-Ok-clause-idle : goal.returns-in-Ok-clause-idle
returns-in-Ok-clause-idle g c =
    let values = rw c.in-Ok.is at c.publish_as-back.ensures.values in
    (live_then g.S.Subject.stands c.args.writer.desk.shown.value c.publish_as-back.result.0.desk.shown.value _ c.requires values.0, values.1)
