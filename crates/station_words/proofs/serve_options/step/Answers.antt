use Rattle.std.proofs.Common.{[], ◌∷◌, ◌++◌, map, sym, ◌∙◌}
use Rattle.std.specs.String.{string_bytes}
use Rattle.station_words.specs.Complaints.{name_of}
use Rattle.station_words.proofs.ComplaintSteps.{front_complains, known_given, known_none, known_sound, knows_more, stand_more}
use Rattle.station_words.proofs.serve_options.step.Goals as goal

pub returns-then-has-clause-err : goal.returns-then-has-clause-err
returns-then-has-clause-err c = λ settings given stand knows. (
  settings,
  _,
  (stand, known_sound c.args.seen.now.given settings knows),
  known_given c.args.seen.now.given settings knows c.in-Ok.option (sym c.has.ensures ∙ c.if-has.true),
  (c.in-Ok.value.now, map string_bytes c.in-Ok.left.now, c.in-Ok.ensures.ok),
)

pub returns-then-not-takes-clause-err : goal.returns-then-not-takes-clause-err
returns-then-not-takes-clause-err c = λ settings given stand knows. (
  settings,
  _,
  map string_bytes c.in-Ok.left.now,
  (stand, known_sound c.args.seen.now.given settings knows),
  known_none c.args.seen.now.given settings knows c.in-Ok.option (sym c.has.ensures ∙ c.if-has.false),
  c.in-Ok.ensures.ok,
  c.takes.ensures.no c.if-not-takes.true,
)

pub returns-else-not-takes-clause-ok : goal.returns-else-not-takes-clause-ok
returns-else-not-takes-clause-ok c = λ settings given stand knows. (
  (name_of c.in-Ok.option, c.in-Ok.value.now),
  stand_more settings (name_of c.in-Ok.option, c.in-Ok.value.now) given _ _ stand c.in-Ok.ensures.ok,
  knows_more c.args.seen.now.given c.add.new.self.given settings c.in-Ok.option c.in-Ok.value.now knows (sym c.has.ensures ∙ c.if-has.false) (c.takes.ensures.yes c.if-not-takes.false) c.add.ensures.there c.add.ensures.kept c.add.ensures.only,
)

pub returns-in-Err-clause-err : goal.returns-in-Err-clause-err
returns-in-Err-clause-err c = λ settings given stand knows. front_complains c.in-Err.complaint settings given _ _ c.in-Err.ensures.err (stand, known_sound c.args.seen.now.given settings knows)
