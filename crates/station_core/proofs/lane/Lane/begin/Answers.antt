use Rattle.std.proofs.Common.{◌∙◌, refl, sym}
use Rattle.station_core.proofs.Pieces.{begins_free, begins_live}
use Rattle.station_core.proofs.lane.Lane.begin.Goals as goal

pub returns-then-is_some : goal.returns-then-is_some
returns-then-is_some g c = begins_live g.B.BodyReading.meaning g.B.BodyReading.state c.args.self.now.due c.args.self.now.present (sym c.is_some.ensures ∙ c.if-is_some.true)

pub returns : goal.returns
returns g c =
    begins_free g.B.BodyReading.meaning g.B.BodyReading.state c.args.self.now.due c.append.new.due c.args.self.now.present (record { walk = c.new.result; taken = 0 })
    (sym c.is_some.ensures ∙ c.if-is_some.false) (rw c.untold.ensures at c.in_ok-append.ensures) c.new.ensures.run c.new.ensures.start refl
