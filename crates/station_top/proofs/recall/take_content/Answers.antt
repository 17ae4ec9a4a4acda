use Rattle.std.proofs.Common.{ap}
use Rattle.station_doors.specs.SurePort.{SurePortValue}
use Rattle.station_top.proofs.Recalling.{content_taken}
use Rattle.station_top.proofs.recall.take_content.Goals as goal

pub returns : goal.returns
returns g c =
    content_taken g.R.BodyReading.meaning g.A.Account.stands c.args.content c.in_ok-port.port.shows c.take_input.new.port.shows c.in_ok-port.port.reads c.take_input.result c.take_input.ensures.takes
    (ap (λ (p : SurePortValue). p.shows) c.in_ok-port.ensures) (ap (λ (p : SurePortValue). p.reads) c.in_ok-port.ensures)
