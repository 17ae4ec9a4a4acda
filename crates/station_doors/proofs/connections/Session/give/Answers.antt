use Rattle.std.proofs.Common.{◌≡◌, arith, ap, length}
use Rattle.station_doors.proofs.Sessions.{gives}
use Rattle.station_doors.proofs.connections.Session.give.Goals as goal

pub returns-clause-given : goal.returns-clause-given
returns-clause-given c =
    let bytes : c.as_slice.result.now ≡ c.args.self.now.bytes = c.as_slice.ensures in
    let len = ap length bytes in
    gives c.args.self.now c.saturating_add-self.result c.fill-count.result c.last_after-self.result c.fill-count.new.buf (omega (arith, len)) (rw (← bytes) c.fill-count.ensures.bytes) (λ none. omega (arith, len)) c.last_after-self.ensures
