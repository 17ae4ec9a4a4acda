use Rattle.std.proofs.Common.{arith}
use Rattle.ask_session.proofs.Pieces.{ends_line, ends_early}
use Rattle.ask_session.proofs.connection.hear_last.Goals as goal

pub returns-in-Some-clause-ends : goal.returns-in-Some-clause-ends
returns-in-Some-clause-ends g c = ends_early c.args.pass.now.station.lanes c.args.close c.in-Some.early _ _ c.args.line.now _ _ _ _ c.in-Some.ensures.sees.seen c.requires.plain (omega (arith, c.if-len-eq0.false, c.len.ensures)) (rw c.as_slice.ensures at c.in-Some.ensures.replied)

pub returns-in-None-clause-ends : goal.returns-in-None-clause-ends
returns-in-None-clause-ends g c = ends_line c.args.pass.now.station.lanes c.args.close _ _ c.args.line.now _ _ _ _ c.in-None.ensures.sees.seen c.requires.close c.requires.plain (omega (arith, c.if-len-eq0.false, c.len.ensures)) (rw c.as_slice.ensures at c.in-None.ensures.replied)
