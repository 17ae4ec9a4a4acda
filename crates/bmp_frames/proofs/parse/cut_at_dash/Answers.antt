use Rattle.std.proofs.Common.{sym}
use Rattle.bmp_frames.proofs.Dash.{no_dash, cut_here}
use Rattle.bmp_frames.proofs.parse.cut_at_dash.Goals as goal

pub returns-in_default-clause-none : goal.returns-in_default-clause-none
returns-in_default-clause-none c front rest spelled = no_dash c.args.text.now (sym c.in_default.ensures) front rest spelled

pub returns-clause-found : goal.returns-clause-found
returns-clause-found c = cut_here c.args.text.now c.in-Some.at (sym c.in-Some.ensures)
