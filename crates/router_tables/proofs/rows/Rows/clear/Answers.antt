use Rattle.router_tables.proofs.ChangesMade.{no_rows}
use Rattle.router_tables.proofs.rows.Rows.clear.Goals as goal

pub returns : goal.returns
returns c = no_rows c.new-2.result.entries c.new.result.entries c.new-2.ensures.empty c.new.ensures.empty
