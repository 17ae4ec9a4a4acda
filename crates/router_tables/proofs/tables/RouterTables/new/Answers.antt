use Rattle.router_tables.proofs.Beginnings.{stands_new}
use Rattle.router_tables.proofs.tables.RouterTables.new.Goals as goal

pub returns : goal.returns
returns c = stands_new c.in_ok-new.field-0 _ c.in_ok-new-2.field-0 c.in_ok-new.ensures c.new-2.ensures.empty c.in_ok-new-2.ensures
