use Rattle.std.proofs.Common.{[]}
use Rattle.router_tables.proofs.Beginnings.{empty_rows}
use Rattle.router_tables.proofs.builder.TablesBuilder.new.Goals as goal

pub returns : goal.returns
returns c = record { session = c.in_ok-new.ensures; rows = c.new-3.ensures [] (empty_rows _ c.new-2.ensures.empty); steps = c.in_ok-new-2.ensures }
