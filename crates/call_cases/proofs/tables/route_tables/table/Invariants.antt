use Rattle.call_cases.proofs.tables.route_tables.table.Given as goal

abbrev pub ghosts-put_with : goal.ghosts-put_with
ghosts-put_with a = record { name = a.blank.name; parts = a.blank.parts }
