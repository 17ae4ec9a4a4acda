use Rattle.query_eval.proofs.longest.longest_prefix.Given as goal

abbrev pub ghosts-longest_counted : goal.ghosts-longest_counted
ghosts-longest_counted a = record { name = a.blank.name; parts = a.blank.parts }
