use Rattle.call_cases.proofs.tables.tries.trie.Given as goal

abbrev pub ghosts-longest : goal.ghosts-longest
ghosts-longest a = record { name = a.blank.name; parts = a.blank.parts }
