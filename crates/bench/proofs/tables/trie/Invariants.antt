use Rattle.bench.proofs.tables.trie.Given as goal

abbrev pub ghosts-matched : goal.ghosts-matched
ghosts-matched g a = record { name = a.blank.name; parts = a.blank.parts }
