use Rattle.ff_vectors.proofs.ending.end.Given as goal

abbrev pub ghosts-obey-C-Ledger : goal.ghosts-obey-C-Ledger
ghosts-obey-C-Ledger a = record { name = a.copies.name; parts = a.copies.parts }

abbrev pub ghosts-obey-L-Ledger : goal.ghosts-obey-L-Ledger
ghosts-obey-L-Ledger a = record { name = a.turns.name; parts = a.turns.parts }
