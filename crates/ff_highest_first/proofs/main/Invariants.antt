use Rattle.ff_highest_first.proofs.main.Given as goal

abbrev pub ghosts-run-C-Ledger : goal.ghosts-run-C-Ledger
ghosts-run-C-Ledger a = record { name = a.copies.name; parts = a.copies.parts }

abbrev pub ghosts-run-L-Ledger : goal.ghosts-run-L-Ledger
ghosts-run-L-Ledger a = record { name = a.turns.name; parts = a.turns.parts }
