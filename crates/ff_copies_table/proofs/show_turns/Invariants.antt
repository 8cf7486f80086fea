use Rattle.ff_copies_table.proofs.show_turns.Given as goal

abbrev pub ghosts-count-C-Ledger : goal.ghosts-count-C-Ledger
ghosts-count-C-Ledger a = record { name = a.copies.name; parts = a.copies.parts }

abbrev pub ghosts-count-L-Ledger : goal.ghosts-count-L-Ledger
ghosts-count-L-Ledger a = record { name = a.turns.name; parts = a.turns.parts }
