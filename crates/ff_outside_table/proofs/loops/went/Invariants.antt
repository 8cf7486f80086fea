use Rattle.ff_outside_table.proofs.loops.went.Given as goal

abbrev pub ghosts-go-C-Ledger : goal.ghosts-go-C-Ledger
ghosts-go-C-Ledger g a = record { name = a.copies.name; parts = a.copies.parts }

abbrev pub ghosts-go-L-Ledger : goal.ghosts-go-L-Ledger
ghosts-go-L-Ledger g a = record { name = a.turns.name; parts = a.turns.parts }
