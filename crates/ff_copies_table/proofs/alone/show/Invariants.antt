use Rattle.ff_copies_table.proofs.alone.show.Given as goal

abbrev pub ghosts-fork_goes_on-C-Ledger : goal.ghosts-fork_goes_on-C-Ledger
ghosts-fork_goes_on-C-Ledger a = record { name = a.copies.name; parts = a.copies.parts }

abbrev pub ghosts-fork_goes_on-L-Ledger : goal.ghosts-fork_goes_on-L-Ledger
ghosts-fork_goes_on-L-Ledger a = record { name = a.turns.name; parts = a.turns.parts }
