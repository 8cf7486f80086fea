use Rattle.ff_copies_table.proofs.story.show.Given as goal

abbrev pub ghosts-tell-C-Ledger : goal.ghosts-tell-C-Ledger
ghosts-tell-C-Ledger a = record { name = a.copies.name; parts = a.copies.parts }

abbrev pub ghosts-tell-L-Ledger : goal.ghosts-tell-L-Ledger
ghosts-tell-L-Ledger a = record { name = a.turns.name; parts = a.turns.parts }
