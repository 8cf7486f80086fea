use Rattle.ff_copies_table.proofs.auditing.show.Given as goal

abbrev pub ghosts-audit-C-Ledger : goal.ghosts-audit-C-Ledger
ghosts-audit-C-Ledger a = record { name = a.copies.name; parts = a.copies.parts }

abbrev pub ghosts-audit-L-Ledger : goal.ghosts-audit-L-Ledger
ghosts-audit-L-Ledger a = record { name = a.turns.name; parts = a.turns.parts }
