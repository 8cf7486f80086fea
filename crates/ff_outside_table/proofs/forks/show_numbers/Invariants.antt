use Rattle.ff_outside_table.proofs.forks.show_numbers.Given as goal

abbrev pub ghosts-number_lists : goal.ghosts-number_lists
ghosts-number_lists a = record { name = a.blank.name; parts = a.blank.parts }
