use Rattle.ff_outside_table.proofs.forks.show_sixteen.Given as goal

abbrev pub ghosts-list_and_fifteen_forks : goal.ghosts-list_and_fifteen_forks
ghosts-list_and_fifteen_forks a = record { name = a.blank.name; parts = a.blank.parts }
