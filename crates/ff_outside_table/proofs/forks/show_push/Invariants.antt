use Rattle.ff_outside_table.proofs.forks.show_push.Given as goal

abbrev pub ghosts-push_to : goal.ghosts-push_to
ghosts-push_to a = record { name = a.blank.name; parts = a.blank.parts }
