use Rattle.ff_outside_table.proofs.counter.show.Given as goal

abbrev pub ghosts-bytes_of_a_counter : goal.ghosts-bytes_of_a_counter
ghosts-bytes_of_a_counter a = record { name = a.blank.name; parts = a.blank.parts }
