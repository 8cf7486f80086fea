use Rattle.ff_outside_table.proofs.forks.show_words.Given as goal

abbrev pub ghosts-word_lists : goal.ghosts-word_lists
ghosts-word_lists a = record { name = a.blank.name; parts = a.blank.parts }
