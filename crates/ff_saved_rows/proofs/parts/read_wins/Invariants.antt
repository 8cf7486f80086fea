use Rattle.ff_saved_rows.specs.Reading.{win_in}
use Rattle.ff_saved_rows.proofs.Each.{Before}
use Rattle.ff_saved_rows.proofs.parts.read_wins.Given as goal

abbrev pub invariant-loop-item : goal.invariant-loop-item
invariant-loop-item l = Before win_in l.items l.item-index l.wins.items
