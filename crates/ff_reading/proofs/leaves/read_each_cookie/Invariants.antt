use Rattle.ff_forms.specs.Grammar.{a_cookie}
use Rattle.ff_reading.proofs.Each.{Before}
use Rattle.ff_reading.proofs.leaves.read_each_cookie.Given as goal

abbrev pub invariant-loop-part : goal.invariant-loop-part
invariant-loop-part l = Before a_cookie l.parts l.part-index l.entries.items
