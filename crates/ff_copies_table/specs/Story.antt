-- The lines of a story.
use Rattle.std.specs.Prelude.{IfSome}
use Rattle.ff_lattice.specs.Order.{Order}
use Rattle.ff_trace.specs.Lines.{IsInputOf}
use Rattle.ff_copies_table.specs.declared.story.Line.{Line}

-- what the line offers, if it offers something, is an input for these levels
abbrev pub IsLineOf : Order → Line → Type 0
IsLineOf order line = IfSome line.input (IsInputOf order)
