-- When two inputs are the same.
use Rattle.std.specs.Prelude.{Bool}
use Rattle.ff_shared.specs.Content.{same_content}
use Rattle.ff_value.specs.declared.input.Input.{Input}
use Rattle.ff_value.specs.contracts.input.Input as input

-- whether two inputs are equal, their tags too
unfoldable pub same_input : Input → Input → Bool
same_input = same_content input.the_row.coded
