-- What `show` writes.
use Rattle.std.specs.Prelude.{ℕ, Bool, true, false, ◌==◌, List, [], ◌∷◌, ◌++◌, codes, filter, flat_map}
use Rattle.ff_confinement.specs.Copies.{at_level, seen}
use Rattle.ff_contract.specs.Lists.{below}
use Rattle.ff_confinement.specs.Runs.{joined, plain}
use Rattle.ff_value.specs.declared.input.Input.{Input}
use Rattle.ff_confinement.specs.Text.{text_of}
use Rattle.ff_confinement.specs.Worlds as worlds
use Rattle.ff_confinement.specs.Worlds.{leader, copy_at, has_work}
use Rattle.ff_lattice.specs.Order.{Order, name}
use Rattle.ff_machine.specs.Machine.{reactor}
use Rattle.ff_policy.specs.Assignment.{Assignment}
use Rattle.ff_session.specs.Levels.{levels, machine}
use Rattle.ff_travel.specs.Force.{Copies, world_after, step_turns}
use Rattle.ff_travel.specs.declared.command.Command.{Command}
use Rattle.ff_travel.specs.declared.command.Command.TheVariants.{Arrive, Turn, Drain, Back, Show}

-- the levels of a level's class, in their order
abbrev pub class_of : Copies → ℕ → List ℕ
class_of w l = filter (λ k. leader w.leaders k == leader w.leaders l) (below (worlds.levels w))

-- names of levels, each after a blank
abbrev pub names_text : Order → List ℕ → List ℕ
names_text order ls = flat_map (λ k. 32 ∷ name order k) ls

-- whether a copy has work
abbrev pub work_text : Bool → List ℕ
work_text true = codes " running"
work_text false = codes " quiet"

-- the line of a level's class: its levels, and whether their copy has work
abbrev pub class_line : Assignment → Copies → ℕ → List ℕ
class_line p w l = codes "class" ++ (names_text p.order (class_of w l) ++ (work_text (has_work (reactor p.fuel) (copy_at (reactor p.fuel) w l)) ++ 10 ∷ []))

-- the line that names the level
abbrev pub show_line : Order → ℕ → List ℕ
show_line order l = codes "show " ++ (name order l ++ 10 ∷ [])

-- the lines that a level's copy has put and that are at the level
abbrev pub lines_put : Assignment → Copies → ℕ → List ℕ
lines_put p w l = text_of (levels p) (at_level (levels p) l (copy_at (reactor p.fuel) w l).outputs)

-- the lines at a level that the plain browser puts on what the level sees of these inputs
abbrev pub plain_put : Assignment → ℕ → List Input → List ℕ
plain_put p l is = text_of (levels p) (at_level (levels p) l (joined (plain (machine p) (seen (levels p) l is))))

-- what is shown of a level
unfoldable pub shown : Assignment → Copies → ℕ → List ℕ
shown p w l = show_line p.order l ++ (lines_put p w l ++ class_line p w l)

-- the text for a command over these copies
abbrev pub text_at : Assignment → Copies → Command → List ℕ
text_at p w (Arrive input) = []
text_at p w (Turn level) = []
text_at p w Drain = []
text_at p w Back = []
text_at p w (Show level) = shown p w level.0

-- the text for a command after the commands before it, and its turns
abbrev pub travel_entry : Assignment → List Command → Command → List ℕ
travel_entry p before command = text_at p (world_after p before) command

abbrev pub travel_turns : Assignment → List Command → Command → ℕ
travel_turns p before command = step_turns p (world_after p before) command
