-- What contracts see of a browser.
use Rattle.ff_machine.specs.State as state
use Rattle.ff_core.specs.declared.parts.Parts.TheInside.{Inside}

-- the state whose parts are held
abbrev pub state_of : Inside → state.State
state_of b = record { stores = b.stores; budget = b.budget; fuel = b.fuel; tasks = b.tasks.items; quiet = b.quiet }
