-- What a change of stores keeps.
use Rattle.std.specs.Prelude.{Option, Some, None, ⊤}
use Rattle.ff_confinement.specs.Turns.{Stepped}
use Rattle.ff_value.specs.declared.output.Out.{Out}
use Rattle.ff_machine.specs.References.{Grows, made}
use Rattle.ff_machine.specs.Stores.{Stores}
use Rattle.ff_machine.specs.Valid.{IsStores}

-- the new stores are valid, and at least as much was made in them
pub record Keeps (before after : Stores) : Type 0 where
  pub stores : IsStores after
  pub grows : Grows (made before) (made after)

-- a step that is made, if it is, keeps the stores
abbrev pub KeepsIfMade : Stores → Option (Stepped Out Stores) → Type 0
KeepsIfMade s None = ⊤
KeepsIfMade s (Some step) = Keeps s step.after
