-- What a variable's `let` or `set` becomes.
use Rattle.ff_term.specs.Running.{Running, Let, Set}

-- a redex that declares or assigns a variable
abbrev pub IsBinding : Running → Type 0
IsBinding (Let x e) = Unit {0}
IsBinding (Set x e) = Unit {0}
IsBinding _ = ⊥

-- what it becomes: its part, which is the value
abbrev pub bound : Running → Running
bound (Let x e) = e
bound (Set x e) = e
bound e = e
