-- How a run ended.
use Rattle.std.specs.Prelude.{⊤}
use Rattle.ff_status.specs.declared.status.Status.{Status}
use Rattle.ff_status.specs.declared.status.Status.TheVariants.{Usage, Policy, ReadFault, WriteFault, ShelfFault, Saved, Release}

-- an end that comes where no call of the outside failed
abbrev pub IsUnfailing : Status → Type 0
IsUnfailing ReadFault = ⊥
IsUnfailing WriteFault = ⊥
IsUnfailing ShelfFault = ⊥
IsUnfailing other = ⊤

-- an end before the port is touched
abbrev pub IsEarly : Status → Type 0
IsEarly Usage = ⊤
IsEarly (Policy fault) = ⊤
IsEarly ShelfFault = ⊤
IsEarly (Saved fault) = ⊤
IsEarly (Release fault) = ⊤
IsEarly other = ⊥

-- an end before any cell is copied: a saved state is made into copies before it is refused
abbrev pub IsUncopied : Status → Type 0
IsUncopied Usage = ⊤
IsUncopied (Policy fault) = ⊤
IsUncopied ShelfFault = ⊤
IsUncopied (Release fault) = ⊤
IsUncopied other = ⊥
