-- Room for nodes.
use Rattle.std.specs.Prelude.{ℕ, ◌-◌, nat_le, Option, Some, None, if◌then◌else◌}

-- what is left of a room for so many after as many as a size, if there is room for them
abbrev pub room_left : ℕ → ℕ → Option ℕ
room_left room size = if nat_le size room then Some (room - size) else None
