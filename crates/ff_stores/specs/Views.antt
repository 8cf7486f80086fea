-- What contracts see of the stores.
use Rattle.ff_machine.specs.Stores as stores
use Rattle.ff_stores.specs.declared.stores.Stores.TheInside.{Inside}

-- the record of the stores that are held
abbrev pub stores_of : Inside → stores.Stores
stores_of s = record { nodes = s.nodes; windows = s.windows; jar = s.jar; requests = s.requests; mass = s.mass; touched = s.touched }
