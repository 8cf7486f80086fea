-- What the text of a travel tells of each level that is shown.
use Rattle.std.specs.Prelude.{◌≡◌, ℕ, false, Option, List, ◌∷◌, ◌++◌}
use Rattle.ff_io.specs.Pieces.{Piece, got_of, has_end, put_of}
use Rattle.ff_io.specs.Port.{Passes, Told}
use Rattle.ff_contract.specs.Lists.{Begins}
use Rattle.ff_confinement.specs.Worlds.{copy_at, has_work}
use Rattle.ff_machine.specs.Machine.{reactor}
use Rattle.ff_name.specs.declared.levels.Level.{Level}
use Rattle.ff_policy.specs.Assignment.{Assignment}
use Rattle.ff_status.specs.declared.status.TraceFault.{TraceFault}
use Rattle.ff_stream.specs.Owed.{text_of}
use Rattle.ff_stream.specs.Traces.{IsTrace}
use Rattle.ff_stream.specs.declared.end.BadLine.{BadLine}
use Rattle.ff_travel.specs.Giving as giving
use Rattle.ff_travel.specs.declared.command.Command.{Command}
use Rattle.ff_travel.specs.declared.command.Command.TheVariants.{Show}
use Rattle.ff_travel.specs.Force.{arrivals, in_force, world_after}
use Rattle.ff_travel.specs.Shown.{lines_put, plain_put, travel_entry}

-- The bytes are what these commands show. The lines that a `show` writes of its level begin what
-- the plain browser puts at it on what the level sees of the inputs in force, and are all of that
-- where the level's copy has no work.
pub record IsTravelled (p : Assignment) (all : List Command) (put : List ℕ) : Type 0 where
  pub text_is : put ≡ text_of (travel_entry p) all
  pub begins : (before after : List Command) (level : Level) → all ≡ before ++ Show level ∷ after
      → Begins (plain_put p level.0 (arrivals (in_force before))) (lines_put p (world_after p before) level.0)
  pub whole : (before after : List Command) (level : Level) → all ≡ before ++ Show level ∷ after
      → has_work (reactor p.fuel) (copy_at (reactor p.fuel) (world_after p before) level.0) ≡ false
      → lines_put p (world_after p before) level.0 ≡ plain_put p level.0 (arrivals (in_force before))

-- Of the commands that the bytes got give, and of the bytes put, this holds.
pub record Tells (p : Assignment) (before now : Told) : Type 0 where
  pub pieces : List Piece
  pub passed : Passes before now pieces
  pub held : (all : List Command) (bad : Option (BadLine TraceFault)) → IsTrace (giving.Gives p.order) (has_end pieces) (got_of pieces) all bad → IsTravelled p all (put_of pieces)
