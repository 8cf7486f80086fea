-- What `check` does: it writes what each level sees.
use Rattle.std.specs.Prelude.{◌≡◌, ℕ, List, [], ◌∷◌, ◌++◌, codes, filter, flat_map}
use Rattle.ff_io.specs.Counts.{Rose}
use Rattle.ff_io.specs.Pieces.{Piece, put_of, AllPut}
use Rattle.ff_io.specs.Port.{Told, Passes}
use Rattle.ff_io.specs.Fronts.{IsProperFront}
use Rattle.ff_contract.specs.Lists.{below}
use Rattle.ff_lattice.specs.Order.{Order, size, leq, name}
use Rattle.ff_status.specs.declared.status.Status.{Status}
use Rattle.ff_status.specs.declared.status.Status.TheVariants.{Done, WriteFault, NoMemory}

-- the line of a level: its name, and the names of the levels at or below it
abbrev pub level_line : Order → ℕ → List ℕ
level_line order l = codes "level " ++ (name order l ++ (codes " sees" ++ (flat_map (λ k. 32 ∷ name order k) (filter (λ k. leq order k l) (below (size order))) ++ 10 ∷ [])))

-- the text: a line for each level in order
abbrev pub check_text : Order → List ℕ
check_text order = flat_map (level_line order) (below (size order))

-- Nothing was got, and of the bytes put this holds.
pub record OnlyPuts (before now : Told) (holds : List ℕ → Type 0) : Type 0 where
  pub pieces : List Piece
  pub passed : Passes before now pieces
  pub all_put : AllPut pieces
  pub held : holds (put_of pieces)

-- What was put of a text that is written alone, by the status: where there is no memory, nothing.
abbrev pub IsPut : List ℕ → Told → Told → Status → Type 0
IsPut text before now Done = OnlyPuts before now (λ put. put ≡ text)
IsPut text before now WriteFault = OnlyPuts before now (λ put. IsProperFront put text) × Rose before.write_faults now.write_faults
IsPut text before now NoMemory = now ≡ before
IsPut text before now other = ⊥

-- the text for a policy's levels was put
abbrev pub IsListed : Order → Told → Told → Status → Type 0
IsListed order before now status = IsPut (check_text order) before now status

-- What `check` does to its port: no turn is made.
pub record Checks (order : Order) (before now : Told) (turns_before turns_now : ℕ) (status : Status) : Type 0 where
  pub listed : IsListed order before now status
  pub unturned : turns_now ≡ turns_before
