-- What a name stands for: something built in at `-`, and else what the bytes of the file of this
-- name give.
use Rattle.std.specs.Prelude.{◌≡◌, ◌≢◌, ◌⊎◌, ◌≤◌, ℕ, Some, Result, Err, List}
use Rattle.ff_io.specs.Counts.{Rose}
use Rattle.ff_io.specs.Shelf.{Files, ShelfTold}
use Rattle.ff_io.specs.Fetched.{IsFetched, IsGiven}
use Rattle.ff_status.specs.declared.status.Status.{Status}
use Rattle.ff_status.specs.declared.status.Status.TheVariants.{ShelfFault, NoMemory}
use Rattle.ff_run.specs.Words.{dash}

-- a fetch of the file of this name failed
abbrev pub FetchFailed : List ℕ → ShelfTold → ShelfTold → Type 0
FetchFailed name before now = Rose (before.faults name) (now.faults name)

-- the name is that of a file, and a fetch of it failed
abbrev pub IsUnfetched : List ℕ → ShelfTold → ShelfTold → Type 0
IsUnfetched name before now = (name ≢ dash) × FetchFailed name before now

-- no fetch of any file failed, or the run ends with that one did
abbrev pub FetchedOrFailed : ShelfTold → ShelfTold → Status → Type 0
FetchedOrFailed before now status = (status ≡ ShelfFault) ⊎ ((name : List ℕ) → now.faults name ≡ before.faults name)

-- what the name stands for is known: what is built in, or the files are told
abbrev pub IsKnown : ShelfTold → List ℕ → Type 0
IsKnown shelf name = (name ≡ dash) ⊎ ((files : Files) × (shelf.files ≡ Some files))

-- What names of one kind may stand for: what is built in at `-`, how many bytes of a file count,
-- what these give, and how a run ends where they give nothing.
pub record Kind (X : Type 0) : Type 1 where
  pub built_in : X
  pub most : ℕ
  pub gives : List ℕ → X → Type 0
  pub is_bad : List ℕ → Status → Type 0

module _ {X : Type 0} (kind : Kind X) where
  -- The name stands for this.
  pub data Names (shelf : ShelfTold) : List ℕ → X → Type 0 where
    at_dash : (name : List ℕ) → name ≡ dash → Names shelf name kind.built_in
    in_file : (name bytes : List ℕ) (x : X) → name ≢ dash → IsFetched shelf.files name kind.most bytes → kind.gives bytes x → Names shelf name x

  -- It stands for this by what the shelf gave between two moments, and then it isn't called for a
  -- dash: also where no files are told, the fetches may be.
  pub data IsByGiven (before now : ShelfTold) : List ℕ → X → Type 0 where
    at_dash : (name : List ℕ) → name ≡ dash → now ≡ before → IsByGiven before now name kind.built_in
    in_bytes : (name bytes : List ℕ) (x : X) → name ≢ dash → IsGiven name kind.most before.fetches now.fetches bytes → kind.gives bytes x → IsByGiven before now name x

  -- The shelf gave for this name something of which this holds.
  pub record GivenFor (before now : ShelfTold) (name : List ℕ) (holds : X → Type 0) : Type 0 where
    pub found : X
    pub given : IsByGiven before now name found
    pub held : holds found

  -- The file of this name gives nothing, and the run ends so.
  pub record NamesBad (shelf : ShelfTold) (name : List ℕ) (status : Status) : Type 0 where
    pub bytes : List ℕ
    pub no_dash : name ≢ dash
    pub fetched : IsFetched shelf.files name kind.most bytes
    pub bad : kind.is_bad bytes status

  -- Why nothing was found: a fetch of the file failed, the file gives nothing, or there is no
  -- memory.
  pub data Refuses (before now : ShelfTold) (name : List ℕ) : Status → Type 0 where
    no_file : name ≢ dash → FetchFailed name before now → Refuses before now name ShelfFault
    bad_file : (status : Status) → NamesBad before name status → Refuses before now name status
    no_memory : Refuses before now name NoMemory

  -- The name stands for something of which this holds; where it is known what the name stands for,
  -- for nothing else.
  pub record StandsFor (shelf : ShelfTold) (name : List ℕ) (holds : X → Type 0) : Type 0 where
    pub found : X
    pub named : Names shelf name found
    pub only : (other : X) → IsKnown shelf name → Names shelf name other → other ≡ found
    pub held : holds found

-- no fetch of any file failed, or that one did is the answer
abbrev pub IsFetchedOrFails : {X : Type 0} → ShelfTold → ShelfTold → Result X Status → Type 0
IsFetchedOrFails before now found = (found ≡ Err ShelfFault) ⊎ ((name : List ℕ) → now.faults name ≡ before.faults name)

-- The files are the same, and of no name was a failure taken back.
pub record IsLater (before now : ShelfTold) : Type 0 where
  pub files : now.files ≡ before.files
  pub faults : (name : List ℕ) → before.faults name ≤ now.faults name

-- a refusal that the file's bytes have no part in
abbrev pub IsOutside : {X : Type 0} → Result X Status → Type 0
IsOutside found = (found ≡ Err ShelfFault) ⊎ (found ≡ Err NoMemory)
