-- What a fetch gives of the files that a shelf tells.
use Rattle.std.specs.Prelude.{◌≡◌, ℕ, ◌≤◌, Option, Some, None, Result, Ok, Err, List, ◌++◌, take, drop, length, option_map, IsErr, ⊤}

-- the files by their names
abbrev pub Files : Type 0
Files = List ℕ → Option (List ℕ)

-- One fetch: the name and the place that it asked for, and the bytes that came; none where it
-- failed.
pub record Fetch : Type 0 where
  pub name : List ℕ
  pub place : ℕ
  pub came : Option (List ℕ)

abbrev pub fetched : List ℕ → ℕ → Option (List ℕ) → Fetch
fetched name place came = record { name = name; place = place; came = came }

-- What a shelf tells: the files and the fetches so far, each where they are told, and how many
-- fetches failed that count for a name.
pub record ShelfTold : Type 0 where
  pub files : Option Files
  pub fetches : Option (List Fetch)
  pub faults : List ℕ → ℕ

-- what came of a call
abbrev pub came_of : {E : Type 0} → Result ℕ E → List ℕ → Option (List ℕ)
came_of (Ok n) into = Some (take n into)
came_of (Err e) into = None

-- the fetches, where they are told, gained these at their end
abbrev pub Notes : Option (List Fetch) → Option (List Fetch) → List Fetch → Type 0
Notes before now fetches = now ≡ option_map (λ log. log ++ fetches) before

-- bytes of a file from an offset on, none only where the file ends there or before
pub record IsPart (file : List ℕ) (at : ℕ) (bytes : List ℕ) : Type 0 where
  pub there : bytes ≡ take (length bytes) (drop at file)
  pub some : length bytes ≡ 0 → length file ≤ at

-- a fetch from one file: one that isn't there is refused
abbrev pub GivesOf : {E : Type 0} → Option (List ℕ) → ℕ → Result ℕ E → List ℕ → Type 0
GivesOf None at result into = IsErr result
GivesOf (Some file) at (Ok n) into = IsPart file at (take n into)
GivesOf (Some file) at (Err e) into = ⊤

-- a fetch by name, where the files are told
abbrev pub Gives : {E : Type 0} → Option Files → List ℕ → ℕ → Result ℕ E → List ℕ → Type 0
Gives None name at result into = ⊤
Gives (Some files) name at result into = GivesOf (files name) at result into
