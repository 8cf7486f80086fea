-- What is fetched of a file from its front.
use Rattle.std.specs.Prelude.{◌≡◌, ℕ, ◌+◌, ◌<◌, ◌≤◌, Bool, true, Option, Some, None, Result, List, [], ◌∷◌, ◌++◌, take, length, IfOk, ◌⊎◌, ⊤}
use Rattle.std.specs.List.{list_any}
use Rattle.ff_io.specs.Pieces.{is_nil}
use Rattle.ff_io.specs.Shelf.{Fetch, Files, IsPart, Notes}

-- the bytes are the first of the file: so many, or all where it has fewer
abbrev pub IsFrontOf : Option (List ℕ) → ℕ → List ℕ → Type 0
IsFrontOf None limit bytes = ⊥
IsFrontOf (Some file) limit bytes = bytes ≡ take limit file

-- the same of a file by its name, where the files are told
abbrev pub IsFetched : Option Files → List ℕ → ℕ → List ℕ → Type 0
IsFetched None name limit bytes = ⊤
IsFetched (Some files) name limit bytes = IsFrontOf (files name) limit bytes

-- the piece is a part of the file
abbrev pub IsPartOf : Option (List ℕ) → ℕ → List ℕ → Type 0
IsPartOf None place piece = ⊥
IsPartOf (Some file) place piece = IsPart file place piece

-- the same of a file by its name, where the files are told
abbrev pub IsPieceOf : Option Files → List ℕ → ℕ → List ℕ → Type 0
IsPieceOf None name place piece = ⊤
IsPieceOf (Some files) name place piece = IsPartOf (files name) place piece

-- one fetch, whose bytes were kept; the answer says whether there were none
pub record IsFetchedPiece (files : Option Files) (name before now : List ℕ) (size : ℕ) (ended : Bool) : Type 0 where
  pub piece : List ℕ
  pub kept : now ≡ before ++ piece
  pub within : length piece ≤ size
  pub part : IsPieceOf files name (length before) piece
  pub none : ended ≡ true → length piece ≡ 0
  pub some : length piece ≡ 0 → ended ≡ true

-- ---- which fetches are made

-- the bytes that came of a fetch
abbrev pub bytes_of : Option (List ℕ) → List ℕ
bytes_of None = []
bytes_of (Some bytes) = bytes

-- after a fetch that failed or gave no byte there is no further one
abbrev pub is_last : Option (List ℕ) → Bool
is_last None = true
is_last (Some bytes) = is_nil bytes

-- fetches by one name, each from where the bytes before it end, from a place on and before the
-- limit
abbrev pub AreInTurn : List ℕ → ℕ → ℕ → List Fetch → Type 0
AreInTurn name limit place [] = ⊤
AreInTurn name limit place (fetch ∷ more) =
    (fetch.name ≡ name) × (fetch.place ≡ place) × (place < limit) × (is_last fetch.came ≡ true → more ≡ []) × AreInTurn name limit (place + length (bytes_of fetch.came)) more

-- all that came, joined
abbrev pub all_came : List Fetch → List ℕ
all_came [] = []
all_came (fetch ∷ more) = bytes_of fetch.came ++ all_came more

-- whether one of them is the last
abbrev pub has_last : List Fetch → Bool
has_last fetches = list_any (λ fetch. is_last fetch.came) fetches

-- The fetches of a call for the front of a file: none begins at the limit or behind it, nor after
-- the file's end.
pub record AreFetches (name : List ℕ) (limit : ℕ) (before now : Option (List Fetch)) : Type 0 where
  pub fetches : List Fetch
  pub added : Notes before now fetches
  pub in_turn : AreInTurn name limit 0 fetches

-- The same where the call gave these bytes: they are what came, and either so many as there is room
-- for, or the file's end was seen.
pub record IsGiven (name : List ℕ) (limit : ℕ) (before now : Option (List Fetch)) (bytes : List ℕ) : Type 0 where
  pub fetches : List Fetch
  pub added : Notes before now fetches
  pub in_turn : AreInTurn name limit 0 fetches
  pub came : bytes ≡ all_came fetches
  pub whole : (limit ≤ length bytes) ⊎ (has_last fetches ≡ true)

-- one fetch, whose bytes are kept where it is answered
pub record IsFetchMade {E : Type 0} (name : List ℕ) (before now : Option (List Fetch)) (kept_before kept : List ℕ) (answer : Result Bool E) : Type 0 where
  pub fetch : Fetch
  pub added : Notes before now (fetch ∷ [])
  pub named : fetch.name ≡ name
  pub place : fetch.place ≡ length kept_before
  pub joined : IfOk answer (λ ended. (kept ≡ kept_before ++ bytes_of fetch.came) × (ended ≡ is_last fetch.came))
