-- What contracts see of a shelf in memory.
use Rattle.std.specs.Prelude.{ℕ, List, Vec, String, Contains, option_map, is_some, if◌then◌else◌}
use Rattle.std.specs.BTreeMap.{BTreeMap, get_by_text}
use Rattle.std.specs.declared.alloc.Global.{Global}
use Rattle.ff_io.specs.Counts.{next_count}
use Rattle.ff_io.specs.Shelf.{Fetch, Files}
use Rattle.ff_io.specs.declared.mem_shelf.MemShelf.{MemShelf}

-- the files of a map
abbrev pub files_in : BTreeMap (String Global) (Vec ℕ Global) → Files
files_in files name = option_map (λ v. v.items) (get_by_text files name)

-- the files by their names
abbrev pub shelf_files : MemShelf → Files
shelf_files shelf = files_in shelf.files

-- the fetches that were made
abbrev pub shelf_log : MemShelf → List Fetch
shelf_log shelf = shelf.log.noted

-- the fetches that fail, by their numbers from 1
abbrev pub bad_fetches_of : MemShelf → List ℕ
bad_fetches_of shelf = shelf.bad_fetches.items

-- how many fetches came
abbrev pub fetches_of : MemShelf → ℕ
fetches_of shelf = shelf.fetches

-- how many fetches failed that count for a name: one count for the names that are there, and one
-- for the others
abbrev pub shelf_faults : MemShelf → List ℕ → ℕ
shelf_faults shelf name = if is_some (shelf_files shelf name) then shelf.faults else shelf.missing_faults

-- the next fetch is listed as one that fails
abbrev pub IsListed : MemShelf → Type 0
IsListed shelf = Contains (bad_fetches_of shelf) (next_count (fetches_of shelf))
