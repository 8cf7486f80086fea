-- Which copies a name stands for that a resumed run begins with, and what is wrong with its file.
use Rattle.std.specs.Prelude.{ℕ, List}
use Rattle.ff_io.specs.Shelf.{ShelfTold}
use Rattle.ff_policy.specs.Assignment.{Assignment}
use Rattle.ff_pool.specs.Pooled.{Pooled}
use Rattle.ff_resume.specs.Resumed.{new_copies}
use Rattle.ff_save.specs.Whole.{HasFault, IsSaved}
use Rattle.ff_saved_rows.specs.declared.fault.SavedFault.{SavedFault}
use Rattle.ff_status.specs.declared.status.Status.{Status}
use Rattle.ff_status.specs.declared.status.Status.TheVariants.{Saved}
use Rattle.ff_run.specs.Names.{Kind, Names}
use Rattle.ff_run.specs.declared.states.TheConstants.{MOST_FETCHED}

-- bytes are no saved text under a policy, and a run ends so
pub data IsBadState (p : Assignment) (bytes : List ℕ) : Status → Type 0 where
  faulty : (fault : SavedFault) → HasFault p bytes fault → IsBadState p bytes (Saved fault)

-- the states under a policy that a run may begin with: new copies, or those whose saved text a file
-- is, of which so many bytes count
abbrev pub states_under : Assignment → Kind Pooled
states_under p = record { built_in = new_copies p; most = MOST_FETCHED; gives = IsSaved p; is_bad = IsBadState p }

-- the copies of this name
abbrev pub NamesState : Assignment → ShelfTold → List ℕ → Pooled → Type 0
NamesState p = Names (states_under p)
