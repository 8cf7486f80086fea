-- What the bytes of a saved state's file give, and how a run ends where they give nothing.
use Rattle.std.proofs.Common.{◌≡◌, inl, inr, ℕ, Result, Ok, Err, List}
use Rattle.ff_contract.specs.Answering.{Answers}
use Rattle.ff_io.specs.Shelf.{ShelfTold}
use Rattle.ff_lattice.specs.Order.{size}
use Rattle.ff_policy.specs.Assignment.{Assignment}
use Rattle.ff_pool.specs.Pooled.{Pooled}
use Rattle.ff_pool.specs.Restored.{IsResting}
use Rattle.ff_resume.proofs.New.{new_rests}
use Rattle.ff_save.specs.Whole.{HasFault, IsSaved}
use Rattle.ff_save.specs.declared.fail.SavedFail.{SavedFail}
use Rattle.ff_save.specs.declared.fail.SavedFail.TheVariants.{Fault, NoMemory}
use Rattle.ff_saved_rows.specs.declared.fault.SavedFault.{SavedFault}
use Rattle.ff_status.specs.declared.status.Status.{Status}
use Rattle.ff_status.specs.declared.status.Status.TheVariants.{Saved}
use Rattle.ff_run.specs.Names.{Names}
use Rattle.ff_run.specs.States.{IsBadState, NamesState}

module _ (p : Assignment) (bytes : List ℕ) (read : Result Pooled SavedFail)
    (exact : (fault : SavedFault) → HasFault p bytes fault → Answers read (Err (Fault fault)) (Err NoMemory)) where
  -- copies were read, so no fault is found
  pub no_fault : (pool : Pooled) → read ≡ Ok pool → (status : Status) → IsBadState p bytes status → ⊥
  no_fault pool is _ (IsBadState.faulty fault faulty) = elim (exact fault faulty) [
    | inl e ↦ cc
    | inr e ↦ cc
  ]

  module _ (fault : SavedFault) (is : read ≡ Err (Fault fault)) where
    -- a fault was found, so no copies are read
    pub no_pool : ((pool : Pooled) → IsSaved p bytes pool → Answers read (Ok pool) (Err NoMemory)) → (pool : Pooled) → IsSaved p bytes pool → ⊥
    no_pool only pool reads = elim (only pool reads) [
      | inl e ↦ cc
      | inr e ↦ cc
    ]

    -- nor another fault found
    pub one_fault : (status : Status) → IsBadState p bytes status → Saved fault ≡ status
    one_fault _ (IsBadState.faulty other faulty) = elim (exact other faulty) [
      | inl e ↦ cc
      | inr e ↦ absurd (cc)
    ]

-- the copies of a name are at rest
pub named_rests : (p : Assignment) (shelf : ShelfTold) (name : List ℕ) (pool : Pooled) → NamesState p shelf name pool → IsResting (size p.order) p.fuel pool
named_rests p shelf _ _ (Names.at_dash name is_dash) = new_rests p
named_rests p shelf _ _ (Names.in_file name bytes pool no_dash fetched saved) = saved.whole.rests
