-- Items that are read one after another, up to a place.
use Rattle.std.proofs.Common.{◌≡◌, ◌+◌, ℕ, List, ◌++◌, drop, Result}
use Rattle.ff_lattice.specs.Order.{Order}
use Rattle.ff_text.specs.declared.items.Sexp.{Sexp}
use Rattle.ff_trace.specs.declared.fault.LineFault.{LineFault}
use Rattle.ff_saved_rows.specs.Reading.{of_one, each_in, with_levels, level_in, levels_in}

module _ {X : Type 0} (read : Sexp → Result X LineFault) where
  -- what the items are, from those before a place and those from it on
  pub record Before (items : List Sexp) (i : ℕ) (done : List X) : Type 0 where
    pub is : each_in read items ≡ of_one (λ rest. done ++ rest) (each_in read (drop i items))

-- the set of some levels, and of those from a place on
pub record SetBefore (order : Order) (items : List Sexp) (i : ℕ) (set : List ℕ) : Type 0 where
  pub is : levels_in order items ≡ of_one (with_levels set) (each_in (level_in order) (drop i items))
