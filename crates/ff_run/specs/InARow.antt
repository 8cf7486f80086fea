-- Two runs with `resume`, one after the other.
use Rattle.std.specs.Prelude.{◌≡◌, ◌≢◌, ℕ, Some, All, List}
use Rattle.ff_io.specs.Shelf.{Files, ShelfTold}
use Rattle.ff_policy.specs.Assignment.{Assignment}
use Rattle.ff_pool.specs.Pooled.{Pooled}
use Rattle.ff_resume.specs.Resumed.{stand_of, standing_text}
use Rattle.ff_session.specs.Multi.{stands_after}
use Rattle.ff_trace.specs.Lines.{IsInputOf}
use Rattle.ff_value.specs.declared.input.Input.{Input}
use Rattle.ff_run.specs.States.{NamesState}
use Rattle.ff_run.specs.Words.{dash}

-- The first run goes from the copies that a name stands for over inputs that lines give, and the
-- second one from the file in which its saved text was kept, whatever else the shelf then has.
pub record AreInARow (p : Assignment) (before : ShelfTold) (name : List ℕ) (from : Pooled) (is : List Input) (now : ShelfTold) (file : List ℕ) (read : Pooled) : Type 0 where
  pub begins : NamesState p before name from
  pub inputs : All (IsInputOf p.order) is
  pub files : Files
  pub told : now.files ≡ Some files
  pub kept : files file ≡ Some (standing_text p (stands_after p (stand_of from) is))
  pub no_dash : file ≢ dash
  pub goes_on : NamesState p now file read
