-- What is saved of where copies stand, and what a run owes that goes on from there.
use Rattle.std.specs.Prelude.{◌≡◌, ◌<◌, ℕ, Bool, cond, not, nat_lt, ◌&&◌, All, List, [], ◌++◌, map, filter}
use Rattle.std.specs.List.{list_all}
use Rattle.ff_lattice.specs.LevelSet.{levels_where}
use Rattle.ff_lattice.specs.Order.{size}
use Rattle.ff_machine.specs.State.{State}
use Rattle.ff_machine.specs.Machine.{reactor}
use Rattle.ff_policy.specs.Assignment.{Assignment}
use Rattle.ff_pool.specs.Pooled.{Pooled, new_pool}
use Rattle.ff_pool.specs.Restored.{IsResting}
use Rattle.ff_confinement.specs.Copies.{at_level, seen}
use Rattle.ff_contract.specs.Lists.{below, Begins}
use Rattle.ff_confinement.specs.Runs.{joined, plain_from}
use Rattle.ff_confinement.specs.Text.{only, text_of, view}
use Rattle.ff_session.specs.Levels.{levels, machine}
use Rattle.ff_confinement.specs.Rested as rested
use Rattle.ff_confinement.specs.Standings.{Standing, StandAlike}
use Rattle.ff_saved_rows.specs.Recs.{stores_recs}
use Rattle.ff_save.specs.Saved.{SavedRecs, saved_text}
use Rattle.ff_save.specs.Whole.{IsSaved}
use Rattle.ff_session.specs.Multi.{seen_by, run_text, run_turns, copies_entry, stands_after}
use Rattle.ff_session.specs.Works.{Duty}
use Rattle.ff_status.specs.declared.status.Status.TheVariants.{Done}
use Rattle.ff_trace.specs.Lines.{IsInputOf}
use Rattle.ff_value.specs.declared.input.Input.{Input}

-- Of n levels those that are one copy with a level.
abbrev pub class_at : ℕ → Standing State → ℕ → List ℕ
class_at n from l = levels_where (λ k. nat_lt k n && from.alike k l)

-- whether no level below it is one copy with a level
abbrev pub leads_at : Standing State → ℕ → Bool
leads_at from l = list_all (λ k. not (from.alike k l)) (below l)

-- the least level of each copy, in rising order
abbrev pub tops_at : ℕ → Standing State → List ℕ
tops_at n from = filter (leads_at from) (below n)

-- The classes of the copies of n levels that stand there, and the records of each one's browser.
abbrev pub standing_recs : ℕ → Standing State → SavedRecs
standing_recs n from = record { classes = map (class_at n from) (tops_at n from); browsers = map (λ l. stores_recs (from.states l).stores) (tops_at n from) }

-- The saved text of where the copies of all levels of a policy stand.
abbrev pub standing_text : Assignment → Standing State → List ℕ
standing_text p from = saved_text p (standing_recs (size p.order) from)

-- Where the copies of a pool stand.
abbrev pub stand_of : Pooled → Standing State
stand_of pool = rested.standing_of (reactor pool.fuel) pool.world

-- New copies of the levels of a policy.
abbrev pub new_copies : Assignment → Pooled
new_copies p = new_pool (size p.order) p.fuel

-- What is put once a trace was read: where it was read to its end and has no bad line, the saved
-- text of where its inputs have brought the copies.
abbrev pub closing_text : Assignment → Standing State → Bool → List Input → List ℕ
closing_text p from whole is = cond whole (standing_text p (stands_after p from is)) []

-- What a resumed run owes: each text in time, and the saved text after a good trace.
abbrev pub resume_duty : Assignment → Standing State → Duty Input
resume_duty p from = record {
  entry = copies_entry p (seen_by p) from;
  text = λ whole is. run_text p (seen_by p) from is ++ closing_text p from whole is;
  turns = run_turns p (seen_by p) from;
  good = λ is. Done;
}

-- Where inputs have brought the copies of a pool at rest, those of a pool at rest stand.
pub record EndsAtRest (p : Assignment) (from : Pooled) (is : List Input) : Type 0 where
  pub there : Pooled
  pub rests : IsResting (size p.order) p.fuel there
  pub stands : StandAlike (size p.order) (stand_of there) (stands_after p (stand_of from) is)

-- A pool was read from what a run was saved as: the run went from where the copies of a pool at
-- rest stand, over inputs that lines give.
pub record WasSaved (p : Assignment) (from : Pooled) (is : List Input) (read : Pooled) : Type 0 where
  pub rests : IsResting (size p.order) p.fuel from
  pub inputs : All (IsInputOf p.order) is
  pub saved : IsSaved p (standing_text p (stands_after p (stand_of from) is)) read

-- What the text of a resumed run tells. It begins with the text of the run. In that, each level's
-- own lines are what the plain browser puts at it, from where its copy stood, on what the level
-- sees; and inputs that look the same to a level give it the same view.
pub record IsResumed (p : Assignment) (from : Standing State) (is : List Input) (put : List ℕ) : Type 0 where
  pub begins : Begins put (run_text p (seen_by p) from is)
  pub projected : (l : ℕ) → l < size p.order
      → only (levels p) l (run_text p (seen_by p) from is) ≡ text_of (levels p) (at_level (levels p) l (joined (plain_from (machine p) (from.states l) (seen (levels p) l is))))
  pub secure : (l : ℕ) (js : List Input) → l < size p.order → All (IsInputOf p.order) js → seen (levels p) l js ≡ seen (levels p) l is
      → view (levels p) l (run_text p (seen_by p) from is) ≡ view (levels p) l (run_text p (seen_by p) from js)
