-- Runs of copies of the browser, one for each level: from anywhere, and the multi-executed run from
-- the start.
use Rattle.std.specs.Prelude.{◌≡◌, ℕ, ◌+◌, false, Option, List}
use Rattle.ff_confinement.specs.Copies.{multi}
use Rattle.ff_confinement.specs.Text.{text_of, text_out}
use Rattle.ff_confinement.specs.Sharing.{work}
use Rattle.ff_confinement.specs.Standings.{Standing, Offering, as_seen, run, puts_all, turns_all, work_of, standing_after}
use Rattle.ff_confinement.specs.Rested.{IsRested, IsTaking, offers_of}
use Rattle.ff_lattice.specs.Order.{size}
use Rattle.ff_value.specs.declared.input.Input.{Input}
use Rattle.ff_machine.specs.State.{State}
use Rattle.ff_machine.specs.Machine.{reactor}
use Rattle.ff_value.specs.Same.{same_input}
use Rattle.ff_pool.specs.Heads.{IsWorldOf}
use Rattle.ff_pool.specs.Pooled.{Pooled}
use Rattle.ff_policy.specs.Assignment.{Assignment}
use Rattle.ff_session.specs.Levels.{levels, machine}

-- the text of the multi-executed run over inputs
abbrev pub multi_text : Assignment → List Input → List ℕ
multi_text p is = text_out (levels p) (multi (machine p) (levels p) is)

-- and its turns: the work of shared copies, where levels that saw the same of each input so far
-- make their turns once
abbrev pub multi_turns : Assignment → List Input → ℕ
multi_turns p is = work (machine p) (levels p) same_input is

-- what each level is offered under a policy: what it sees
abbrev pub seen_by : Assignment → Offering Input
seen_by p = as_seen (levels p)

-- the text of a run over inputs from where the copies stand, and its turns, where levels that are
-- one copy make theirs once
abbrev pub run_text : Assignment → Offering Input → Standing State → List Input → List ℕ
run_text p offers from is = text_out (levels p) (run (machine p) (levels p) offers from is)

abbrev pub run_turns : Assignment → Offering Input → Standing State → List Input → ℕ
run_turns p offers from is = work_of (machine p) (levels p) offers from same_input is

-- where the copies stand after inputs of which each level was offered what it sees
abbrev pub stands_after : Assignment → Standing State → List Input → Standing State
stands_after p from is = standing_after (machine p) (levels p) (seen_by p) from same_input is

-- the text for an input after the inputs before it, and its turns
abbrev pub copies_entry : Assignment → Offering Input → Standing State → List Input → Input → List ℕ
copies_entry p offers from is i = text_of (levels p) (puts_all (machine p) (levels p) offers from is i)

abbrev pub copies_turns : Assignment → Offering Input → Standing State → List Input → Input → ℕ
copies_turns p offers from is i = turns_all (machine p) (levels p) offers from same_input is i

-- A pool with the fuel of the policy, in which every call found memory.
pub record IsPoolOf (p : Assignment) (pool : Pooled) : Type 0 where
  pub fuel : pool.fuel ≡ p.fuel
  pub unspent : pool.spent ≡ false
  pub world : IsWorldOf p.fuel pool.world

-- The copies stand where these inputs have brought them, and nothing is left to do or to take.
pub record AreCopiesAt (p : Assignment) (offers : Offering Input) (from : Standing State) (pool : Pooled) (is : List Input) : Type 0 where
  pub pool_of : IsPoolOf p pool
  pub rested : IsRested (reactor p.fuel) (p.fuel + 1) (levels p) offers from same_input pool.world is

-- The same after one input more, of which the outputs were taken at the levels below l alone.
pub record AreTakenBelow (p : Assignment) (offers : Offering Input) (from : Standing State) (pool : Pooled) (is : List Input) (i : Input) (l : ℕ) : Type 0 where
  pub pool_of : IsPoolOf p pool
  pub taking : IsTaking (reactor p.fuel) (p.fuel + 1) (levels p) offers from same_input pool.world is i l

-- These offers to all levels are those of the input i after the inputs `before`.
abbrev pub IsOffered : Assignment → Offering Input → List Input → Input → List (Option Input) → Type 0
IsOffered p all before i offers = offers ≡ offers_of all (size p.order) before i
