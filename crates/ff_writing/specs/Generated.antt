-- What `gen` does: it multi-executes inputs that are drawn from a start, and writes how many lines
-- each level has, and how many bytes.
use Rattle.std.specs.Prelude.{◌≡◌, ℕ, zero, suc, ◌+◌, ◌≤◌, Some, Ok, List, [], ◌∷◌, ◌++◌, length, flat_map, codes}
use Rattle.ff_io.specs.Port.{Told}
use Rattle.ff_confinement.specs.Runs.{joined}
use Rattle.ff_contract.specs.Lists.{below}
use Rattle.ff_number.specs.Decimal.{nat_text}
use Rattle.ff_lattice.specs.Order.{Order, size, name}
use Rattle.ff_value.specs.declared.input.Input.{Input}
use Rattle.ff_policy.specs.Assignment.{Assignment}
use Rattle.ff_gen.specs.Workload.{line_of, draw_of, number_at}
use Rattle.ff_session.specs.Giving.{Gives}
use Rattle.ff_session.specs.OwnLines.{own_lines}
use Rattle.ff_session.specs.Multi.{multi_text, multi_turns}
use Rattle.ff_status.specs.declared.status.Status.{Status}
use Rattle.ff_status.specs.declared.status.Status.TheVariants.{Done, WriteFault, NoMemory}
use Rattle.ff_writing.specs.Checked.{IsPut}

-- The line that this number draws gives this input.
pub record IsDrawn (order : Order) (number : ℕ) (i : Input) : Type 0 where
  pub line : List ℕ
  pub line_is : line_of (draw_of number) ≡ line ++ 10 ∷ []
  pub gives : Gives order line (Ok (Some i))

-- the first so many lines that are drawn from a start give these inputs
abbrev pub AreDrawn : Order → ℕ → ℕ → List Input → Type 0
AreDrawn order start zero is = is ≡ []
AreDrawn order start (suc n) is = (before : List Input) × (i : Input) × (is ≡ before ++ i ∷ []) × AreDrawn order start n before × IsDrawn order (number_at start (suc n)) i

-- the line of a level: its name, and how many lines and bytes of the text are its own
abbrev pub tally_line : Order → List ℕ → ℕ → List ℕ
tally_line order text l =
    name order l ++ (32 ∷ (nat_text (length (own_lines (name order l) text)) ++ (32 ∷ (nat_text (length (joined (own_lines (name order l) text))) ++ 10 ∷ []))))

-- the number of inputs, and the lines of the levels in order
abbrev pub summary : Order → ℕ → List ℕ → List ℕ
summary order inputs text = codes "inputs " ++ (nat_text inputs ++ (10 ∷ flat_map (tally_line order text) (below (size order))))

-- The drawn inputs were multi-executed, in exactly their turns, and of their text this holds.
pub record RanDrawn (p : Assignment) (start inputs turns_before turns_now : ℕ) (holds : List ℕ → Type 0) : Type 0 where
  pub drawn : List Input
  pub are_drawn : AreDrawn p.order start inputs drawn
  pub counted : turns_now ≡ turns_before + multi_turns p drawn
  pub held : holds (multi_text p drawn)

-- at most the turns of the drawn inputs were made
abbrev pub AtMostDrawn : Assignment → ℕ → ℕ → ℕ → ℕ → Type 0
AtMostDrawn p start inputs turns_before turns_now = (drawn : List Input) → AreDrawn p.order start inputs drawn → turns_now ≤ turns_before + multi_turns p drawn

-- What `gen` does to its port, by the status: it puts the summary, or a part of it, or nothing.
abbrev pub Generates : Assignment → ℕ → ℕ → Told → Told → ℕ → ℕ → Status → Type 0
Generates p start inputs before now turns_before turns_now Done = RanDrawn p start inputs turns_before turns_now (λ text. IsPut (summary p.order inputs text) before now Done)
Generates p start inputs before now turns_before turns_now WriteFault = RanDrawn p start inputs turns_before turns_now (λ text. IsPut (summary p.order inputs text) before now WriteFault)
Generates p start inputs before now turns_before turns_now NoMemory = (now ≡ before) × AtMostDrawn p start inputs turns_before turns_now
Generates p start inputs before now turns_before turns_now other = ⊥
