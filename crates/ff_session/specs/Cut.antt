-- A text of which a front was put.
use Rattle.std.specs.Prelude.{⊤, ◌<◌, ℕ, cond, List, [], ◌∷◌}
use Rattle.ff_io.specs.Cutting.{has_newline}
use Rattle.ff_lattice.specs.Order.{size}
use Rattle.ff_policy.specs.Assignment.{Assignment}
use Rattle.ff_confinement.specs.Text.{view}
use Rattle.ff_contract.specs.Lists.{Begins}
use Rattle.ff_value.specs.declared.input.Input.{Input}
use Rattle.ff_status.specs.declared.status.Status.{Status}
use Rattle.ff_status.specs.declared.status.Status.TheVariants.{WriteFault, NoMemory}
use Rattle.ff_session.specs.Levels.{levels}
use Rattle.ff_session.specs.Multi.{multi_text}

-- the bytes up to their last newline, and with it
abbrev pub whole_lines : List ℕ → List ℕ
whole_lines [] = []
whole_lines (b ∷ bs) = cond (has_newline (b ∷ bs)) (b ∷ whole_lines bs) []

-- some of the text was put
abbrev pub IsCutShort : Status → Type 0
IsCutShort WriteFault = ⊤
IsCutShort NoMemory = ⊤
IsCutShort other = ⊥

-- The whole lines that were put give each level a front of its view of the multi-executed run.
abbrev pub AreFronts : Assignment → List Input → List ℕ → Type 0
AreFronts p is put = (l : ℕ) → l < size p.order → Begins (view (levels p) l (multi_text p is)) (view (levels p) l (whole_lines put))
