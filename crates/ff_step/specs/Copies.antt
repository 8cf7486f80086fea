-- How many cells a reduction copies at most.
use Rattle.std.specs.Prelude.{ℕ, ◌+◌, ◌*◌, cond, length}
use Rattle.ff_value.specs.declared.ids.ActId.{ActId}
use Rattle.ff_value.specs.declared.value.Val.{Val}
use Rattle.ff_value.specs.declared.value.Val.TheVariants as val
use Rattle.ff_term.specs.Redex.{Redex}
use Rattle.ff_term.specs.Redex as redex
use Rattle.ff_term.specs.Redexes.{read_redex}
use Rattle.ff_term.specs.Running as term
use Rattle.ff_term.specs.Running.{Evaluation, innermost}
use Rattle.ff_machine.specs.Documents.{laid}
use Rattle.ff_machine.specs.State.{Task}
use Rattle.ff_machine.specs.Stores.{Stores}
use Rattle.ff_machine.specs.Windows.{is_live}
use Rattle.ff_store_operators.specs.Copies.{most_copies}

-- for a call: for each parameter of the function, and for its activation; none where no function is
-- called
abbrev pub called : Val → ℕ
called (val.Code code) = 64 * (length code.params + 1)
called other = 0

-- for the row of a redex, which stands in the activation; rows that aren't named copy none
abbrev pub copied : Stores → ActId → Redex → ℕ
copied s a (redex.Let x v) = 64
copied s a (redex.Set x v) = 64
copied s a (redex.Apply f args) = called f
copied s a (redex.Tree doc) = 47 * (laid a doc).size
copied s a (redex.Prim op args) = most_copies s op args
copied s a other = 0

-- for one reduction of an evaluation: for the row of its redex, in its innermost activation
abbrev pub working : Stores → Evaluation → ℕ
working s t = copied s (innermost t.base t.expr) (read_redex (term.redex t.expr))

-- for one fuel of a task: for its reduction, where its page is live; a task that is dropped copies
-- none
abbrev pub worked_on : Stores → Task → ℕ
worked_on s task = cond (is_live s.windows task.page) (working s task.running) 0
