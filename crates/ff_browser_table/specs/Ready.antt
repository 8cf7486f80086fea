-- Which evaluations may go on.
use Rattle.std.specs.Prelude.{◌<◌, length}
use Rattle.ff_term.specs.Running.{Evaluation}
use Rattle.ff_machine.specs.Stores.{Stores}
use Rattle.ff_machine.specs.References.{made}
use Rattle.ff_machine.specs.Valid.{IsRunning}

-- an evaluation that is valid over stores, in an activation that was made
pub record IsReady (s : Stores) (t : Evaluation) : Type 0 where
  pub act : t.base.0 < length s.windows.acts
  pub running : IsRunning (made s) t.expr
