-- Tasks that call functions.
use Rattle.ff_value.specs.declared.ids.ActId.{ActId}
use Rattle.ff_value.specs.declared.ids.PageId.{PageId}
use Rattle.ff_value.specs.declared.value.Code.{Code}
use Rattle.ff_value.specs.declared.value.Val.{Val}
use Rattle.ff_term.specs.Running.{call_of}
use Rattle.ff_machine.specs.State.{Task}

-- the task of a page that calls a function with a value, in an activation
abbrev pub call_task : PageId → ActId → Val → Code → Task
call_task page act arg code = record { page = page; running = record { base = act; expr = call_of code arg } }
