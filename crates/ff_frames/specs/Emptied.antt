-- What a control is after want of memory.
use Rattle.ff_value.specs.declared.value.Val.TheVariants as val
use Rattle.ff_term.specs.Running.{Evaluation, Done}

-- the evaluation of `null`, which refers to no activation that was made
abbrev pub emptied : Evaluation
emptied = record { base = record { 0 = 0 }; expr = Done val.Null }
