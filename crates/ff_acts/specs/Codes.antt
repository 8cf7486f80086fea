-- The code of a list of activations, by which proofs tell two of them apart.
use Rattle.std.specs.Prelude.{List, refl}
use Rattle.std.specs.Coded.{Coded, code_by}
use Rattle.ff_machine.specs.Codes.{coded_windows}
use Rattle.ff_machine.specs.Windows.{Windows, Activation, empty, with_acts}

-- they are stored as the windows that have nothing else
abbrev pub coded_acts : Coded (List Activation)
coded_acts = code_by Windows coded_windows (with_acts empty) (λ w. w.acts) (λ _. refl)
