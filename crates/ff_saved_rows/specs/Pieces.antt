-- The parts of a row after its first. Only private contracts cite it.
use Rattle.std.specs.Prelude.{ℕ, List}
use Rattle.std.specs.List.{flat_map}
use Rattle.ff_text.specs.declared.items.Sexp.{Sexp}
use Rattle.ff_printing.specs.Pieces.{after_blank}

-- items with a blank before each
abbrev pub after_blanks : List Sexp → List ℕ
after_blanks parts = flat_map after_blank parts
