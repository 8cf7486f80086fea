-- A form whose count passes answers what its parts do.
use Rattle.std.proofs.Common.{◌≡◌, ℕ, true, List, map, length, refl}
use Rattle.std.proofs.lemmas.List.{length-map}
use Rattle.ff_text.specs.declared.items.Sexp.{Sexp}
use Rattle.ff_forms.specs.Grammar.{Form, reading, may_have, parts_as, form_as}

pub count_passes : {X : Type 0} (at : ℕ) (f : Form X) (parts : List Sexp) → may_have f.sorts f.more (length parts) ≡ true
    → form_as at f (map reading parts) ≡ parts_as at f.sorts f.more f.makes (map reading parts)
count_passes at f parts passes = rw (length-map parts reading) (rw passes refl)
