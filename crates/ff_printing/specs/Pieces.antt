-- The pieces of a list, as they are printed one after another, and what a printer did with them.
use Rattle.std.specs.Prelude.{◌≡◌, ℕ, true, false, List, [], ◌∷◌, ◌++◌}
use Rattle.std.specs.List.{flat_map}
use Rattle.ff_contract.specs.Appending.{AppendsFront}
use Rattle.ff_text.specs.declared.items.Sexp.{Sexp}
use Rattle.ff_text.specs.Printed.{spelled}
use Rattle.ff_printing.specs.declared.printer.Printer.{Printer}

-- an item and the blank before it
abbrev pub after_blank : Sexp → List ℕ
after_blank item = 32 ∷ spelled item

-- items with a blank before each
abbrev pub each_after_blank : {X : Type 0} → (X → Sexp) → List X → List ℕ
each_after_blank item xs = flat_map (λ x. after_blank (item x)) xs

-- the parts of a list after what stands first in it, and its end
abbrev pub ending : List Sexp → List ℕ
ending [] = 41 ∷ []
ending (part ∷ parts) = after_blank part ++ ending parts

-- a printer that was to append these bytes did so, or ran out of memory after a front of them; one
-- that had run out before did nothing
pub data Prints (old new : Printer) (bytes : List ℕ) : Type 0 where
  whole : old.failed ≡ false → new.failed ≡ false → new.bytes.items ≡ old.bytes.items ++ bytes → Prints old new bytes
  cut_off : old.failed ≡ false → new.failed ≡ true → AppendsFront old.bytes.items new.bytes.items bytes → Prints old new bytes
  stopped : old.failed ≡ true → new.failed ≡ true → new.bytes.items ≡ old.bytes.items → Prints old new bytes
