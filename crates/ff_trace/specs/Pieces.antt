-- The parts that a line is printed from, as items. Only private contracts cite it.
use Rattle.std.specs.Prelude.{ℕ, Option, Some, None, List, [], ◌∷◌, ◌++◌, map}
use Rattle.ff_lattice.specs.Order.{Order, name}
use Rattle.ff_name.specs.declared.levels.Level.{Level}
use Rattle.ff_forms.specs.Canonical.{word, string, address, resp_item, shown_item, pairs_item}
use Rattle.ff_text.specs.declared.items.Sexp.{Sexp}
use Rattle.ff_trace.specs.Printed.{number}
use Rattle.ff_trace.specs.declared.pieces.Part.{Part}
use Rattle.ff_trace.specs.declared.pieces.Part.TheVariants as part

abbrev pub part_item : Part → Sexp
part_item (part.Word text) = word text.now
part_item (part.Number n) = number n
part_item (part.Address url) = address url.now
part_item (part.Str text) = string text.now
part_item (part.Resp resp) = resp_item resp.now
part_item (part.Shown shown) = shown_item shown.now
part_item (part.Pairs pairs) = pairs_item pairs.now

abbrev pub part_items : List Part → List Sexp
part_items parts = map part_item parts

-- a tag and the blank after it
abbrev pub tag_text : Order → Option Level → List ℕ
tag_text order None = []
tag_text order (Some level) = 64 ∷ (name order level.0 ++ 32 ∷ [])
