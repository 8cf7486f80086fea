-- What an item weighs: ITEM for each item in it, itself counted, and the bytes of each string.
use Rattle.std.specs.Prelude.{ℕ, ◌+◌, length, sum}
use Rattle.ff_text.specs.declared.items.Sexp.{Sexp}
use Rattle.ff_text.specs.declared.items.Sexp.TheOpen.{Sexp-F}
use Rattle.ff_text.specs.declared.items.Sexp.TheFolds.{fold-Sexp}
use Rattle.ff_tree.specs.declared.weigh.TheConstants.{ITEM}

-- one layer of an item, where what its parts weigh stands in their places
abbrev pub weigh_step : Sexp-F ℕ → ℕ
weigh_step (Sexp-F.Word at text) = ITEM
weigh_step (Sexp-F.Str at value) = ITEM + length value
weigh_step (Sexp-F.List at parts) = ITEM + sum parts

abbrev pub item_weight : Sexp → ℕ
item_weight = fold-Sexp ℕ weigh_step
