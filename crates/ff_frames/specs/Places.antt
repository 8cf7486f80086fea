-- The expression that stands at a place.
use Rattle.std.specs.Prelude.{◌<◌, length, get_or}
use Rattle.ff_tree.specs.declared.tree.Lit.TheVariants as lit
use Rattle.ff_tree.specs.declared.tree.Expr.{Expr}
use Rattle.ff_tree.specs.declared.tree.Expr.TheVariants as expr
use Rattle.ff_frames.specs.declared.source.Place.{Place}
use Rattle.ff_frames.specs.declared.source.Place.TheVariants as place

-- the expression that stands there
abbrev pub at_place : Place → Expr
at_place (place.Body e) = e
at_place (place.Item es n) = get_or es n (expr.Lit lit.Null)

-- one does
abbrev pub IsPlace : Place → Type 0
IsPlace (place.Body e) = Unit {0}
IsPlace (place.Item es n) = n < length es
