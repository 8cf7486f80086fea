-- The rows of a pool's classes, level by level. Only private contracts cite it.
use Rattle.std.specs.Prelude.{ℕ, cond, List, [], ◌∷◌}
use Rattle.ff_pool.specs.Classes.{class_of, leads}
use Rattle.ff_pool.specs.Pooled.{Pooled, copy_of}
use Rattle.ff_saved_rows.specs.Recs.{stores_recs}
use Rattle.ff_saved_rows.specs.Rows.{stores_rows}
use Rattle.ff_saved_rows.specs.declared.row.Row.{Row}
use Rattle.ff_saved_rows.specs.declared.row.Row.TheVariants.{Class}

-- the rows of a level's class and its browser, where it is the least of the class, and else none
abbrev pub level_rows : Pooled → ℕ → List Row
level_rows p l = cond (leads p.world.leaders l) (Class (class_of p.world.leaders l) ∷ stores_rows (stores_recs (copy_of p l).state.stores)) []
