use Rattle.std.specs.Cmp.Lexicographic.{bytes_decides}
use Rattle.ff_shared.specs.Content.{same_items_exactly}
use Rattle.ff_tree.proofs.same.same_names.Goals as goal

pub returns : goal.returns
returns c = same_items_exactly _ bytes_decides _ _ _ c.eq.ensures
