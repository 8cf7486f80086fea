use Rattle.std.proofs.Common.{◌<◌, List, length, subst, sym, ap, ◌∙◌, arith}
use Rattle.ff_machine.specs.Nodes.{Node}
use Rattle.ff_machine.specs.Stores as stores
use Rattle.ff_stores.specs.Views.{stores_of}
use Rattle.ff_stores.proofs.Joined.{join_valid, joined_length}
use Rattle.ff_stores.proofs.stores.Stores.join.Goals as goal

pub invariant_of-self-in-Ok-touch : goal.invariant_of-self-in-Ok-touch
invariant_of-self-in-Ok-touch g c =
    let p_lives = subst (λ (t : stores.Stores). c.args.parent.0 < length t.nodes) (sym c.self.view_is) c.requires.parent_lives in
    let c_lives = subst (λ (t : stores.Stores). c.args.child.0 < length t.nodes) (sym c.self.view_is) c.requires.child_lives in
    rw (c.in-Ok.ensures.done, c.in-Ok-touch.ensures, c.page_root_of-page.ensures)
    ((join_valid (stores_of c.self.inside) c.args.parent c.args.child _ _ c.self.invariant p_lives c_lives c.in-Ok.ensures.answer).stores)

pub returns-in-Ok-touch-clause-child : goal.returns-in-Ok-touch-clause-child
returns-in-Ok-touch-clause-child g c =
    let c_lives = subst (λ (t : stores.Stores). c.args.child.0 < length t.nodes) (sym c.self.view_is) c.requires.child_lives in
    let same = ap (λ (ns : List Node). length ns) c.in-Ok.ensures.done ∙ joined_length c.self.inside.nodes c.args.parent c.args.child _ in
    omega (arith, same, c_lives)
