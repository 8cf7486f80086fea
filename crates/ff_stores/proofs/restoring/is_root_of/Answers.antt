use Rattle.std.proofs.Common.{◌≡◌, ◌↔◌, IsTrue, sym, subst}
use Rattle.ff_machine.specs.declared.records.Shape.TheVariants as shape
use Rattle.ff_machine.specs.Nodes.{node_at}
use Rattle.ff_stores.proofs.Restored.{same_page, no_page}
use Rattle.ff_stores.proofs.restoring.is_root_of.Goals as goal

pub returns-in-Some : goal.returns-in-Some
returns-in-Some c =
    let s = (node_at c.args.nodes.now c.args.root).shape in
    subst (λ b. IsTrue b ↔ (s ≡ shape.Page c.args.page)) (sym c.eq.ensures) (same_page s c.page.result c.in-Some.found c.args.page c.page.ensures c.in-Some.is)

pub returns-in-None : goal.returns-in-None
returns-in-None c = (λ h. cc, λ e. absurd (no_page (node_at c.args.nodes.now c.args.root).shape c.page.result c.args.page c.page.ensures c.in-None.is e))
