use Rattle.std.proofs.Common.{not, T, sym, ap, subst, ◌∙◌}
use Rattle.std.proofs.lemmas.Bool.{eq-eqb}
use Rattle.ff_value.specs.declared.ids.NodeId.{NodeId}
use Rattle.ff_machine.specs.Nodes.{node_at}
use Rattle.ff_stores.proofs.Restored.{page_shape}
use Rattle.ff_stores.proofs.restoring.are_roots.Goals as goal

pub root_of-requires : goal.root_of-requires
root_of-requires c = c.requires.nodes_do (record { 0 = c.loop-n.n }) c.in-Some.page (page_shape (node_at c.args.nodes.now (record { 0 = c.loop-n.n })).shape c.in-Some.page (sym c.page.ensures ∙ c.in-Some.is))

pub returns-then-ne : goal.returns-then-ne
returns-then-ne c =
    let n : NodeId = record { 0 = c.loop-n.n } in (
      λ h. cc,
      λ are.
          let root = are n c.in-Some.page (page_shape (node_at c.args.nodes.now n).shape c.in-Some.page (sym c.page.ensures ∙ c.in-Some.is)) in
          let same = eq-eqb c.root_of.result.0 c.loop-n.n (ap (λ (m : NodeId). m.0) (c.root_of.ensures ∙ root)) in
          absurd (subst T (sym c.if-ne.true ∙ c.ne.ensures ∙ ap not same) tt),
    )
