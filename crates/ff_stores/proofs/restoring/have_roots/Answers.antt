use Rattle.std.proofs.Common.{◌≡◌, ◌<◌, T, length, sym, ap, subst, ◌∙◌, arith}
use Rattle.ff_value.specs.declared.ids.NodeId.{NodeId}
use Rattle.ff_value.specs.declared.ids.PageId.{PageId}
use Rattle.ff_machine.specs.declared.records.Shape.TheVariants as shape
use Rattle.ff_machine.specs.Nodes.{node_at}
use Rattle.ff_records.specs.declared.records.Counts.{Counts}
use Rattle.ff_stores.proofs.restoring.have_roots.Goals as goal

pub is_root_of-requires : goal.is_root_of-requires
is_root_of-requires c =
    let less : c.loop-p.p < length c.args.windows.now.pages = omega (arith, c.loop-p-test.true, ap (λ (n : Counts). n.pages) c.counts-p-end.ensures.value) in
    omega (arith, ap (λ (n : NodeId). n.0) c.root_of.ensures, c.requires.pages_do (record { 0 = c.loop-p.p }) less)

pub returns-then-not-is_root_of : goal.returns-then-not-is_root_of
returns-then-not-is_root_of c =
    let less : c.loop-p.p < length c.args.windows.now.pages = omega (arith, c.loop-p-test.true, ap (λ (n : Counts). n.pages) c.counts-p-end.ensures.value) in (
      λ h. cc,
      λ have.
          let page : PageId = record { 0 = c.loop-p.p } in
          let root = subst (λ n. (node_at c.args.nodes.now n).shape ≡ shape.Page page) (sym c.root_of.ensures) (have page less) in
          absurd (subst T (sym (c.is_root_of.ensures.1 root) ∙ c.if-not-is_root_of.true) tt),
    )
