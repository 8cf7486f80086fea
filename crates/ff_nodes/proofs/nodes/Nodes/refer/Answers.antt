use Rattle.std.proofs.Common.{◌<◌, length, refl, subst, arith}
use Rattle.std.specs.List.{All}
use Rattle.std.proofs.lemmas.List.{take_all}
use Rattle.std.proofs.lemmas.List.Elements.{All-more}
use Rattle.ff_machine.specs.Nodes.{no_node}
use Rattle.ff_machine.specs.References.{NodeRefers}
use Rattle.ff_records.specs.Counted.{made}
use Rattle.ff_nodes.proofs.nodes.Nodes.refer.Goals as goal

pub loop-i-preserved : goal.loop-i-preserved
loop-i-preserved c =
    let within : c.loop-i.i < length c.args.self.now = omega (arith, c.loop-i-test.true, c.len-i-end.ensures.value) in
    All-more (NodeRefers (made c.args.counts)) c.args.self.now c.loop-i.i no_node within c.loop-i.invariant (subst (NodeRefers (made c.args.counts)) c.at.ensures.value (c.node_refers.ensures.0 c.if-not-node_refers.false))

pub returns-clause-value : goal.returns-clause-value
returns-clause-value c = (
  λ h. subst (All (NodeRefers (made c.args.counts))) (take_all c.loop-i.i c.args.self.now (omega (arith, c.loop-i-test.false, c.len-i-end.ensures.value))) c.loop-i.invariant,
  λ h. refl,
)
