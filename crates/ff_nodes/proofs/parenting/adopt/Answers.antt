use Rattle.std.proofs.Common.{◌≡◌, ◌<◌, true, Some, is_some, List, length, get_or, length-set, refl, sym, ap, ◌∙◌, arith}
use Rattle.std.proofs.lemmas.List.{get_or_default}
use Rattle.ff_value.specs.declared.ids.NodeId.{NodeId}
use Rattle.ff_machine.specs.Shapes.{page_of}
use Rattle.ff_machine.specs.Nodes.{no_node}
use Rattle.ff_records.specs.Records.{node_rec}
use Rattle.ff_records.specs.declared.records.NodeRec.{NodeRec}
use Rattle.ff_nodes.specs.Recorded.{rec_at, kids, parent_at}
use Rattle.ff_nodes.proofs.Adopting.{some_is, none_is, begun, ended, one_more, not_there, not_page, not_adopted}
use Rattle.ff_nodes.proofs.parenting.adopt.Goals as goal

pub loop-kid-init : goal.loop-kid-init
loop-kid-init c = record { so_far = begun c.args.recs.now c.args.n c.args.parents.now c.requires.so_far; count = refl }

pub returns-then-k-recs-clause-refused : goal.returns-then-k-recs-clause-refused
returns-then-k-recs-clause-refused c = λ no v valid has.
    let d : NodeId = record { 0 = 0 } in
    let x = get_or c.args.kids.now c.loop-kid.kid-index d in
    let within : c.loop-kid.kid-index < length (kids c.args.recs.now c.args.n) = omega (arith, c.loop-kid-test.true, ap length c.requires.kids) in
    let is = ap (λ (cs : List NodeId). get_or cs c.loop-kid.kid-index d) c.requires.kids in
    not_there c.args.recs.now c.args.n c.loop-kid.kid-index c.loop-kid.parents c.loop-kid.invariant.so_far x d within is v valid has c.if-k-recs.true

pub returns-then-is_page-clause-refused : goal.returns-then-is_page-clause-refused
returns-then-is_page-clause-refused c = λ no v valid has.
    let d : NodeId = record { 0 = 0 } in
    let x = get_or c.args.kids.now c.loop-kid.kid-index d in
    let within : c.loop-kid.kid-index < length (kids c.args.recs.now c.args.n) = omega (arith, c.loop-kid-test.true, ap length c.requires.kids) in
    let is = ap (λ (cs : List NodeId). get_or cs c.loop-kid.kid-index d) c.requires.kids in
    let rec = get_or_default c.args.recs.now x.0 c.index-recs-k.result (node_rec no_node) c.if-k-recs.false in
    let page : is_some (page_of (rec_at c.args.recs.now x).shape) ≡ true = ap (λ (r : NodeRec). is_some (page_of r.shape)) (sym rec) ∙ sym c.is_page.ensures ∙ c.if-is_page.true in
    not_page c.args.recs.now c.args.n c.loop-kid.kid-index c.loop-kid.parents c.loop-kid.invariant.so_far x d within is v valid has page

pub returns-then-is_some-clause-refused : goal.returns-then-is_some-clause-refused
returns-then-is_some-clause-refused c = λ no v valid has.
    let d : NodeId = record { 0 = 0 } in
    let x = get_or c.args.kids.now c.loop-kid.kid-index d in
    let within : c.loop-kid.kid-index < length (kids c.args.recs.now c.args.n) = omega (arith, c.loop-kid-test.true, ap length c.requires.kids) in
    let is = ap (λ (cs : List NodeId). get_or cs c.loop-kid.kid-index d) c.requires.kids in
    let some = some_is (parent_at c.loop-kid.parents x.0) (sym c.is_some.ensures ∙ c.if-is_some.true) in
    not_adopted c.args.recs.now c.args.n c.loop-kid.kid-index c.loop-kid.parents c.loop-kid.invariant.so_far x d within is v valid has some.0 some.1

pub loop-kid-preserved : goal.loop-kid-preserved
loop-kid-preserved c =
    let d : NodeId = record { 0 = 0 } in
    let x = get_or c.args.kids.now c.loop-kid.kid-index d in
    let within : c.loop-kid.kid-index < length (kids c.args.recs.now c.args.n) = omega (arith, c.loop-kid-test.true, ap length c.requires.kids) in
    let is = ap (λ (cs : List NodeId). get_or cs c.loop-kid.kid-index d) c.requires.kids in
    let rec = get_or_default c.args.recs.now x.0 c.index-recs-k.result (node_rec no_node) c.if-k-recs.false in
    let no_page = none_is (page_of (rec_at c.args.recs.now x).shape) (ap (λ (r : NodeRec). is_some (page_of r.shape)) (sym rec) ∙ sym c.is_page.ensures ∙ c.if-is_page.false) in
    let none = none_is (parent_at c.loop-kid.parents x.0) (sym c.is_some.ensures ∙ c.if-is_some.false) in
    record {
      so_far = one_more c.args.recs.now c.args.n c.loop-kid.kid-index c.loop-kid.parents c.loop-kid.invariant.so_far x d within is c.if-k-recs.false no_page none;
      count = length-set c.loop-kid.parents x.0 (Some c.args.n) ∙ c.loop-kid.invariant.count;
    }

pub returns-clause-adopted : goal.returns-clause-adopted
returns-clause-adopted c = λ yes. ended c.args.recs.now c.args.n c.loop-kid.kid-index c.loop-kid.parents c.loop-kid.invariant.so_far (omega (arith, c.loop-kid-test.false, ap length c.requires.kids))
