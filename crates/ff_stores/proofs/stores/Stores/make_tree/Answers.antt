use Rattle.std.proofs.Common.{◌≡◌, ◌≤◌, ◌<◌, ◌+◌, Bool, true, None, length, subst, sym, ap, ◌∙◌, arith}
use Rattle.std.proofs.lemmas.Bool.{le-leb}
use Rattle.ff_tree.specs.Weight.{doc_weight}
use Rattle.ff_operators.specs.Limits.{most_mass}
use Rattle.ff_machine.specs.Faults.{first_fault, limit_unless}
use Rattle.ff_machine.specs.Nodes.{room_fault}
use Rattle.ff_machine.specs.Documents.{laid}
use Rattle.ff_machine.specs.Stores as stores
use Rattle.ff_machine.specs.Reduction.{tree_fault}
use Rattle.ff_machine.proofs.Stays.{capped_alike, capped_whole}
use Rattle.ff_stores.specs.Views.{stores_of}
use Rattle.ff_stores.proofs.Changed.{made_tree_valid}
use Rattle.ff_stores.proofs.stores.Stores.make_tree.Goals as goal

pub invariant_of-self : goal.invariant_of-self
invariant_of-self g c =
    let old = stores_of c.self.inside in
    let weight = doc_weight c.args.doc.now in
    let lives = subst (λ (t : stores.Stores). c.args.a.0 < length t.windows.acts) (sym c.self.view_is) c.requires.lives in
    let fits : old.mass + c.weight_doc-weight.result ≤ most_mass = omega (arith, c.if-weight-self.false, c.self.invariant.light) in
    let may : stores.may_weigh old c.weight_doc-weight.result ≡ true = le-leb _ _ fits in
    let may_all : stores.may_weigh old weight ≡ true = sym (capped_alike old weight) ∙ ap (stores.may_weigh old) (sym c.weight_doc-weight.ensures) ∙ may in
    let same : c.weight_doc-weight.result ≡ weight = c.weight_doc-weight.ensures ∙ capped_whole old weight may_all in
    let none : tree_fault old c.args.a c.args.doc.now ≡ None =
    ap (λ (b : Bool). first_fault (limit_unless b) (room_fault old.nodes (laid c.args.a c.args.doc.now).size)) may_all ∙ c.in-Ok.ensures.answer in
    rw (c.in-Ok.ensures.done, same) (made_tree_valid old c.args.a c.args.doc.now c.self.invariant lives c.requires.spelled none)
