use Rattle.std.proofs.Common.{refl, sym, ap, ◌∙◌, append-nil}
use Rattle.std.proofs.lemmas.Result.{err_from_is_err_and}
use Rattle.ff_value.specs.declared.value.Val.{Val}
use Rattle.ff_value.specs.declared.value.Val.TheVariants as val
use Rattle.ff_term.specs.Rows.{local_row}
use Rattle.ff_term.proofs.Laws.{rewritten_at}
use Rattle.ff_frames.specs.Bindings.{bound}
use Rattle.ff_frames.specs.Lent.{named}
use Rattle.ff_machine.specs.Operators.{gives}
use Rattle.ff_machine.specs.Reduction.{reduction}
use Rattle.ff_step.specs.Answered.{answered}
use Rattle.ff_step.proofs.Binding.{kept, not_bound}
use Rattle.ff_step.proofs.Calling.{reduced_call}
use Rattle.ff_step.proofs.Reductions.{reduction_by}
use Rattle.ff_step.proofs.Testing.{chosen, not_chosen}
use Rattle.ff_step.proofs.Values.{finished, given_does, none_put}
use Rattle.ff_step.proofs.reducing.reduce_redex.Goals as goal

pub returns-in_ok-local-in-Local-clause-reduces : goal.returns-in_ok-local-in-Local-clause-reduces
returns-in_ok-local-in-Local-clause-reduces g c =
    rw (reduction_by c.args.stores.now c.args.page c.args.control.now (named c.redex_of.result) c.requires.unfinished c.redex_of.ensures.is, c.in-Local.is)
    (refl, c.in_ok-local-in-Local.ensures.done ∙ rewritten_at local_row c.args.control.now, refl, sym (append-nil c.args.outs.now.items))

pub returns-in_ok-choose-in-Test-clause-reduces : goal.returns-in_ok-choose-in-Test-clause-reduces
returns-in_ok-choose-in-Test-clause-reduces g c =
    rw (reduction_by c.args.stores.now c.args.page c.args.control.now (named c.redex_of.result) c.requires.unfinished c.redex_of.ensures.is, c.in-Test.is)
    (chosen c.args.stores.now c.args.control.now c.choose.new.self c.args.outs.now.items c.in-Test.v.now _ c.in_ok-yes-in-Test.ensures c.in_ok-choose-in-Test.ensures.done)

pub returns-in_ok-give_copy-in-Some-clause-reduces : goal.returns-in_ok-give_copy-in-Some-clause-reduces
returns-in_ok-give_copy-in-Some-clause-reduces g c =
    rw (reduction_by c.args.stores.now c.args.page c.args.control.now (named c.redex_of.result) c.requires.unfinished c.redex_of.ensures.is, sym c.act_of-a.ensures.value, c.in-Var.is, sym c.lookup.ensures, c.in-Some.is)
    (refl, c.in_ok-give_copy-in-Some.ensures.done, refl, sym (append-nil c.args.outs.now.items))

pub returns-in-None-clause-reduces : goal.returns-in-None-clause-reduces
returns-in-None-clause-reduces g c =
    rw (reduction_by c.args.stores.now c.args.page c.args.control.now (named c.redex_of.result) c.requires.unfinished c.redex_of.ensures.is, sym c.act_of-a.ensures.value, c.in-Var.is, sym c.lookup.ensures, c.in-None.is)
    (refl, refl, refl, sym (append-nil c.args.outs.now.items))

pub returns-in_ok-keep-in-Let-clause-reduces : goal.returns-in_ok-keep-in-Let-clause-reduces
returns-in_ok-keep-in-Let-clause-reduces g c =
    let is = rw c.in-Let.is at c.redex_of.ensures.is in
    rw (reduction_by c.args.stores.now c.args.page c.args.control.now (named c.redex_of.result) c.requires.unfinished c.redex_of.ensures.is, sym c.act_of-a.ensures.value, c.in-Let.is)
    (kept c.args.stores.now c.declare.new.self _ c.args.control.now c.keep.new.self c.args.outs.now.items _ c.in-Let.v.now c.in_ok-declare-in-Let.ensures.answer c.in_ok-declare-in-Let.ensures.done (ap bound is) c.in_ok-keep-in-Let.ensures.done)

pub returns-in_err-declare-in-Let-clause-reduces : goal.returns-in_err-declare-in-Let-clause-reduces
returns-in_err-declare-in-Let-clause-reduces g c =
    let p = err_from_is_err_and c.from_residual-in_err-declare-in-Let.result c.from_residual-in_err-declare-in-Let.ensures.1 in
    rw (p.1, p.2, reduction_by c.args.stores.now c.args.page c.args.control.now (named c.redex_of.result) c.requires.unfinished c.redex_of.ensures.is, sym c.act_of-a.ensures.value, c.in-Let.is)
    (not_bound c.args.stores.now c.declare.new.self _ c.args.control.now c.args.outs.now.items _ c.in-Let.v.now _ c.in_err-declare-in-Let.ensures.answer c.in_err-declare-in-Let.ensures.kept)

pub returns-in_ok-keep-in-Set-clause-reduces : goal.returns-in_ok-keep-in-Set-clause-reduces
returns-in_ok-keep-in-Set-clause-reduces g c =
    let is = rw c.in-Set.is at c.redex_of.ensures.is in
    rw (reduction_by c.args.stores.now c.args.page c.args.control.now (named c.redex_of.result) c.requires.unfinished c.redex_of.ensures.is, sym c.act_of-a.ensures.value, c.in-Set.is)
    (kept c.args.stores.now c.assign.new.self _ c.args.control.now c.keep-in-Set.new.self c.args.outs.now.items _ c.in-Set.v.now c.in_ok-assign-in-Set.ensures.answer c.in_ok-assign-in-Set.ensures.done (ap bound is) c.in_ok-keep-in-Set.ensures.done)

pub returns-in_err-assign-in-Set-clause-reduces : goal.returns-in_err-assign-in-Set-clause-reduces
returns-in_err-assign-in-Set-clause-reduces g c =
    let p = err_from_is_err_and c.from_residual-in_err-assign-in-Set.result c.from_residual-in_err-assign-in-Set.ensures.1 in
    rw (p.1, p.2, reduction_by c.args.stores.now c.args.page c.args.control.now (named c.redex_of.result) c.requires.unfinished c.redex_of.ensures.is, sym c.act_of-a.ensures.value, c.in-Set.is)
    (not_bound c.args.stores.now c.assign.new.self _ c.args.control.now c.args.outs.now.items _ c.in-Set.v.now _ c.in_err-assign-in-Set.ensures.answer c.in_err-assign-in-Set.ensures.kept)

pub returns-in-Prim-clause-reduces : goal.returns-in-Prim-clause-reduces
returns-in-Prim-clause-reduces g c =
    rw (reduction_by c.args.stores.now c.args.page c.args.control.now (named c.redex_of.result) c.requires.unfinished c.redex_of.ensures.is, c.in-Prim.is)
    (finished c.args.stores.now c.operate-got.new.stores c.args.control.now c.finish.new.control c.args.outs.now.items c.operate-got.new.outs.items _ c.operate-got.result (answered c.finish.result)
    c.operate-got.ensures.does c.finish.ensures)

pub returns-in-Apply-clause-reduces : goal.returns-in-Apply-clause-reduces
returns-in-Apply-clause-reduces g c =
    rw (reduction_by c.args.stores.now c.args.page c.args.control.now (named c.redex_of.result) c.requires.unfinished c.redex_of.ensures.is, sym c.depth.ensures.around, c.in-Apply.is)
    (reduced_call c.args.stores.now c.call-got.new.stores c.args.control.now c.enter.new.control c.args.outs.now.items _ c.call-got.result (answered c.enter.result)
    c.call-got.ensures.calls c.enter.ensures)

pub returns-in-Make-clause-reduces : goal.returns-in-Make-clause-reduces
returns-in-Make-clause-reduces g c =
    let made : Val = val.Code (record { params = c.in-Make.params.now; body = c.in-Make.body.now; env = c.act_of-a.result }) in
    rw (reduction_by c.args.stores.now c.args.page c.args.control.now (named c.redex_of.result) c.requires.unfinished c.redex_of.ensures.is, sym c.act_of-a.ensures.value, c.in-Make.is)
    (finished c.args.stores.now c.args.stores.now c.args.control.now c.finish-in-Make.new.control c.args.outs.now.items c.args.outs.now.items (gives c.args.stores.now made) c.make-got.result
    (answered c.finish-in-Make.result) (given_does c.args.stores.now made c.make-got.result c.args.outs.now.items (c.make-got.ensures c.args.stores.now)) c.finish-in-Make.ensures)

pub returns-in-Tree-clause-reduces : goal.returns-in-Tree-clause-reduces
returns-in-Tree-clause-reduces g c =
    rw (reduction_by c.args.stores.now c.args.page c.args.control.now (named c.redex_of.result) c.requires.unfinished c.redex_of.ensures.is, sym c.act_of-a.ensures.value, c.in-Tree.is)
    (finished c.args.stores.now c.make_tree-got.new.stores c.args.control.now c.finish-in-Tree.new.control c.args.outs.now.items c.args.outs.now.items _ c.make_tree-got.result (answered c.finish-in-Tree.result)
    (c.make_tree-got.ensures.does c.args.outs.now.items) c.finish-in-Tree.ensures)

pub returns-in-Tree-clause-copies : goal.returns-in-Tree-clause-copies
returns-in-Tree-clause-copies g c = rw (c.redex_of.ensures.read, sym c.act_of-a.ensures.value, c.in-Tree.is) c.make_tree-got.ensures.copies

pub returns-in_err-local-in-Local-clause-reduces : goal.returns-in_err-local-in-Local-clause-reduces
returns-in_err-local-in-Local-clause-reduces g c =
    let p = err_from_is_err_and c.from_residual.result c.from_residual.ensures.1 in
    rw (p.1, p.2) (none_put c.args.outs.now.items (reduction c.args.stores.now c.args.page c.args.control.now).outputs)

pub returns-in_err-choose-in-Test-clause-reduces : goal.returns-in_err-choose-in-Test-clause-reduces
returns-in_err-choose-in-Test-clause-reduces g c =
    let p = err_from_is_err_and c.from_residual-in_err-choose-in-Test.result c.from_residual-in_err-choose-in-Test.ensures.1 in
    rw (p.1, p.2) (none_put c.args.outs.now.items (reduction c.args.stores.now c.args.page c.args.control.now).outputs)

pub returns-in_err-give_copy-in-Some-clause-reduces : goal.returns-in_err-give_copy-in-Some-clause-reduces
returns-in_err-give_copy-in-Some-clause-reduces g c =
    let p = err_from_is_err_and c.from_residual-in_err-give_copy-in-Some.result c.from_residual-in_err-give_copy-in-Some.ensures.1 in
    rw (p.1, p.2) (none_put c.args.outs.now.items (reduction c.args.stores.now c.args.page c.args.control.now).outputs)

pub returns-in_err-keep-in-Let-clause-reduces : goal.returns-in_err-keep-in-Let-clause-reduces
returns-in_err-keep-in-Let-clause-reduces g c =
    let p = err_from_is_err_and c.from_residual-in_err-keep-in-Let.result c.from_residual-in_err-keep-in-Let.ensures.1 in
    rw (p.1, p.2) (none_put c.args.outs.now.items (reduction c.args.stores.now c.args.page c.args.control.now).outputs)

pub returns-in_err-keep-in-Set-clause-reduces : goal.returns-in_err-keep-in-Set-clause-reduces
returns-in_err-keep-in-Set-clause-reduces g c =
    let p = err_from_is_err_and c.from_residual-in_err-keep-in-Set.result c.from_residual-in_err-keep-in-Set.ensures.1 in
    rw (p.1, p.2) (none_put c.args.outs.now.items (reduction c.args.stores.now c.args.page c.args.control.now).outputs)

pub returns-in_err-yes-in-Test-clause-reduces : goal.returns-in_err-yes-in-Test-clause-reduces
returns-in_err-yes-in-Test-clause-reduces g c =
    let p = err_from_is_err_and c.from_residual-in_err-yes-in-Test.result c.from_residual-in_err-yes-in-Test.ensures.1 in
    rw (p.1, p.2, reduction_by c.args.stores.now c.args.page c.args.control.now (named c.redex_of.result) c.requires.unfinished c.redex_of.ensures.is, c.in-Test.is)
    (not_chosen c.args.stores.now c.args.control.now c.args.outs.now.items c.in-Test.v.now _ c.in_err-yes-in-Test.ensures)
