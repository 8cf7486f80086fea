use Rattle.std.proofs.Common.{refl, sym, ap, subst, ◌∙◌, List, arith}
use Rattle.std.proofs.lemmas.Result.{err_from_is_err_and}
use Rattle.ff_contract.specs.Appending.{AppendsFront}
use Rattle.ff_value.specs.declared.ids.NodeId.{NodeId}
use Rattle.ff_machine.specs.Nodes.{scripts}
use Rattle.ff_machine.specs.Stores as stores
use Rattle.ff_machine.specs.Valid.{IsStores}
use Rattle.ff_stores.proofs.Started.{IsStarting, started_none, started_more, started_refused}
use Rattle.ff_stores.proofs.stores.Stores.start.Goals as goal

pub loop-script-init : goal.loop-script-init
loop-script-init g c =
    let first = c.args.self.now in
    let is = c.as_slice-script-items.ensures ∙ c.in_ok-scripts.ensures ∙ ap (λ (t : stores.Stores). scripts t.nodes c.args.n) c.self.view_is in
    let valid = subst IsStores c.self.view_is c.self.invariant in
    (subst (λ (ns : List NodeId). IsStarting c.args.page ns first c.args.outs.now.items 0 first c.args.outs.now.items) (sym is) (started_none c.args.page c.args.n first c.args.outs.now.items valid c.requires.page), omega arith, omega arith)

pub loop-script-preserved : goal.loop-script-preserved
loop-script-preserved g c =
    let step = c.in_ok-start_one.ensures.step in (
      started_more c.args.page c.as_slice-script-items.result.now c.args.self.now c.args.outs.now.items c.loop-script.script-index c.loop-script.self c.loop-script.outs.items _ _ c.loop-script.invariant.0 c.loop-script-test.true refl c.start_one.new.self c.start_one.new.outs.items step.0 step.1,
      omega (arith, c.loop-script.invariant.1, c.in_ok-start_one.ensures.copies),
      omega (arith, c.loop-script.invariant.2, c.in_ok-start_one.ensures.copies),
    )

pub returns-in_err-start_one-clause-step : goal.returns-in_err-start_one-clause-step
returns-in_err-start_one-clause-step g c =
    let p = err_from_is_err_and c.from_residual-in_err-start_one.result c.from_residual-in_err-start_one.ensures.1 in
    let is = c.as_slice-script-items.ensures ∙ c.in_ok-scripts.ensures ∙ ap (λ (t : stores.Stores). scripts t.nodes c.args.n) c.self.view_is in
    rw p.1 (subst (λ (ns : List NodeId). AppendsFront c.args.outs.now.items c.start_one.new.outs.items (stores.start_each c.args.page ns c.args.self.now).outputs) is
    (started_refused c.args.page c.as_slice-script-items.result.now c.args.self.now c.args.outs.now.items c.loop-script.script-index c.loop-script.self c.loop-script.outs.items _ _ c.loop-script.invariant.0 c.loop-script-test.true refl c.start_one.new.outs.items c.in_err-start_one.ensures.step))
