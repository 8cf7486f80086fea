use Rattle.std.proofs.Common.{◌≡◌, ◌∙◌, ◌++◌, length, ap, sym, subst, arith}
use Rattle.std.proofs.lemmas.List.{with_items_is}
use Rattle.std.proofs.lemmas.Result.{on_ok_weaker}
use Rattle.ff_audit.specs.Owned.{own}
use Rattle.ff_audit.specs.Comparing.{CompareAll}
use Rattle.ff_audit.proofs.hearing.hear_texts.Goals as goal

pub returns-clause-heard : goal.returns-clause-heard
returns-clause-heard c =
    let long : length c.hear_all.new.levels ≡ c.args.levels.now.len = c.hear_all.ensures.count ∙ ap length c.as_mut_slice.ensures.value ∙ (omega (arith, c.args.levels.now.ok)) in
    let items = with_items_is c.args.levels.now c.hear_all.new.levels long in
    on_ok_weaker c.hear_all.result
    (λ heard ps ms all.
    subst (λ cs. CompareAll cs (λ l. ps l ++ own c.args.lattice.now c.args.plain.now l) (λ l. ms l ++ own c.args.lattice.now c.args.multi.now l)) (sym items)
    (heard ps ms (subst (λ cs. CompareAll cs ps ms) (sym c.as_mut_slice.ensures.value) all)))
    c.hear_all.ensures.heard
