use Rattle.std.proofs.Common.{◌≡◌, ◌<◌, ℕ, T, Some, is_some, List, ◌∷◌, [], ◌++◌, take, length, get_or, sym, ap, subst, ◌∙◌, arith}
use Rattle.std.specs.Option.{ForSome}
use Rattle.std.proofs.lemmas.List.{length-map, take_all}
use Rattle.ff_value.specs.declared.ids.ActId.{ActId}
use Rattle.ff_machine.specs.Windows.{declare_fault}
use Rattle.ff_machine.specs.Alone.{AreActs}
use Rattle.ff_machine.proofs.ActChanges.{acts_declared}
use Rattle.ff_records.specs.Records.{act_rec, act_recs}
use Rattle.ff_records.specs.declared.records.Variable.{Variable}
use Rattle.ff_records.specs.declared.records.ActRec.{ActRec}
use Rattle.ff_acts.specs.Recorded.{Rise}
use Rattle.ff_acts.proofs.Restored.{count, act_pushed, pushed_valid, parent_before, vars_rise, has_room, one_more, is_valid, may_declare_it}
use Rattle.ff_acts.proofs.restoring.add_recorded.Goals as goal

pub returns-then-number-ge-MOST_ACTS-clause-value : goal.returns-then-number-ge-MOST_ACTS-clause-value
returns-then-number-ge-MOST_ACTS-clause-value g c v are has =
    let at : c.len-number.result ≡ length (act_recs c.args.acts.now) = c.len-number.ensures.value ∙ sym (length-map c.args.acts.now act_rec) in
    absurd (omega (arith, at, c.if-number-ge-MOST_ACTS.true, has_room (act_recs c.args.acts.now) c.args.rec.now (record { 0 = c.len-number.result }) at v are has))

pub returns-then-not-is_before-clause-value : goal.returns-then-not-is_before-clause-value
returns-then-not-is_before-clause-value g c v are has =
    let at : c.len-number.result ≡ length (act_recs c.args.acts.now) = c.len-number.ensures.value ∙ sym (length-map c.args.acts.now act_rec) in
    let before = parent_before (act_recs c.args.acts.now) c.args.rec.now (record { 0 = c.len-number.result }) at v are has in
    let yes = c.is_before.ensures.1 (subst (λ (n : ℕ). ForSome c.args.rec.now.parent (λ p. p.0 < n)) (sym at) before) in
    subst T (sym yes ∙ c.if-not-is_before.true) tt

pub returns-then-not-rise-clause-value : goal.returns-then-not-rise-clause-value
returns-then-not-rise-clause-value g c v are has =
    let at : c.len-number.result ≡ length (act_recs c.args.acts.now) = c.len-number.ensures.value ∙ sym (length-map c.args.acts.now act_rec) in
    let rises = vars_rise (act_recs c.args.acts.now) c.args.rec.now (record { 0 = c.len-number.result }) at v are has in
    let yes = c.rise.ensures.1 (subst Rise (sym c.as_slice-vars.ensures) rises) in
    subst T (sym yes ∙ c.if-not-rise.true) tt

pub loop-variable-init : goal.loop-variable-init
loop-variable-init g c =
    let before = subst (λ (n : ℕ). ForSome c.args.rec.now.parent (λ p. p.0 < n)) c.len-number.ensures.value (c.is_before.ensures.0 c.if-not-is_before.false) in
    record {
      valid = subst AreActs (sym c.in_ok-push_act.ensures.done) (pushed_valid c.args.acts.now c.args.rec.now.parent c.requires.valid (omega (arith, c.len-number.ensures.value, c.if-number-ge-MOST_ACTS.false)) before);
      recs = ap act_recs c.in_ok-push_act.ensures.done ∙ act_pushed c.args.acts.now c.args.rec.now.parent;
      later = c.in_ok-push_act.ensures.copies.0;
    }

pub returns-then-not-valid-clause-value : goal.returns-then-not-valid-clause-value
returns-then-not-valid-clause-value g c v are has =
    let rs = act_recs c.args.acts.now in
    let at : c.len-number.result ≡ length rs = c.len-number.ensures.value ∙ sym (length-map c.args.acts.now act_rec) in
    let x = c.variable-item.result in
    let within : c.loop-variable.variable-index < length c.args.rec.now.vars = omega (arith, c.loop-variable-test.true, ap length c.as_slice-vars.ensures) in
    let is = subst (λ (vs : List Variable). x ≡ get_or vs c.loop-variable.variable-index x) c.as_slice-vars.ensures c.variable-item.is in
    let rises = subst Rise c.as_slice-vars.ensures (c.rise.ensures.0 c.if-not-rise.false) in
    let yes = c.in_ok-valid.ensures.1 (is_valid rs c.args.rec.now (record { 0 = c.len-number.result }) at c.loop-variable.variable-index x within is rises c.loop-variable.acts c.loop-variable.invariant.recs v are has) in
    subst T (sym yes ∙ c.if-not-valid.true) tt

pub returns-in-Err-Fault-clause-value : goal.returns-in-Err-Fault-clause-value
returns-in-Err-Fault-clause-value g c v are has =
    let rs = act_recs c.args.acts.now in
    let a : ActId = record { 0 = c.len-number.result } in
    let at : c.len-number.result ≡ length rs = c.len-number.ensures.value ∙ sym (length-map c.args.acts.now act_rec) in
    let x = c.variable-item.result in
    let within : c.loop-variable.variable-index < length c.args.rec.now.vars = omega (arith, c.loop-variable-test.true, ap length c.as_slice-vars.ensures) in
    let is = subst (λ (vs : List Variable). x ≡ get_or vs c.loop-variable.variable-index x) c.as_slice-vars.ensures c.variable-item.is in
    let rises = subst Rise c.as_slice-vars.ensures (c.rise.ensures.0 c.if-not-rise.false) in
    let may = may_declare_it rs c.args.rec.now a at c.loop-variable.variable-index x within is rises c.loop-variable.acts c.loop-variable.invariant.recs v are has in
    let refused : declare_fault c.loop-variable.acts a x.name ≡ Some c.in-Err-Fault.field-0-0 = rw c.in-Err-Fault.field-0-is at c.in-Err-Fault.ensures.answer in
    subst T (ap is_some (sym refused ∙ may)) tt

pub loop-variable-preserved : goal.loop-variable-preserved
loop-variable-preserved g c =
    let rs = act_recs c.args.acts.now in
    let a : ActId = record { 0 = c.len-number.result } in
    let at : c.len-number.result ≡ length rs = c.len-number.ensures.value ∙ sym (length-map c.args.acts.now act_rec) in
    let x = c.variable-item.result in
    let within : c.loop-variable.variable-index < length c.args.rec.now.vars = omega (arith, c.loop-variable-test.true, ap length c.as_slice-vars.ensures) in
    let is = subst (λ (vs : List Variable). x ≡ get_or vs c.loop-variable.variable-index x) c.as_slice-vars.ensures c.variable-item.is in
    let rises = subst Rise c.as_slice-vars.ensures (c.rise.ensures.0 c.if-not-rise.false) in
    let so_far : ActRec = record { parent = c.args.rec.now.parent; vars = take c.loop-variable.variable-index c.args.rec.now.vars } in
    let lives : c.len-number.result < length c.loop-variable.acts = omega (arith, at, count c.loop-variable.acts rs so_far c.loop-variable.invariant.recs) in
    let valid = c.in_ok-valid.ensures.0 c.if-not-valid.false in
    record {
      valid = subst AreActs (sym c.in-Ok.ensures.done) (acts_declared c.loop-variable.acts a x.name x.value c.loop-variable.invariant.valid lives valid.0 valid.1 c.in-Ok.ensures.answer);
      recs = ap act_recs c.in-Ok.ensures.done ∙ one_more rs c.args.rec.now a at c.loop-variable.variable-index x within is rises c.loop-variable.acts c.loop-variable.invariant.recs;
      later = omega (arith, c.loop-variable.invariant.later, c.in-Ok.ensures.copies);
    }

pub returns-clause-value : goal.returns-clause-value
returns-clause-value g c =
    let all = take_all c.loop-variable.variable-index c.args.rec.now.vars (omega (arith, c.loop-variable-test.false, ap length c.as_slice-vars.ensures)) in (
      c.loop-variable.invariant.valid,
      c.loop-variable.invariant.recs ∙ ap (λ (vs : List Variable). act_recs c.args.acts.now ++ record { parent = c.args.rec.now.parent; vars = vs } ∷ []) all,
    )
