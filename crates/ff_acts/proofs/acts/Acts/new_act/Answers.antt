use Rattle.std.proofs.Common.{◌≡◌, Some, refl, length, take, sym, ap, subst, ◌∙◌, arith}
use Rattle.std.proofs.lemmas.Option.{slice_get_read}
use Rattle.std.proofs.lemmas.List.{length_push}
use Rattle.std.specs.FinMap as finmap
use Rattle.std.specs.List.{zip}
use Rattle.ff_tree.specs.Spelled.{AreParams}
use Rattle.ff_value.specs.declared.ids.ActId.{ActId}
use Rattle.ff_machine.specs.Windows as windows
use Rattle.ff_acts.proofs.Called.{called_more, full_of_acts, full_of_vars, has_room}
use Rattle.ff_acts.proofs.Seen.{length_seen}
use Rattle.ff_acts.proofs.acts.Acts.new_act.Goals as goal
use Rattle.ff_acts.proofs.acts.Acts.new_act.Goals.{then-number-ge-MOST_ACTS-via-then-number-ge-MOST_ACTS, then-number-ge-MOST_ACTS-via-else-number-ge-MOST_ACTS+then-names-room}

pub returns-then-number-ge-MOST_ACTS-clause-answer : goal.returns-then-number-ge-MOST_ACTS-clause-answer
returns-then-number-ge-MOST_ACTS-clause-answer g c =
    let long : c.len-number.result ≡ length c.args.self.now = c.len-number.ensures.value ∙ sym (length_seen c.self.inside.acts c.self.inside.vars) ∙ ap length c.self.view_is in
    let count : windows.count_vars c.args.self.now ≡ length c.self.inside.vars = ap windows.count_vars (sym c.self.view_is) ∙ c.self.invariant.counted in
    let params : length c.as_slice-names.result.now ≡ length c.args.params.now = ap length c.as_slice-names.ensures in
    elim c.then-number-ge-MOST_ACTS.branch [
      | then-number-ge-MOST_ACTS-via-then-number-ge-MOST_ACTS w ↦ full_of_acts c.args.self.now (length c.args.params.now) (omega (arith, w.if-number-ge-MOST_ACTS.true, long))
      | then-number-ge-MOST_ACTS-via-else-number-ge-MOST_ACTS+then-names-room w ↦ full_of_vars c.args.self.now (length c.args.params.now) (omega (arith, w.if-names-room.true, count, params, c.len.ensures.value))
    ]

pub push_act-requires-clause-room : goal.push_act-requires-clause-room
push_act-requires-clause-room g c =
    let long : c.len-number.result ≡ length c.args.self.now = c.len-number.ensures.value ∙ sym (length_seen c.self.inside.acts c.self.inside.vars) ∙ ap length c.self.view_is in
    omega (arith, long, c.if-number-ge-MOST_ACTS.false)

pub declare-requires-clause-lives : goal.declare-requires-clause-lives
declare-requires-clause-lives g c =
    let long : c.len-number.result ≡ length c.args.self.now = c.len-number.ensures.value ∙ sym (length_seen c.self.inside.acts c.self.inside.vars) ∙ ap length c.self.view_is in
    omega (arith, long, ap length c.loop-i.invariant.called, length_push c.args.self.now (record { parent = Some c.args.parent; vars = finmap.from_entries (zip (take c.loop-i.i c.as_slice-names.result.now) (take c.loop-i.i c.args.args.now)) }))

pub loop-i-preserved : goal.loop-i-preserved
loop-i-preserved g c =
    let long : c.len-number.result ≡ length c.args.self.now = c.len-number.ensures.value ∙ sym (length_seen c.self.inside.acts c.self.inside.vars) ∙ ap length c.self.view_is in
    let names = c.as_slice-names.result.now in
    let values = c.args.args.now in
    let same : length names ≡ length values = ap length c.as_slice-names.ensures ∙ c.requires.lengths in
    let number : ActId = record { 0 = c.len-number.result } in
    let name_at = slice_get_read names (length names) c.loop-i.i c.index-names-i.result refl (omega arith) c.index-names-i.is in
    let value_at = slice_get_read values (length values) c.loop-i.i c.index-args-i.result refl (omega arith) c.index-args-i.is in
    record {
      called =
          c.in-Ok.ensures.done
          ∙ ap (λ acts. windows.set_var acts number c.index-names-i.result c.index-args-i.result) c.loop-i.invariant.called
          ∙ called_more c.args.self.now c.args.parent number names values c.loop-i.i c.index-names-i.result c.index-args-i.result (subst AreParams (sym c.as_slice-names.ensures) c.requires.names) (sym long) name_at value_at;
      later = omega (arith, c.loop-i.invariant.later, c.in-Ok.ensures.copies);
      copies = omega (arith, c.loop-i.invariant.copies, c.in-Ok.ensures.copies);
    }

pub returns-clause-number : goal.returns-clause-number
returns-clause-number g c = c.len-number.ensures.value ∙ sym (length_seen c.self.inside.acts c.self.inside.vars) ∙ ap length c.self.view_is

pub returns-clause-answer : goal.returns-clause-answer
returns-clause-answer g c =
    let long : c.len-number.result ≡ length c.args.self.now = c.len-number.ensures.value ∙ sym (length_seen c.self.inside.acts c.self.inside.vars) ∙ ap length c.self.view_is in
    let count : windows.count_vars c.args.self.now ≡ length c.self.inside.vars = ap windows.count_vars (sym c.self.view_is) ∙ c.self.invariant.counted in
    let params : length c.as_slice-names.result.now ≡ length c.args.params.now = ap length c.as_slice-names.ensures in
    has_room c.args.self.now (length c.args.params.now) (omega (arith, long, c.if-number-ge-MOST_ACTS.false)) (omega (arith, c.if-names-room.false, count, params, c.len.ensures.value, c.self.invariant.few_vars))
