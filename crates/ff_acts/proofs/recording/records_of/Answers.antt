use Rattle.std.proofs.Common.{◌≡◌, ◌≤◌, ◌∷◌, ◌++◌, [], List, map, length, sym, ap, subst, ◌∙◌, arith}
use Rattle.std.proofs.lemmas.List.{length-map, take_all}
use Rattle.ff_records.specs.Records.{act_rec, act_recs, variable}
use Rattle.ff_records.specs.declared.records.ActRec.{ActRec}
use Rattle.ff_acts.specs.Held.{seen}
use Rattle.ff_acts.specs.Recorded.{OwnersLive}
use Rattle.ff_acts.proofs.Recorded.{owners_live, left_more, rec_more}
use Rattle.ff_acts.proofs.Seen.{length_seen}
use Rattle.ff_acts.proofs.recording.records_of.Goals as goal

pub sort_each-requires-clause-owners : goal.sort_each-requires-clause-owners
sort_each-requires-clause-owners c =
    let long : length c.args.acts.now ≡ length c.deref_mut.result.now = sym (ap length c.deref_mut.ensures.value ∙ c.in_ok-each.ensures.count ∙ c.len.ensures.value) in
    subst (OwnersLive c.args.vars.now) long (owners_live c.args.acts.now c.args.vars.now c.requires)

pub loop-sorted-preserved : goal.loop-sorted-preserved
loop-sorted-preserved c =
    let recs = act_recs (seen c.args.acts.now c.args.vars.now) in
    let next = left_more c.args.vars.now c.loop-sorted.a c.loop-sorted.sorted-iterator.rest.items c.next.new.self.rest.items c.in-Some.sorted c.in-Some.ensures.steps.0 c.loop-sorted.invariant.left in
    let rec : ActRec = record { parent = c.cell_at.result.now.parent; vars = c.in_ok-vars.vars } in
    record {
      count = omega (arith, c.loop-sorted.invariant.count, ap length c.in-Some.ensures.steps.0);
      left = next.1;
      recs =
          c.in_ok-push.ensures.items
          ∙ ap (λ (rs : List ActRec). rs ++ rec ∷ []) c.loop-sorted.invariant.recs
          ∙ sym (rec_more c.args.acts.now c.args.vars.now c.loop-sorted.a c.cell_at.result.now c.in_ok-vars.vars c.cell_at.ensures (c.in_ok-vars.ensures ∙ ap (map variable) next.0));
    }

pub returns : goal.returns
returns c =
    let recs = act_recs (seen c.args.acts.now c.args.vars.now) in
    let all : length recs ≤ c.loop-sorted.a = omega (arith, length-map (seen c.args.acts.now c.args.vars.now) act_rec, length_seen c.args.acts.now c.args.vars.now, c.loop-sorted.invariant.count, c.in-None.ensures.steps.0) in
    c.from_vec.ensures ∙ c.loop-sorted.invariant.recs ∙ take_all c.loop-sorted.a recs all
