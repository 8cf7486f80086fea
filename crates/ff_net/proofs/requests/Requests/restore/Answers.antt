use Rattle.std.proofs.Common.{◌≡◌, T, arith, sym, ap, subst, ◌∙◌}
use Rattle.std.proofs.lemmas.List.{take_all}
use Rattle.std.specs.FinMap as finmap
use Rattle.std.specs.Ordering.{nat_cmp}
use Rattle.std.specs.Cmp.Lexicographic.{slice_cmp}
use Rattle.ff_name.specs.Spelling.{IsDomain}
use Rattle.ff_machine.specs.declared.records.Dst.{Dst}
use Rattle.ff_machine.specs.Alone.{AreRequests}
use Rattle.ff_machine.specs.Net.{with_ask}
use Rattle.ff_machine.proofs.Maps.{entries-empty}
use Rattle.ff_machine.proofs.Empty.{empty_valid}
use Rattle.ff_net.proofs.AskLists.{flat, ask_valid, requests_climb, is_pending, has_room, one_ask_more}
use Rattle.ff_net.proofs.requests.Requests.restore.Goals as goal

pub returns-then-not-climb-clause-value : goal.returns-then-not-climb-clause-value
returns-then-not-climb-clause-value g c v are has =
    let yes = c.climb.ensures.1 (requests_climb v c.as_slice-recs.result.now are (has ∙ sym c.as_slice-recs.ensures)) in
    subst T (sym yes ∙ c.if-not-climb.true) tt

pub returns-then-not-valid-clause-value : goal.returns-then-not-valid-clause-value
returns-then-not-valid-clause-value g c v are has =
    let yes = c.in_ok-valid.ensures.1 (is_pending c.as_slice-recs.result.now c.loop-rec.rec-index c.rec-item.result c.loop-rec-test.true c.rec-item.is v are (has ∙ sym c.as_slice-recs.ensures)) in
    subst T (sym yes ∙ c.if-not-valid.true) tt

pub returns-then-not-room-clause-value : goal.returns-then-not-room-clause-value
returns-then-not-room-clause-value g c v are has =
    let yes = c.room.ensures ∙ has_room c.as_slice-recs.result.now c.loop-rec.rec-index c.rec-item.result c.loop-rec-test.true c.rec-item.is v c.loop-rec.requests are (has ∙ sym c.as_slice-recs.ensures) c.loop-rec.invariant.recs in
    subst T (sym yes ∙ c.if-not-room.true) tt

pub loop-rec-init : goal.loop-rec-init
loop-rec-init g c = record {
  valid = subst AreRequests (sym c.new-requests.ensures) empty_valid.requests;
  recs = ap (λ m. flat (finmap.entries m)) c.new-requests.ensures ∙ ap flat (entries-empty (slice_cmp nat_cmp));
  later = omega arith;
}

pub loop-rec-preserved : goal.loop-rec-preserved
loop-rec-preserved g c =
    let x = c.rec-item.result in
    let climb = c.climb.ensures.0 c.if-not-climb.false in
    let done : c.ask.new.self ≡ with_ask c.loop-rec.requests x.domain x.pending =
    c.in_ok-ask.ensures.done ∙ ap (λ (d : Dst). with_ask c.loop-rec.requests x.domain (record { uri = x.pending.uri; dst = d })) c.in_ok-dst.ensures in
    record {
      valid = subst AreRequests (sym done) (
          ask_valid c.loop-rec.requests x.domain x.pending c.loop-rec.invariant.valid
          (subst IsDomain c.as_bytes-known.ensures.value c.as_bytes-known.ensures.domain)
          (c.in_ok-valid.ensures.0 c.if-not-valid.false)
          (sym c.room.ensures ∙ c.if-not-room.false));
      recs = one_ask_more c.as_slice-recs.result.now c.loop-rec.rec-index x c.loop-rec-test.true c.rec-item.is c.loop-rec.requests c.ask.new.self c.loop-rec.invariant.valid climb c.loop-rec.invariant.recs done;
      later = omega (arith, c.loop-rec.invariant.later, c.in_ok-ask.ensures.copies);
    }

pub returns-clause-value : goal.returns-clause-value
returns-clause-value g c = (
  c.loop-rec.invariant.valid,
  c.loop-rec.invariant.recs ∙ take_all c.loop-rec.rec-index c.as_slice-recs.result.now (omega (arith, c.loop-rec-test.false)) ∙ c.as_slice-recs.ensures,
)
