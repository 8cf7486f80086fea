use Rattle.std.proofs.Common.{◌≡◌, true, false, Some, T, is_some, arith, sym, ap, subst, ◌∙◌, map}
use Rattle.std.proofs.lemmas.List.{take_all}
use Rattle.std.specs.FinMap as finmap
use Rattle.ff_name.specs.Spelling.{IsDomain}
use Rattle.std.specs.Str.{IsUtf8}
use Rattle.ff_machine.specs.Alone.{IsJar}
use Rattle.ff_machine.specs.Net.{cookie_cmp, cookie_fault}
use Rattle.ff_machine.proofs.Maps.{entries-empty}
use Rattle.ff_machine.proofs.Empty.{empty_valid}
use Rattle.ff_laws.proofs.Cookies.{put_valid}
use Rattle.ff_net.specs.Cookies.{entry_of}
use Rattle.ff_net.proofs.Recorded.{jar_rises, recs_of, one_more, may_put}
use Rattle.ff_net.proofs.jar.Jar.restore.Goals as goal

pub returns-then-not-rise-clause-value : goal.returns-then-not-rise-clause-value
returns-then-not-rise-clause-value g c v are has =
    let no : c.rise.result ≡ false = cc in
    let yes : c.rise.result ≡ true = c.rise.ensures.1 (jar_rises v c.as_slice-recs.result.now (has ∙ sym c.as_slice-recs.ensures)) in
    subst T (sym yes ∙ no) tt

pub loop-rec-init : goal.loop-rec-init
loop-rec-init g c = record {
  valid = subst IsJar (sym c.new-jar.ensures) empty_valid.jar;
  entries = ap finmap.entries c.new-jar.ensures ∙ entries-empty cookie_cmp;
  later = omega arith;
}

pub returns-in-Err-Fault-clause-value : goal.returns-in-Err-Fault-clause-value
returns-in-Err-Fault-clause-value g c v are has =
    let yes : c.rise.result ≡ true = cc in
    let may = may_put c.as_slice-recs.result.now c.loop-rec.rec-index c.rec-item.result c.loop-rec-test.true c.rec-item.is (c.rise.ensures.0 yes) v are (has ∙ sym c.as_slice-recs.ensures) c.loop-rec.jar c.loop-rec.invariant.entries in
    let refused : cookie_fault c.loop-rec.jar c.rec-item.result.domain c.rec-item.result.key c.rec-item.result.value ≡ Some c.in-Err-Fault.field-0-0 = rw c.in-Err-Fault.field-0-is at c.in-Err-Fault.ensures.answer in
    subst T (ap is_some (sym refused ∙ may)) tt

pub loop-rec-preserved : goal.loop-rec-preserved
loop-rec-preserved g c =
    let yes : c.rise.result ≡ true = cc in
    record {
      valid = subst IsJar (sym c.in-Ok.ensures.done) (
          put_valid c.loop-rec.jar c.rec-item.result.domain c.rec-item.result.key c.rec-item.result.value c.loop-rec.invariant.valid
          (subst IsDomain c.as_bytes-known.ensures.value c.as_bytes-known.ensures.domain)
          (subst IsUtf8 c.as_bytes-known-in-loop-rec.ensures.value c.as_bytes-known-in-loop-rec.ensures.utf8)
          (subst IsUtf8 c.as_bytes-known-in-loop-rec-2.ensures.value c.as_bytes-known-in-loop-rec-2.ensures.utf8)
          c.in-Ok.ensures.answer);
      entries = one_more c.as_slice-recs.result.now c.loop-rec.rec-index c.rec-item.result c.loop-rec-test.true c.rec-item.is (c.rise.ensures.0 yes) c.loop-rec.jar c.put.new.self c.loop-rec.invariant.entries c.in-Ok.ensures.done;
      later = omega (arith, c.loop-rec.invariant.later, c.in-Ok.ensures.copies);
    }

pub returns-clause-value : goal.returns-clause-value
returns-clause-value g c = (
  c.loop-rec.invariant.valid,
  recs_of c.loop-rec.jar c.as_slice-recs.result.now (c.loop-rec.invariant.entries ∙ ap (map entry_of) (take_all c.loop-rec.rec-index c.as_slice-recs.result.now (omega (arith, c.loop-rec-test.false))))
      ∙ c.as_slice-recs.ensures,
)
