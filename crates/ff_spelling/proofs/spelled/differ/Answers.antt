use Rattle.std.proofs.Common.{◌≡◌, ◌+◌, ◌-◌, ◌<◌, true, false, not, List, ℕ, length, refl, sym, subst, ◌∙◌, arith}
use Rattle.std.specs.Ordering.{nat_cmp}
use Rattle.std.specs.Cmp.Lexicographic.{slice_cmp}
use Rattle.std.specs.BTreeSet.{Updates, contains}
use Rattle.ff_spelling.proofs.Each.{has_none, none_differs, has_more, differ_more, differ_not, differ_drop}
use Rattle.ff_spelling.proofs.spelled.differ.Goals as goal

pub loop-i-init : goal.loop-i-init
loop-i-init c = record {
  within = omega arith;
  kept = has_none c.new-later.result c.args.names.now (length c.args.names.now) c.new-later.ensures.empty refl;
  differ = none_differs c.args.names.now (length c.args.names.now) refl;
}

pub loop-i-preserved : goal.loop-i-preserved
loop-i-preserved c =
    let names = c.args.names.now in
    let next : c.loop-i.i ≡ c.loop-i.i - 1 + 1 = omega (arith, c.loop-i-test.true) in
    let x = c.index-names-i.result in
    let within : c.loop-i.i - 1 < length names = omega (arith, c.loop-i.invariant.within, c.loop-i-test.true) in
    let updates = subst (λ (name : List ℕ). Updates (slice_cmp nat_cmp) c.loop-i.later c.insert.new.self name true) c.in_ok-name.ensures c.in-Ok-true.ensures.updates in
    let added = subst (λ (name : List ℕ). true ≡ not (contains (slice_cmp nat_cmp) c.loop-i.later name)) c.in_ok-name.ensures (sym c.in-Ok-true.field-0-test ∙ c.in-Ok-true.ensures.added) in
    record {
      within = omega (arith, c.loop-i.invariant.within);
      kept = has_more names (c.loop-i.i - 1) c.loop-i.i next x within c.index-names-i.is c.loop-i.later c.loop-i.invariant.kept c.insert.new.self updates;
      differ = differ_more names (c.loop-i.i - 1) c.loop-i.i next x within c.index-names-i.is c.loop-i.later c.loop-i.invariant.kept added c.loop-i.invariant.differ;
    }

pub returns-in-Ok-false : goal.returns-in-Ok-false
returns-in-Ok-false c =
    let names = c.args.names.now in
    let next : c.loop-i.i ≡ c.loop-i.i - 1 + 1 = omega (arith, c.loop-i-test.true) in
    let x = c.index-names-i.result in
    let within : c.loop-i.i - 1 < length names = omega (arith, c.loop-i.invariant.within, c.loop-i-test.true) in
    let old = subst (λ (name : List ℕ). false ≡ not (contains (slice_cmp nat_cmp) c.loop-i.later name)) c.in_ok-name.ensures (sym c.in-Ok-false.field-0-test ∙ c.in-Ok-false.ensures.added) in
    (λ h. cc, λ all. absurd (differ_not names (c.loop-i.i - 1) c.loop-i.i next x within c.index-names-i.is c.loop-i.later c.loop-i.invariant.kept old (differ_drop (c.loop-i.i - 1) names all)))
