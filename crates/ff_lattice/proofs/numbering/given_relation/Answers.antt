use Rattle.std.proofs.Common.{◌≡◌, ℕ, ◌+◌, ◌<◌, List, [], sym, ◌∙◌, ap, subst, drop, length, arith}
use Rattle.std.proofs.lemmas.List.{get_or_read, take_at}
use Rattle.std.proofs.lemmas.Result.{err_from_is_err_and}
use Rattle.ff_lattice.specs.declared.pair.Pair.{Pair}
use Rattle.ff_lattice.specs.declared.fault.LatticeFault.{LatticeFault}
use Rattle.ff_lattice.specs.Levels.{pair_at, IsFault}
use Rattle.ff_lattice.specs.Relation.{HoldPairs, Relates}
use Rattle.ff_lattice.proofs.NameLemmas.{unknown_low, unknown_high, HoldPairs-more}
use Rattle.ff_lattice.proofs.numbering.given_relation.Goals as goal

pub returns-in_err-low-clause-fault : goal.returns-in_err-low-clause-fault
returns-in_err-low-clause-fault c =
    let in_pairs : c.loop-pair.pair-index < length c.args.below.now = omega arith in
    let pair_is : c.pair-item.result ≡ pair_at c.args.below.now c.loop-pair.pair-index = get_or_read c.args.below.now c.loop-pair.pair-index c.pair-item.result in_pairs c.pair-item.is (record { low = []; high = [] }) in
    let p = err_from_is_err_and c.from_residual-in_err-low.result c.from_residual-in_err-low.ensures.1 in
    rw (p.1, p.2) (λ no.
    let told = c.in_err-low.ensures.fault no in
    subst (λ (f : LatticeFault). IsFault c.args.levels.now.keys c.args.below.now f) (sym told.0)
    (unknown_low c.args.levels.now.keys c.args.below.now c.loop-pair.pair-index c.pair-item.result.low c.requires in_pairs c.loop-pair.invariant.known (ap (λ (p : Pair). p.low) pair_is) told.1))

pub returns-in_err-high-clause-fault : goal.returns-in_err-high-clause-fault
returns-in_err-high-clause-fault c =
    let in_pairs : c.loop-pair.pair-index < length c.args.below.now = omega arith in
    let pair_is : c.pair-item.result ≡ pair_at c.args.below.now c.loop-pair.pair-index = get_or_read c.args.below.now c.loop-pair.pair-index c.pair-item.result in_pairs c.pair-item.is (record { low = []; high = [] }) in
    let p = err_from_is_err_and c.from_residual-in_err-high.result c.from_residual-in_err-high.ensures.1 in
    rw (p.1, p.2) (λ no.
    let told = c.in_err-high.ensures.fault no in
    subst (λ (f : LatticeFault). IsFault c.args.levels.now.keys c.args.below.now f) (sym told.0)
    (unknown_high c.args.levels.now.keys c.args.below.now c.loop-pair.pair-index c.pair-item.result.high c.requires in_pairs c.loop-pair.invariant.known
    (c.in_ok-low.low.0, c.in_ok-low.ensures.found.0, c.in_ok-low.ensures.found.1 ∙ ap (λ (p : Pair). p.low) pair_is) (ap (λ (p : Pair). p.high) pair_is) told.1))

pub loop-pair-preserved : goal.loop-pair-preserved
loop-pair-preserved c =
    let in_pairs : c.loop-pair.pair-index < length c.args.below.now = omega arith in
    let pair_is : c.pair-item.result ≡ pair_at c.args.below.now c.loop-pair.pair-index = get_or_read c.args.below.now c.loop-pair.pair-index c.pair-item.result in_pairs c.pair-item.is (record { low = []; high = [] }) in
    let relates : Relates c.loop-pair.rows.items c.relate.new.rows c.in_ok-low.low.0 c.in_ok-high.high.0 =
    subst (λ (old : List (List ℕ)). Relates old c.relate.new.rows c.in_ok-low.low.0 c.in_ok-high.high.0) c.deref_mut.ensures.value c.relate.ensures in
    let long : length c.relate.new.rows ≡ c.loop-pair.rows.len = relates.rows.count ∙ sym c.loop-pair.rows.ok.0 in
    subst (λ (table : List (List ℕ)). HoldPairs (c.loop-pair.pair-index + 1) c.args.levels.now.keys c.args.below.now table)
    (sym (take_at c.relate.new.rows (drop (length c.relate.new.rows) c.loop-pair.rows.items) c.loop-pair.rows.len long))
    (HoldPairs-more c.loop-pair.pair-index c.args.levels.now.keys c.args.below.now c.loop-pair.rows.items c.relate.new.rows c.in_ok-low.low.0 c.in_ok-high.high.0 c.requires c.loop-pair.invariant
    c.in_ok-low.ensures.found.0 c.in_ok-high.ensures.found.0 (c.in_ok-low.ensures.found.1 ∙ ap (λ (p : Pair). p.low) pair_is) (c.in_ok-high.ensures.found.1 ∙ ap (λ (p : Pair). p.high) pair_is) relates)

pub returns-clause-found : goal.returns-clause-found
returns-clause-found c =
    let all : c.loop-pair.pair-index ≡ length c.args.below.now = omega arith in
    subst (λ (count : ℕ). HoldPairs count c.args.levels.now.keys c.args.below.now c.loop-pair.rows.items) all c.loop-pair.invariant
