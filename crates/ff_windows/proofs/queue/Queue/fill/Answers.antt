use Rattle.std.proofs.Common.{◌<◌, length, set, sym, ap, ◌∙◌, arith}
use Rattle.std.proofs.lemmas.List.Folds.{list_any_at}
use Rattle.std.proofs.lemmas.List.Sums.{fails_before_first, passes_at_first}
use Rattle.std.specs.List.{position_or_len}
use Rattle.ff_machine.specs.declared.records.Entry.TheVariants.{Ready, Wait}
use Rattle.ff_machine.specs.Windows.{is_slot}
use Rattle.ff_windows.proofs.Halves.{none_filled, first_filled}
use Rattle.ff_windows.proofs.Searching.{none_any}
use Rattle.ff_windows.proofs.queue.Queue.fill.Goals as goal

pub returns-then-place-len-clause-done : goal.returns-then-place-len-clause-done
returns-then-place-len-clause-done g c =
    let p = is_slot c.args.slot in
    let queue = c.args.self.now in
    sym (none_filled c.args.slot c.args.body.now queue (none_any p queue (Wait 0) (λ k lt. fails_before_first p queue k (Wait 0) (omega (arith, lt, c.place_of-place.ensures, c.len.ensures, c.if-place-len.true)))))

pub returns-then-place-len-clause-waits : goal.returns-then-place-len-clause-waits
returns-then-place-len-clause-waits g c =
    let p = is_slot c.args.slot in
    let queue = c.args.self.now in
    sym (none_any p queue (Wait 0) (λ k lt. fails_before_first p queue k (Wait 0) (omega (arith, lt, c.place_of-place.ensures, c.len.ensures, c.if-place-len.true))))

pub returns-clause-done : goal.returns-clause-done
returns-clause-done g c =
    let p = is_slot c.args.slot in
    let queue = c.args.self.now in
    let there : position_or_len p queue < length queue = omega (arith, c.place_of-place.ensures, c.len.ensures, c.if-place-len.false) in
    c.in_ok-set.ensures.done
    ∙ ap (λ e. set queue c.place_of-place.result (Ready e)) c.in_ok-copy.ensures
    ∙ ap (λ n. set queue n (Ready c.args.body.now)) c.place_of-place.ensures
    ∙ first_filled c.args.slot c.args.body.now queue (position_or_len p queue) c.requires there (λ k lt. fails_before_first p queue k (Wait 0) lt) (passes_at_first p queue (Wait 0) there)

pub returns-clause-waits : goal.returns-clause-waits
returns-clause-waits g c =
    let p = is_slot c.args.slot in
    let queue = c.args.self.now in
    let there : position_or_len p queue < length queue = omega (arith, c.place_of-place.ensures, c.len.ensures, c.if-place-len.false) in
    sym (list_any_at p queue (position_or_len p queue) (Wait 0) there (passes_at_first p queue (Wait 0) there))
