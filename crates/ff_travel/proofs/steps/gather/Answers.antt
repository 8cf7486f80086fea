use Rattle.std.proofs.Common.{◌≡◌, ◌<◌, ◌++◌, [], length, get_or, set, ap, ap₂, ◌∙◌, arith}
use Rattle.std.proofs.lemmas.List.{get_or_read}
use Rattle.ff_pool.specs.Pooled as pooled
use Rattle.ff_travel.proofs.Gathering.{gather_step}
use Rattle.ff_travel.proofs.steps.gather.Goals as goal

pub loop-number-preserved : goal.loop-number-preserved
loop-number-preserved g c =
    let at = c.loop-number in
    let size : c.size-number-end.result ≡ pooled.size c.args.pool.now = c.size-number-end.ensures in
    let levels = at.invariant.levels in
    let count = at.invariant.count in
    let counts = c.requires.count in
    let from = c.from.ensures in
    let within : at.number < pooled.size at.pool = omega (arith, size, levels) in
    let in_puts : c.from.result < length at.puts.items = omega (arith, size, count, counts, from) in
    gather_step c.args.pool.now c.args.puts.now.items at.pool c.take.new.self at.puts.items (set at.puts.items c.from.result c.append.new.self) at.number c.in_ok-outs.outs.items
    at.invariant within c.requires.count c.in_ok-outs.ensures.done c.in_ok-outs.ensures.outputs
    (ap₂ (λ k os. set at.puts.items k os) from
    (c.in_ok-append.ensures
    ∙ ap (λ os. os ++ c.in_ok-outs.outs.items) (get_or_read at.puts.items c.from.result c.index_mut.result.now in_puts c.index_mut.ensures.value [] ∙ ap (λ k. get_or at.puts.items k []) from)))
