use Rattle.std.proofs.Common.{◌+◌, ◌-◌, ◌++◌, drop, set, ap, ◌∙◌, arith}
use Rattle.ff_windows.proofs.Halves.{set_in_front, set_in_back}
use Rattle.ff_windows.proofs.queue.Queue.set.Goals as goal

pub returns-in-Ok-clause-done : goal.returns-in-Ok-clause-done
returns-in-Ok-clause-done g c =
    let q = c.self.inside in
    ap (λ l. drop q.first l ++ q.back) (c.in-Ok.ensures.done ∙ ap (set q.front (q.first + c.args.i)) c.of-cell.ensures)
    ∙ set_in_front q.first c.args.i q.front q.back c.args.entry (omega (arith, c.if-i-rest.true, c.len.ensures.value))
    ∙ ap (λ l. set l c.args.i c.args.entry) c.self.view_is

pub returns-in-Ok-set-clause-done : goal.returns-in-Ok-set-clause-done
returns-in-Ok-set-clause-done g c =
    let q = c.self.inside in
    ap (λ l. drop q.first q.front ++ l) (c.in-Ok-set.ensures.done ∙ ap (set q.back (c.args.i - (c.len.result - q.first))) c.of-cell.ensures ∙ ap (λ n. set q.back (c.args.i - (n - q.first)) c.args.entry) c.len.ensures.value)
    ∙ set_in_back q.first c.args.i q.front q.back c.args.entry (omega (arith, c.if-i-rest.false, c.len.ensures.value))
    ∙ ap (λ l. set l c.args.i c.args.entry) c.self.view_is
