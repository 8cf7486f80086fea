use Rattle.std.proofs.Common.{◌+◌, ◌++◌, length, drop, sym, ap, ◌∙◌, arith, ◌≡◌}
use Rattle.std.proofs.lemmas.List.{append-nil}
use Rattle.ff_windows.proofs.Halves.{all_empty, some_left, without_first, without_last}
use Rattle.ff_windows.proofs.queue.Queue.pop.Goals as goal

pub overflow_add-self : goal.overflow_add-self
overflow_add-self c = omega (arith, c.self.invariant.within, c.len-count.ensures.value, c.len-count.ensures.bound)

pub returns-then-self-count : goal.returns-then-self-count
returns-then-self-count c =
    let q = c.self.inside in
    let last : q.first + 1 ≡ length q.front = omega (arith, c.if-self-count.true, c.len-count.ensures.value) in
    ap (λ l. l ++ c.replace.new.dest) c.replace.ensures.value
    ∙ ap (λ l. q.back ++ l) (c.replace.ensures.after ∙ c.new.ensures)
    ∙ append-nil q.back ∙ without_last q.first q.front q.back last ∙ ap (drop 1) c.self.view_is

pub returns-else-self-count : goal.returns-else-self-count
returns-else-self-count c =
    let q = c.self.inside in
    without_first q.first q.front q.back (some_left q.first q.front q.back c.self.invariant (λ none. c.if-count-eq0.false (c.len-count.ensures.value ∙ none))) ∙ ap (drop 1) c.self.view_is

pub returns-then-count-eq0 : goal.returns-then-count-eq0
returns-then-count-eq0 c =
    let q = c.self.inside in
    let none = sym c.self.view_is ∙ all_empty q.first q.front q.back c.self.invariant (sym c.len-count.ensures.value ∙ c.if-count-eq0.true) in
    none ∙ sym (ap (drop 1) none)
