use Rattle.std.proofs.Common.{◌<◌, ◌^◌, drop, arith, ap, ◌∙◌, rules}
use Rattle.ff_io.specs.Pending.{without_front}
use Rattle.ff_io.proofs.PendingLemmas.{pieces_from-add, add_fits}
use Rattle.ff_io.proofs.source.Source.advance.Goals as goal

pub overflow_add-self-inside : goal.overflow_add-self-inside
overflow_add-self-inside c =
    let s = c.self.inside in
    let bound = rw (← c.self.view_is) at c.requires in
    let fits : s.offset < 2 ^ 64 = search rules in
    omega (arith, add_fits (drop s.at s.pieces.items) s.offset c.args.n c.self.invariant bound fits)

pub returns : goal.returns
returns c =
    let s = c.self.inside in
    let bound = rw (← c.self.view_is) at c.requires in
    let moved = rw c.deref.ensures.value at c.next_place-at.ensures.same in
    moved ∙ pieces_from-add (drop s.at s.pieces.items) s.offset c.args.n c.self.invariant bound ∙ ap (without_front c.args.n) c.self.view_is
