use Rattle.std.proofs.Common.{◌≡◌, ◌+◌, ◌-◌, Some, length, take, set, sym, ap, ◌∙◌, arith}
use Rattle.std.specs.List.{slice_get}
use Rattle.std.proofs.lemmas.List.{take-take, length-take}
use Rattle.ff_net.proofs.Taken.{length_moved, moved_more, moved_all}
use Rattle.ff_net.proofs.shrinking_list.ShrinkingList.remove.Goals as goal

pub loop-j-preserved : goal.loop-j-preserved
loop-j-preserved g c = record {
  rows =
      c.in_ok-set.ensures.done
      ∙ ap (λ l. set l c.loop-j.j c.in_ok-moved.moved) c.loop-j.invariant.rows
      ∙ moved_more c.args.self.now c.args.i c.requires c.loop-j.j (omega arith) (omega arith) c.in_ok-moved.moved
      (ap (λ l. slice_get l (c.loop-j.j + 1)) (sym c.loop-j.invariant.rows) ∙ c.at.ensures ∙ ap Some (sym c.in_ok-moved.ensures.value));
  later = omega (arith, c.loop-j.invariant.later, c.in_ok-moved.ensures.count, c.in_ok-set.ensures.copies);
  copies = omega (arith, c.loop-j.invariant.copies, c.in_ok-moved.ensures.count, c.in_ok-set.ensures.copies);
}

pub invariant_of-self : goal.invariant_of-self
invariant_of-self g c =
    let moved = length_moved c.args.self.now c.args.i c.requires c.loop-j.j (omega arith) (omega arith) in
    omega (arith, length-take c.self.inside.len c.self.inside.cells, ap length (c.self.view_is ∙ c.loop-j.invariant.rows), moved)

pub returns-clause-done : goal.returns-clause-done
returns-clause-done g c =
    let moved = length_moved c.args.self.now c.args.i c.requires c.loop-j.j (omega arith) (omega arith) in
    let last : c.len-last.result - 1 ≡ c.loop-j.j = omega arith in
    ap (λ n. take n c.self.inside.cells) last
    ∙ sym (take-take c.loop-j.j c.self.inside.len c.self.inside.cells (omega (arith, length-take c.self.inside.len c.self.inside.cells, ap length (c.self.view_is ∙ c.loop-j.invariant.rows), moved)))
    ∙ ap (take c.loop-j.j) (c.self.view_is ∙ c.loop-j.invariant.rows)
    ∙ moved_all c.args.self.now c.args.i c.requires c.loop-j.j (omega arith) (omega arith)
