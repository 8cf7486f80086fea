use Rattle.std.proofs.Common.{◌≡◌, ◌+◌, ◌*◌, ◌≤◌}
use Rattle.ff_net.proofs.Taken.{half_moved}
use Rattle.ff_net.proofs.shrinking_list.ShrinkingList.remove.Given as goal

-- the rows before this place have moved
abbrev pub invariant-loop-j : goal.invariant-loop-j
invariant-loop-j g l = record {
  rows : l.self ≡ half_moved l.fn.self l.i l.j;
  later : l.fn.copies ≤ l.copies;
  copies : l.copies + 17 * l.i ≤ l.fn.copies + 17 * l.j;
}
