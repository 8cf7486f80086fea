use Rattle.std.proofs.Common.{◌≡◌, ◌+◌, ◌*◌, ◌≤◌, take}
use Rattle.ff_machine.specs.Windows.{with_act}
use Rattle.ff_acts.proofs.acts.Acts.new_act.Given as goal

-- the parameters before this one are declared
abbrev pub invariant-loop-i : goal.invariant-loop-i
invariant-loop-i g l = record {
  called : l.self ≡ with_act l.fn.self l.fn.parent (take l.i l.names) (take l.i l.args);
  later : l.fn.copies ≤ l.copies;
  copies : l.copies ≤ l.fn.copies + 15 + 64 * l.i;
}
