use Rattle.std.proofs.Common.{◌≤◌, ◌-◌, length, take, IsTrue}
use Rattle.std.specs.List.{list_all}
use Rattle.ff_text.specs.Bytes.{is_plain_byte}
use Rattle.ff_text.proofs.bytes.plain_front.Given as goal

abbrev pub invariant-loop-n : goal.invariant-loop-n
invariant-loop-n l = record {
  bound : l.n ≤ length l.text;
  plain : IsTrue (list_all is_plain_byte (take l.n l.text));
}

abbrev pub decreases-loop-n : goal.decreases-loop-n
decreases-loop-n l = length l.text - l.n
