use Rattle.std.proofs.Common.{◌≡◌, ◌+◌, length, sum_by, take}
use Rattle.ff_machine.specs.Valid.{count_started}
use Rattle.ff_stores.proofs.restoring.are_queued.Given as goal

-- what is left for the pages from here on
abbrev pub invariant-loop-p : goal.invariant-loop-p
invariant-loop-p l = record {
  entries : l.entries + sum_by (λ page. length page.queue) (take l.p l.windows.pages) ≡ count_started l.nodes;
  slots : l.slots + sum_by (λ page. page.next) (take l.p l.windows.pages) ≡ count_started l.nodes;
}
