use Rattle.std.proofs.Common.{◌≡◌, ◌+◌, length, sum_by, take}
use Rattle.ff_machine.specs.declared.limits.TheConstants.{MOST_ENTRIES}
use Rattle.ff_windows.proofs.checking.have_few_entries.Given as goal

abbrev pub invariant-loop-page : goal.invariant-loop-page
invariant-loop-page l = l.room + sum_by (λ page. length page.queue) (take l.page-index l.pages) ≡ MOST_ENTRIES
