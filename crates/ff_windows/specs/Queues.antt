-- Queues: the two lists of one, how many entries all have together, and how many begin with a
-- script.
use Rattle.std.specs.Prelude.{◌≡◌, ◌≤◌, ℕ, Bool, cond, List, length, sum_by, is_some}
use Rattle.ff_machine.specs.declared.records.Entry.{Entry}
use Rattle.ff_machine.specs.Windows.{Windows, Page, first_ready}

-- the first list is read from a place on; where nothing is left of it, both are empty
pub record AreHalves (first : ℕ) (front back : List Entry) : Type 0 where
  pub within : first ≤ length front
  pub none_left : first ≡ length front → (length front ≡ 0) × (length back ≡ 0)

-- how many entries the queues of all pages have together
abbrev pub count_entries : Windows → ℕ
count_entries w = sum_by (λ page. length page.queue) w.pages

-- 1 for what is so, and else 0
abbrev pub one_if : Bool → ℕ
one_if b = cond b 1 0

-- how many pages have a queue that begins with a script that may run
abbrev pub count_ready : List Page → ℕ
count_ready pages = sum_by (λ page. one_if (is_some (first_ready page.queue))) pages
