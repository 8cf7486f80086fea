-- How many pages have a queue that begins with a script, after each change.
use Rattle.std.proofs.Common.{◌≡◌, ℕ, ◌+◌, ◌<◌, ◌≤◌, Bool, true, false, List, [], ◌∷◌, length, get_or, set, is_some, ap, ◌∙◌, arith}
use Rattle.std.proofs.lemmas.List.{get_or-set_same}
use Rattle.std.proofs.lemmas.List.Sums.{sum_by-cons, sum_by-set}
use Rattle.ff_machine.specs.Windows.{Page, no_page, first_ready}
use Rattle.ff_windows.specs.Queues.{one_if, count_ready}

-- 1 where the queue begins with a script
abbrev pub counts : Page → ℕ
counts page = one_if (is_some (first_ready page.queue))

at_most_one : (b : Bool) → one_if b ≤ 1
at_most_one true = omega arith
at_most_one false = omega arith

-- no more are counted than there are pages
pub ready_few : (pages : List Page) → count_ready pages ≤ length pages
ready_few [] = omega arith
ready_few (page ∷ pages) = omega (arith, sum_by-cons counts page pages, at_most_one (is_some (first_ready page.queue)), ready_few pages)

-- so there is room to count one more
pub one_more : (pages : List Page) (ready most : ℕ) → ready ≡ count_ready pages → length pages ≤ most → most < 4294967295 → ready < 4294967295
one_more pages ready most is few small = omega (arith, is, few, small, ready_few pages)

-- the count where a page is changed
pub count_changed : (pages new : List Page) (i : ℕ) (y : Page) (ready after : ℕ) → i < length pages → new ≡ set pages i y → ready ≡ count_ready pages
    → after + counts (get_or pages i no_page) ≡ ready + counts (get_or new i no_page) → after ≡ count_ready new
count_changed pages new i y ready after l e is step =
    let there : counts (get_or new i no_page) ≡ counts y = ap (λ (ps : List Page). counts (get_or ps i no_page)) e ∙ ap counts (get_or-set_same pages i y no_page l) in
    let total : count_ready new ≡ count_ready (set pages i y) = ap count_ready e in
    omega (arith, there, total, is, step, sum_by-set counts pages i y no_page l)
