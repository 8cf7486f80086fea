-- The lines that are drawn from a number.
use Rattle.std.specs.Prelude.{ℕ, zero, suc, ◌+◌, ◌*◌, ◌/◌, ◌%◌, ◌^◌, ◌==◌, if◌then◌else◌, List, [], ◌++◌, codes}
use Rattle.ff_number.specs.Decimal.{nat_text}

-- the number after another one, of 32 bits
abbrev pub following : ℕ → ℕ
following number = (1664525 * number + 1013904223) % 2 ^ 32

-- the number of a line; that of line 0, which there isn't, is the start
abbrev pub number_at : ℕ → ℕ → ℕ
number_at start zero = start % 2 ^ 32
number_at start (suc line) = following (number_at start line)

-- the draw of a number: its upper half
abbrev pub draw_of : ℕ → ℕ
draw_of number = number / 65536

-- text that a user types: a letter and the draw
abbrev pub typed : List ℕ → ℕ → List ℕ
typed head draw = head ++ (nat_text draw ++ codes "\"\n")

-- the line that a draw chooses
abbrev pub line_of : ℕ → List ℕ
line_of draw =
    let rest = draw % 8 in
    if rest == 0 then codes "open http://a.com/p\n"
    else if rest == 1 then codes "reply a.com 0 (doc () (box b \"\" (fn (n) (ask \"http://b.com/q\" (text n) (fn (r) null)))) (button g \"go\" (fn (n) (set-text n (cat \"s\" (text (find (page (self)) \"b\")))))))\n"
    else if rest == 2 then typed (codes "type 0 0 \"t") draw
    else if rest == 3 then typed (codes "@H type 0 0 \"s") draw
    else if rest == 4 then codes "click 0 0\n"
    else if rest == 5 then codes "reply b.com 0 (data () \"ok\")\n"
    else if rest == 6 then codes "@H click 0 0\n"
    else codes "go 0 http://a.com/p\n"

-- the first so many lines
abbrev pub workload : ℕ → ℕ → List ℕ
workload start zero = []
workload start (suc lines) = workload start lines ++ line_of (draw_of (number_at start (suc lines)))
