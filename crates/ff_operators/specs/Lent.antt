-- What operands are that are lent.
use Rattle.std.specs.Prelude.{ℕ, ℤ, List, Option, Some, None}
use Rattle.std.specs.Borrow.{Bor}

-- two texts
abbrev pub texts_lent : Option (Bor (List ℕ) × Bor (List ℕ)) → Option (List ℕ × List ℕ)
texts_lent None = None
texts_lent (Some o) = Some (o.0.now, o.1.now)

-- a text and a number
abbrev pub text_num_lent : Option (Bor (List ℕ) × ℤ) → Option (List ℕ × ℤ)
text_num_lent None = None
text_num_lent (Some o) = Some (o.0.now, o.1)

-- a text and two numbers
abbrev pub text_nums_lent : Option (Bor (List ℕ) × ℤ × ℤ) → Option (List ℕ × ℤ × ℤ)
text_nums_lent None = None
text_nums_lent (Some o) = Some (o.0.now, o.1, o.2)
