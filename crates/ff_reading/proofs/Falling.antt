-- A part of some items holds none that is larger.
use Rattle.std.proofs.Common.{◌≡◌, ◌≤◌, ℕ, zero, suc, List, [], ◌∷◌, take, drop, sym, subst, arith}
use denote.Param.Weighed.{most}
use Rattle.ff_text.specs.declared.items.Sexp.{Sexp}
use Rattle.ff_text.proofs.items.Sexp.TheLaws.{the_size}

most_take : (n : ℕ) (items : List Sexp) → most the_size (take n items) ≤ most the_size items
most_take zero items = omega arith
most_take (suc n) [] = omega arith
most_take (suc n) (item ∷ items) = omega (arith, most_take n items)

most_drop : (k : ℕ) (items : List Sexp) → most the_size (drop k items) ≤ most the_size items
most_drop zero items = omega arith
most_drop (suc k) [] = omega arith
most_drop (suc k) (item ∷ items) = omega (arith, most_drop k items)

-- from a place on
pub part_falls : (items : List Sexp) (k n : ℕ) → most the_size (take n (drop k items)) ≤ most the_size items
part_falls items k n = omega (arith, most_take n (drop k items), most_drop k items)

-- after the first
pub tail_falls : (items parts : List Sexp) (first : Sexp) → items ≡ first ∷ parts → most the_size parts ≤ most the_size items
tail_falls items parts first e = subst (λ (all : List Sexp). most the_size parts ≤ most the_size all) (sym e) (longer first parts) where
  longer : (item : Sexp) (rest : List Sexp) → most the_size rest ≤ most the_size (item ∷ rest)
  longer item rest = omega arith
