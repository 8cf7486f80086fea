-- The names of the levels of a set are read as the set.
use Rattle.std.proofs.Common.{◌≡◌, ◌<◌, ◌==◌, ◌||◌, ℕ, Bool, true, false, List, [], ◌∷◌, map, Ok, All, refl, sym, ap, ◌∙◌, arith}
use Rattle.std.proofs.lemmas.Bool.Decides.{nat_tests}
use Rattle.std.proofs.lemmas.List.Elements.{All-head, All-tail}
use Rattle.ff_name.specs.declared.levels.Level.{Level}
use Rattle.ff_text.specs.Printed.{bare}
use Rattle.ff_text.specs.declared.items.Sexp.{Sexp}
use Rattle.ff_forms.specs.Canonical.{word}
use Rattle.ff_lattice.specs.LevelSet.{has, levels_where, IsLevelSet, below}
use Rattle.ff_lattice.specs.Order.{Order, name, size, IsOrder}
use Rattle.ff_lattice.proofs.LevelSets.{levels_same, has_in_range, IsLevelSet-levels_where}
use Rattle.ff_lattice.proofs.Named.{level_found}
use Rattle.ff_trace.proofs.Bare.{word_from, Again, none, more}
use Rattle.ff_saved_rows.specs.Reading.{each_in, level_in, level_word, or_level, with_levels, levels_in}
use Rattle.ff_saved_rows.proofs.Again.{one_again, two_again}

abbrev level : ℕ → Level
level l = record { 0 = l }

level_again : (order : Order) (item : Sexp) (l : ℕ) → IsOrder order → l < size order → bare item ≡ bare (word (name order l)) → level_in order item ≡ Ok (level l)
level_again order item l valid inside same =
    let is = word_from item (name order l) same in
    ap (level_word order) is.is ∙ ap or_level (level_found order (name order l) (level l) valid inside refl)

levels_again : (order : Order) → IsOrder order → (items : List Sexp) (levels : List ℕ) → All (λ l. l < size order) levels → Again items (map (λ l. word (name order l)) levels) → each_in (level_in order) items ≡ Ok (map level levels)
levels_again order valid items [] inside none = refl
levels_again order valid items (l ∷ levels) inside (more item _ others _ same rest) =
    two_again (λ x xs. x ∷ xs) (level_in order item) (each_in (level_in order) others) (level l) (map level levels)
    (level_again order item l valid (All-head (λ k. k < size order) l levels inside) same)
    (levels_again order valid others levels (All-tail (λ k. k < size order) l levels inside) rest)

one_level_more : (a c : Bool) (m l : ℕ) → (a || (m == l)) || c ≡ a || ((l == m) || c)
one_level_more true c m l = refl
one_level_more false c m l = let same : (m == l) ≡ (l == m) = grind (arith, nat_tests) in ap (λ b. b || c) same

with_levels_is : (set levels : List ℕ) → IsLevelSet set → with_levels set (map level levels) ≡ levels_where (λ m. has set m || has levels m)
with_levels_is set [] valid = valid ∙ levels_same (has set) (λ m. has set m || false) (λ m small. or_nothing (has set m))
  where
    or_nothing : (b : Bool) → b ≡ b || false
    or_nothing true = refl
    or_nothing false = refl
with_levels_is set (l ∷ levels) valid =
    with_levels_is (levels_where (λ m. has set m || (m == l))) levels (IsLevelSet-levels_where (λ m. has set m || (m == l)))
    ∙ levels_same (λ m. has (levels_where (λ k. has set k || (k == l))) m || has levels m) (λ m. has set m || has (l ∷ levels) m)
    (λ m small. ap (λ b. b || has levels m) (has_in_range (λ k. has set k || (k == l)) m small) ∙ one_level_more (has set m) (has levels m) m l)

empty_set : IsLevelSet []
unfolding below
empty_set = refl

pub class_again : (order : Order) → IsOrder order → (items : List Sexp) (levels : List ℕ) → IsLevelSet levels → All (λ l. l < size order) levels → Again items (map (λ l. word (name order l)) levels) → levels_in order items ≡ Ok levels
class_again order valid items levels set inside again =
    one_again (with_levels []) (each_in (level_in order) items) (map level levels) (levels_again order valid items levels inside again)
    ∙ ap Ok (with_levels_is [] levels empty_set ∙ sym set)
