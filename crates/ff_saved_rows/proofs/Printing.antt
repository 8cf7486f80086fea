-- What is printed piece by piece is printed whole.
use Rattle.std.proofs.Common.{◌≡◌, ◌<◌, ◌+◌, ℕ, List, [], ◌∷◌, ◌++◌, length, map, codes, take, get_or, refl, sym, ◌∙◌, ap, append_assoc, append-nil}
use Rattle.std.proofs.lemmas.List.{take_more}
use Rattle.std.proofs.lemmas.List.Concat.{flat_map-append}
use Rattle.ff_text.specs.declared.items.Sexp.{Sexp}
use Rattle.ff_text.specs.Printed.{spelled}
use Rattle.ff_text.specs.Notation.{span}
use Rattle.ff_text.proofs.Layers.{spelled-Word, spelled-List}
use Rattle.ff_forms.specs.Canonical.{word, parens}
use Rattle.ff_lattice.specs.Order.{Order}
use Rattle.ff_printing.specs.Pieces.{Prints, after_blank, each_after_blank}
use Rattle.ff_printing.specs.declared.printer.Printer.{Printer}
use Rattle.ff_printing.proofs.Printing.{then, prints_as}
use Rattle.ff_trace.specs.Printed.{joined}
use Rattle.ff_saved_rows.specs.Rows.{row_text}
use Rattle.ff_saved_rows.specs.declared.row.Row.TheVariants.{Head, End}
use Rattle.ff_saved_rows.specs.Pieces.{after_blanks}

-- items with a blank between each two are the first of them, and the others with a blank before
-- each
joined_after : (first : Sexp) (parts : List Sexp) → joined (first ∷ parts) ≡ spelled first ++ after_blanks parts
joined_after first [] = sym (append-nil (spelled first))
joined_after first (part ∷ parts) = ap (λ bs. spelled first ++ 32 ∷ bs) (joined_after part parts)

joined_head : (head : List ℕ) (parts : List Sexp) → joined (word head ∷ parts) ≡ head ++ after_blanks parts
joined_head head parts = joined_after (word head) parts ∙ ap (λ bs. bs ++ after_blanks parts) (spelled-Word (span 0 0) head)

each_is : {X : Type 0} (item : X → Sexp) (xs : List X) → after_blanks (map item xs) ≡ each_after_blank item xs
each_is item [] = refl
each_is item (x ∷ xs) = ap (λ bs. after_blank (item x) ++ bs) (each_is item xs)

-- a row by its head and its parts
row : {p q r : Printer} (head : List ℕ) (parts : List Sexp) → Prints p q head → Prints q r (after_blanks parts) → Prints p r (joined (word head ∷ parts))
row head parts first rest = prints_as (joined (word head ∷ parts)) (joined_head head parts) (then first rest)

last : {p q : Printer} (part : Sexp) → Prints p q (after_blank part) → Prints p q (after_blanks (part ∷ []))
last part prints = prints_as (after_blanks (part ∷ [])) (append-nil (after_blank part)) prints

pub row_of_one : {p q r : Printer} (head : List ℕ) (a : Sexp) → Prints p q head → Prints q r (after_blank a) → Prints p r (joined (word head ∷ a ∷ []))
row_of_one head a first one = row head (a ∷ []) first (last a one)

pub row_of_two : {p q r s : Printer} (head : List ℕ) (a b : Sexp) → Prints p q head → Prints q r (after_blank a) → Prints r s (after_blank b) → Prints p s (joined (word head ∷ a ∷ b ∷ []))
row_of_two head a b first one two = row head (a ∷ b ∷ []) first (then one (last b two))

pub row_of_three : {p q r s t : Printer} (head : List ℕ) (a b c : Sexp) → Prints p q head → Prints q r (after_blank a) → Prints r s (after_blank b) → Prints s t (after_blank c) → Prints p t (joined (word head ∷ a ∷ b ∷ c ∷ []))
row_of_three head a b c first one two three = row head (a ∷ b ∷ c ∷ []) first (then one (then two (last c three)))

pub row_of_four : {p q r s t u : Printer} (head : List ℕ) (a b c d : Sexp) → Prints p q head → Prints q r (after_blank a) → Prints r s (after_blank b) → Prints s t (after_blank c) → Prints t u (after_blank d) → Prints p u (joined (word head ∷ a ∷ b ∷ c ∷ d ∷ []))
row_of_four head a b c d first one two three four = row head (a ∷ b ∷ c ∷ d ∷ []) first (then one (then two (then three (last d four))))

pub row_of_five : {p q r s t u v : Printer} (head : List ℕ) (a b c d e : Sexp) → Prints p q head → Prints q r (after_blank a) → Prints r s (after_blank b) → Prints s t (after_blank c) → Prints t u (after_blank d) → Prints u v (after_blank e)
    → Prints p v (joined (word head ∷ a ∷ b ∷ c ∷ d ∷ e ∷ []))
row_of_five head a b c d e first one two three four five = row head (a ∷ b ∷ c ∷ d ∷ e ∷ []) first (then one (then two (then three (then four (last e five)))))

pub row_of_each : {p q r : Printer} {X : Type 0} (head : List ℕ) (item : X → Sexp) (xs : List X) → Prints p q head → Prints q r (each_after_blank item xs) → Prints p r (joined (word head ∷ map item xs))
row_of_each head item xs first each = row head (map item xs) first (prints_as (after_blanks (map item xs)) (each_is item xs) each)

-- a list in parentheses
in_parens : (first : Sexp) (parts : List Sexp) → after_blank (parens (first ∷ parts)) ≡ 32 ∷ 40 ∷ (spelled first ++ (after_blanks parts ++ 41 ∷ []))
in_parens first parts =
    ap (λ bs. 32 ∷ bs) (spelled-List (span 0 0) (first ∷ parts))
    ∙ ap (λ bs. 32 ∷ 40 ∷ (bs ++ 41 ∷ [])) (joined_after first parts)
    ∙ ap (λ bs. 32 ∷ 40 ∷ bs) (append_assoc (spelled first) (after_blanks parts) (41 ∷ []))

listed : {p q r s : Printer} (head : List ℕ) (parts : List Sexp) → Prints p q (32 ∷ 40 ∷ head) → Prints q r (after_blanks parts) → Prints r s (41 ∷ []) → Prints p s (after_blank (parens (word head ∷ parts)))
listed head parts begun rest close =
    prints_as (after_blank (parens (word head ∷ parts)))
    (in_parens (word head) parts ∙ ap (λ bs. 32 ∷ 40 ∷ (bs ++ (after_blanks parts ++ 41 ∷ []))) (spelled-Word (span 0 0) head))
    (then begun (then rest close))

pub list_of_one : {p q r s t : Printer} (head : List ℕ) (a : Sexp) → Prints p q (32 ∷ 40 ∷ []) → Prints q r head → Prints r s (after_blank a) → Prints s t (41 ∷ []) → Prints p t (after_blank (parens (word head ∷ a ∷ [])))
list_of_one head a begun first one close = listed head (a ∷ []) (then begun first) (last a one) close

pub list_of_two : {p q r s t : Printer} (head : List ℕ) (a b : Sexp) → Prints p q (32 ∷ 40 ∷ head) → Prints q r (after_blank a) → Prints r s (after_blank b) → Prints s t (41 ∷ []) → Prints p t (after_blank (parens (word head ∷ a ∷ b ∷ [])))
list_of_two head a b begun one two close = listed head (a ∷ b ∷ []) begun (then one (last b two)) close

pub list_of_three : {p q r s t u : Printer} (head : List ℕ) (a b c : Sexp) → Prints p q (32 ∷ 40 ∷ head) → Prints q r (after_blank a) → Prints r s (after_blank b) → Prints s t (after_blank c) → Prints t u (41 ∷ []) → Prints p u (after_blank (parens (word head ∷ a ∷ b ∷ c ∷ [])))
list_of_three head a b c begun one two three close = listed head (a ∷ b ∷ c ∷ []) begun (then one (then two (last c three))) close

pub list_of_names : {p q r s t : Printer} (first : List ℕ) (rest : List (List ℕ)) → Prints p q (32 ∷ 40 ∷ []) → Prints q r first → Prints r s (each_after_blank word rest) → Prints s t (41 ∷ []) → Prints p t (after_blank (parens (word first ∷ map word rest)))
list_of_names first rest begun name names close = listed first (map word rest) (then begun name) (prints_as (after_blanks (map word rest)) (each_is word rest) names) close

pub no_names : after_blank (parens []) ≡ 32 ∷ 40 ∷ 41 ∷ []
no_names = ap (λ bs. 32 ∷ bs) (spelled-List (span 0 0) [])

-- one of a list more
pub one_more_at : {p q r : Printer} {X : Type 0} (item : X → Sexp) (xs : List X) (i : ℕ) (d : X) → i < length xs
    → Prints p q (each_after_blank item (take i xs)) → Prints q r (after_blank (item (get_or xs i d))) → Prints p r (each_after_blank item (take (i + 1) xs))
one_more_at item xs i d inside before here =
    prints_as (each_after_blank item (take (i + 1) xs))
    (ap (each_after_blank item) (take_more xs i d inside)
    ∙ flat_map-append (λ y. after_blank (item y)) (take i xs) (get_or xs i d ∷ [])
    ∙ ap (λ bs. each_after_blank item (take i xs) ++ bs) (append-nil (after_blank (item (get_or xs i d)))))
    (then before here)

-- more of them
pub and_more : {p q r : Printer} {X : Type 0} (item : X → Sexp) (xs ys : List X) → Prints p q (each_after_blank item xs) → Prints q r (each_after_blank item ys) → Prints p r (each_after_blank item (xs ++ ys))
and_more item xs ys before here = prints_as (each_after_blank item (xs ++ ys)) (flat_map-append (λ x. after_blank (item x)) xs ys) (then before here)

-- the rows that are the same in each text
pub head_line : (order : Order) → row_text order Head ≡ codes "ffox-saved 1"
head_line order = joined_head (codes "ffox-saved") (word (codes "1") ∷ []) ∙ ap (λ bs. codes "ffox-saved" ++ 32 ∷ (bs ++ [])) (spelled-Word (span 0 0) (codes "1"))

pub end_line : (order : Order) → row_text order End ≡ codes "end"
end_line order = spelled-Word (span 0 0) (codes "end")
