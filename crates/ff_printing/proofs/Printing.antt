-- What is printed piece by piece is printed whole.
use Rattle.std.proofs.Common.{◌≡◌, ◌<◌, ◌+◌, ℕ, Bool, true, false, Result, Ok, Err, List, [], ◌∷◌, ◌++◌, length, map, take, get_or, refl, sym, ◌∙◌, ap, subst, append_assoc, append-nil}
use Rattle.std.specs.Prelude.{is_err, OnOk, OnErr}
use Rattle.std.specs.List.{join_with_byte}
use Rattle.std.proofs.lemmas.List.{take_more}
use Rattle.std.proofs.lemmas.List.Concat.{flat_map-append}
use Rattle.ff_contract.specs.Appending.{Appends, AppendsFront}
use Rattle.ff_contract.proofs.Sequence.{front_first, front_second, front_none}
use Rattle.ff_text.specs.declared.items.Sexp.{Sexp}
use Rattle.ff_text.specs.Printed.{spelled}
use Rattle.ff_text.specs.Notation.{span}
use Rattle.ff_text.proofs.Layers.{spelled-Word, spelled-List}
use Rattle.ff_forms.specs.Canonical.{word, parens}
use Rattle.ff_printing.specs.Pieces.{Prints, whole, cut_off, stopped, after_blank, each_after_blank, ending}
use Rattle.ff_printing.specs.declared.printer.Printer.{Printer}

-- one piece after another
pub then : {p q r : Printer} {first more : List ℕ} → Prints p q first → Prints q r more → Prints p r (first ++ more)
then {p} {q} {r} {first} {more} (whole a b e) (whole c d f) = whole a d (f ∙ ap (λ bs. bs ++ more) e ∙ append_assoc p.bytes.items first more)
then {p} {q} {r} {first} {more} (whole a b e) (cut_off c d f) = cut_off a d (front_second p.bytes.items q.bytes.items r.bytes.items first more (first ++ more) refl e f)
then {p} {q} {r} {first} {more} (whole a b e) (stopped c d f) = cc
then {p} {q} {r} {first} {more} (cut_off a b e) (whole c d f) = cc
then {p} {q} {r} {first} {more} (cut_off a b e) (cut_off c d f) = cc
then {p} {q} {r} {first} {more} (cut_off a b e) (stopped c d f) = cut_off a d (subst (λ bs. AppendsFront p.bytes.items bs (first ++ more)) (sym f) (front_first p.bytes.items q.bytes.items first more (first ++ more) refl e))
then {p} {q} {r} {first} {more} (stopped a b e) (whole c d f) = cc
then {p} {q} {r} {first} {more} (stopped a b e) (cut_off c d f) = cc
then {p} {q} {r} {first} {more} (stopped a b e) (stopped c d f) = stopped a d (f ∙ e)

-- nothing was to be appended
pub nothing : (p : Printer) → Prints p p []
nothing p = from p.failed refl
  where
    from : (b : Bool) → p.failed ≡ b → Prints p p []
    from true e = stopped e e refl
    from false e = whole e e (sym (append-nil p.bytes.items))

-- want of memory that something else has found
pub failed_before : (p q : Printer) → q.failed ≡ true → q.bytes.items ≡ p.bytes.items → (bytes : List ℕ) → Prints p q bytes
failed_before p q failed same bytes = from p.failed refl
  where
    from : (b : Bool) → p.failed ≡ b → Prints p q bytes
    from true e = stopped e failed same
    from false e = cut_off e failed (front_none p.bytes.items q.bytes.items bytes same)

pub prints_as : {p q : Printer} {bytes : List ℕ} (others : List ℕ) → others ≡ bytes → Prints p q bytes → Prints p q others
prints_as {p} {q} others e prints = subst (λ bs. Prints p q bs) (sym e) prints

-- a call that appends, and whether it failed
pub noted : {X E : Type 0} (p q : Printer) (bytes : List ℕ) (done : Result X E) → p.failed ≡ false → q.failed ≡ is_err done → Appends done p.bytes.items q.bytes.items bytes → Prints p q bytes
noted p q bytes (Ok it) before after appends = whole before after appends
noted p q bytes (Err refused) before after appends = cut_off before after appends

-- what a printer did with what it went on after, once it has ended
pub appended : {X E : Type 0} (p q : Printer) (answer : Result X E) (old new bytes : List ℕ) → p.failed ≡ false → p.bytes.items ≡ old → new ≡ q.bytes.items → OnOk answer (q.failed ≡ false) → OnErr answer (q.failed ≡ true)
    → Prints p q bytes → Appends answer old new bytes
appended p q (Ok it) old new bytes before was is ok err (whole a b e) = is ∙ e ∙ ap (λ bs. bs ++ bytes) was
appended p q (Ok it) old new bytes before was is ok err (cut_off a b e) = cc
appended p q (Ok it) old new bytes before was is ok err (stopped a b e) = cc
appended p q (Err refused) old new bytes before was is ok err (whole a b e) = cc
appended p q (Err refused) old new bytes before was is ok err (cut_off a b e) = subst (λ bs. AppendsFront bs new bytes) was (subst (λ bs. AppendsFront p.bytes.items bs bytes) (sym is) e)
appended p q (Err refused) old new bytes before was is ok err (stopped a b e) = cc

joined_ending : (first : List ℕ) (parts : List Sexp) → join_with_byte 32 (first ∷ map spelled parts) ++ 41 ∷ [] ≡ first ++ ending parts
joined_ending first [] = refl
joined_ending first (part ∷ parts) =
    append_assoc first (32 ∷ join_with_byte 32 (spelled part ∷ map spelled parts)) (41 ∷ [])
    ∙ ap (λ bs. first ++ 32 ∷ bs) (joined_ending (spelled part) parts)

pub spelled-parens : (first : Sexp) (parts : List Sexp) → spelled (parens (first ∷ parts)) ≡ 40 ∷ (spelled first ++ ending parts)
spelled-parens first parts = spelled-List (span 0 0) (first ∷ parts) ∙ ap (λ bs. 40 ∷ bs) (joined_ending (spelled first) parts)

pub spelled-none : spelled (parens []) ≡ 40 ∷ 41 ∷ []
spelled-none = spelled-List (span 0 0) []

pub spelled-word : (text : List ℕ) → spelled (word text) ≡ text
spelled-word text = spelled-Word (span 0 0) text

pub spelled-listed : (head : List ℕ) (parts : List Sexp) → spelled (parens (word head ∷ parts)) ≡ (40 ∷ head) ++ ending parts
spelled-listed head parts = spelled-parens (word head) parts ∙ ap (λ bs. 40 ∷ (bs ++ ending parts)) (spelled-word head)

pub prints_item : {p q : Printer} (item : Sexp) {bytes : List ℕ} → spelled item ≡ bytes → Prints p q bytes → Prints p q (spelled item)
prints_item item e prints = prints_as (spelled item) e prints

-- another item that is the same
pub as_item : {p q : Printer} (item : Sexp) {other : Sexp} → item ≡ other → Prints p q (spelled other) → Prints p q (spelled item)
as_item item e prints = prints_as (spelled item) (ap spelled e) prints

pub prints_word : {p q : Printer} (text : List ℕ) {bytes : List ℕ} → bytes ≡ text → Prints p q bytes → Prints p q (spelled (word text))
prints_word text e prints = prints_item (word text) (spelled-word text ∙ sym e) prints

-- a blank, and an item
pub blank_then : {p q r : Printer} (item : Sexp) → Prints p q (32 ∷ []) → Prints q r (spelled item) → Prints p r (after_blank item)
blank_then item blank prints = then blank prints

-- a list with no head, after what stands before it
pub opened : {p q r : Printer} (before : List ℕ) (first : Sexp) (parts : List Sexp) → Prints p q (before ++ 40 ∷ []) → Prints q r (spelled first ++ ending parts) → Prints p r (before ++ spelled (parens (first ∷ parts)))
opened before first parts opening rest =
    prints_as (before ++ spelled (parens (first ∷ parts)))
    (ap (λ bs. before ++ bs) (spelled-parens first parts) ∙ sym (append_assoc before (40 ∷ []) (spelled first ++ ending parts)))
    (then opening rest)

-- a list by its head and what comes after it
pub listed : {p q r : Printer} (head : List ℕ) (parts : List Sexp) → Prints p q (40 ∷ head) → Prints q r (ending parts) → Prints p r (spelled (parens (word head ∷ parts)))
listed head parts opened rest = prints_as (spelled (parens (word head ∷ parts))) (spelled-listed head parts) (then opened rest)

-- a list whose head was printed with its first part
pub listed_first : {p q r : Printer} (head : List ℕ) (first : Sexp) (parts : List Sexp) → Prints p q ((40 ∷ head) ++ after_blank first) → Prints q r (ending parts) → Prints p r (spelled (parens (word head ∷ first ∷ parts)))
listed_first head first parts begun rest =
    prints_as (spelled (parens (word head ∷ first ∷ parts)))
    (spelled-listed head (first ∷ parts) ∙ sym (append_assoc (40 ∷ head) (after_blank first) (ending parts)))
    (then begun rest)

ending-each : {X : Type 0} (item : X → Sexp) (xs : List X) → ending (map item xs) ≡ each_after_blank item xs ++ 41 ∷ []
ending-each item [] = refl
ending-each item (x ∷ xs) = ap (λ bs. after_blank (item x) ++ bs) (ending-each item xs) ∙ sym (append_assoc (after_blank (item x)) (each_after_blank item xs) (41 ∷ []))

-- further parts, one for each of a list, and the end
pub ended : {p q r : Printer} {X : Type 0} (item : X → Sexp) (xs : List X) → Prints p q (each_after_blank item xs) → Prints q r (41 ∷ []) → Prints p r (ending (map item xs))
ended item xs each close = prints_as (ending (map item xs)) (ending-each item xs) (then each close)

-- one of a list more
pub one_more : {p q r : Printer} {X : Type 0} (item : X → Sexp) (xs : List X) (i : ℕ) (x : X) → i < length xs → x ≡ get_or xs i x
    → Prints p q (each_after_blank item (take i xs)) → Prints q r (after_blank (item x)) → Prints p r (each_after_blank item (take (i + 1) xs))
one_more item xs i x inside is before here =
    prints_as (each_after_blank item (take (i + 1) xs))
    (ap (each_after_blank item) (take_more xs i x inside)
    ∙ flat_map-append (λ y. after_blank (item y)) (take i xs) (get_or xs i x ∷ [])
    ∙ ap (λ bs. each_after_blank item (take i xs) ++ bs) (append-nil (after_blank (item (get_or xs i x))) ∙ ap (λ y. after_blank (item y)) (sym is)))
    (then before here)
