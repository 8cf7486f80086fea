-- Items that are printed with blanks between them are read back, in all but their places.
use Rattle.std.proofs.Common.{◌≡◌, ◌+◌, ℕ, suc, Bool, true, false, List, [], ◌∷◌, ◌++◌, length, map, refl, sym, ap, ◌∙◌, subst, append_assoc, append-nil}
use Rattle.std.specs.List.{list_all}
use Rattle.std.proofs.lemmas.Bool.{and_parts}
use Rattle.ff_text.specs.declared.items.Sexp.{Sexp}
use Rattle.ff_text.specs.declared.items.Sexp.TheVariants as sexp
use Rattle.ff_text.specs.Notation.{span, Spells, nothing, blank, a_word, a_string, a_list, SpellsItems}
use Rattle.ff_text.specs.Printed.{spelled, bare, fits_at, IsWellSpelled, AreWellSpelled}
use Rattle.ff_text.proofs.Back.{reads_back}
use Rattle.ff_text.proofs.Layers.{bare-Word, bare-Str, bare-List}
use Rattle.ff_trace.specs.Printed.{joined}

-- bytes that spell items spell them at any other place
record Moved (level from : ℕ) (bytes : List ℕ) (items : List Sexp) (ended : Bool) : Type 0 where
  end : ℕ
  again : List Sexp
  spells : Spells level from end bytes again ended
  same : map bare again ≡ map bare items

map_snoc : (items : List Sexp) (item : Sexp) → map bare (items ++ item ∷ []) ≡ map bare items ++ bare item ∷ []
map_snoc [] item = refl
map_snoc (first ∷ items) item = ap (λ (all : List Sexp). bare first ∷ all) (map_snoc items item)

same_more : (again items : List Sexp) (one item : Sexp) → map bare again ≡ map bare items → bare one ≡ bare item → map bare (again ++ one ∷ []) ≡ map bare (items ++ item ∷ [])
same_more again items one item e f = map_snoc again one ∙ ap (λ (all : List Sexp). all ++ bare one ∷ []) e ∙ ap (λ (x : Sexp). map bare items ++ x ∷ []) f ∙ sym (map_snoc items item)

moved : (level from to start : ℕ) (bytes : List ℕ) (items : List Sexp) (ended : Bool) → Spells level from to bytes items ended → Moved level start bytes items ended
moved level from to start bytes items ended (nothing level' from') = record { end = start; again = []; spells = nothing level start; same = refl }
moved level from to start bytes items ended (blank level' from' to' bytes' items' ended' s) =
    let before = moved level from to' start bytes' items' ended' s in
    record { end = before.end + 1; again = before.again; spells = blank level start before.end bytes' before.again ended' before.spells; same = before.same }
moved level from to start bytes items ended (a_word level' from' to' bytes' items' text s w) =
    let before = moved level from to' start bytes' items' false s in
    record {
      end = before.end + length text;
      again = before.again ++ sexp.Word (span before.end (before.end + length text)) text ∷ [];
      spells = a_word level start before.end bytes' before.again text before.spells w;
      same = same_more before.again items' (sexp.Word (span before.end (before.end + length text)) text) (sexp.Word (span to' (to' + length text)) text) before.same
          (bare-Word (span before.end (before.end + length text)) text ∙ sym (bare-Word (span to' (to' + length text)) text));
    }
moved level from to start bytes items ended (a_string level' from' to' bytes' items' ended' body value s v utf8) =
    let before = moved level from to' start bytes' items' ended' s in
    let at = span before.end (before.end + 1 + length body + 1) in
    let was = span to' (to' + 1 + length body + 1) in
    record {
      end = before.end + 1 + length body + 1;
      again = before.again ++ sexp.Str at value ∷ [];
      spells = a_string level start before.end bytes' before.again ended' body value before.spells v utf8;
      same = same_more before.again items' (sexp.Str at value) (sexp.Str was value) before.same (bare-Str at value ∙ sym (bare-Str was value));
    }
moved level from to start bytes items ended (a_list level' from' to' close bytes' inner items' parts ended' inner_ended s room t) =
    let before = moved level from to' start bytes' items' ended' s in
    let inside = moved (suc level) (to' + 1) close (before.end + 1) inner parts inner_ended t in
    let at = span before.end (inside.end + 1) in
    let was = span to' (close + 1) in
    record {
      end = inside.end + 1;
      again = before.again ++ sexp.List at inside.again ∷ [];
      spells = a_list level start before.end inside.end bytes' inner before.again inside.again ended' inner_ended before.spells room inside.spells;
      same = same_more before.again items' (sexp.List at inside.again) (sexp.List was parts) before.same
          (bare-List at inside.again ∙ ap (sexp.List (span 0 0)) inside.same ∙ sym (bare-List was parts));
    }

-- bytes that end in no word, and then others
after : (level from mid to : ℕ) (front bytes : List ℕ) (before items : List Sexp) (ended : Bool) → Spells level from mid front before false → Spells level mid to bytes items ended → Spells level from to (front ++ bytes) (before ++ items) ended
after level from mid to front bytes before items ended first (nothing level' from') =
    subst (λ bs. Spells level from mid bs (before ++ []) false) (sym (append-nil front)) (subst (λ all. Spells level from mid front all false) (sym (append-nil before)) first)
after level from mid to front bytes before items ended first (blank level' from' to' bytes' items' ended' s) =
    subst (λ bs. Spells level from (to' + 1) bs (before ++ items') false) (append_assoc front bytes' (32 ∷ []))
    (blank level from to' (front ++ bytes') (before ++ items') ended' (after level from mid to' front bytes' before items' ended' first s))
after level from mid to front bytes before items ended first (a_word level' from' to' bytes' items' text s w) =
    let item = sexp.Word (span to' (to' + length text)) text in
    subst (λ bs. Spells level from (to' + length text) bs (before ++ (items' ++ item ∷ [])) true) (append_assoc front bytes' text)
    (subst (λ all. Spells level from (to' + length text) ((front ++ bytes') ++ text) all true) (append_assoc before items' (item ∷ []))
    (a_word level from to' (front ++ bytes') (before ++ items') text (after level from mid to' front bytes' before items' false first s) w))
after level from mid to front bytes before items ended first (a_string level' from' to' bytes' items' ended' body value s v utf8) =
    let item = sexp.Str (span to' (to' + 1 + length body + 1)) value in
    subst (λ bs. Spells level from (to' + 1 + length body + 1) bs (before ++ (items' ++ item ∷ [])) false) (append_assoc front bytes' (34 ∷ (body ++ 34 ∷ [])))
    (subst (λ all. Spells level from (to' + 1 + length body + 1) ((front ++ bytes') ++ (34 ∷ (body ++ 34 ∷ []))) all false) (append_assoc before items' (item ∷ []))
    (a_string level from to' (front ++ bytes') (before ++ items') ended' body value (after level from mid to' front bytes' before items' ended' first s) v utf8))
after level from mid to front bytes before items ended first (a_list level' from' to' close bytes' inner items' parts ended' inner_ended s room t) =
    let item = sexp.List (span to' (close + 1)) parts in
    subst (λ bs. Spells level from (close + 1) bs (before ++ (items' ++ item ∷ [])) false) (append_assoc front bytes' (40 ∷ (inner ++ 41 ∷ [])))
    (subst (λ all. Spells level from (close + 1) ((front ++ bytes') ++ (40 ∷ (inner ++ 41 ∷ []))) all false) (append_assoc before items' (item ∷ []))
    (a_list level from to' close (front ++ bytes') inner (before ++ items') parts ended' inner_ended (after level from mid to' front bytes' before items' ended' first s) room t))

record Reread (from : ℕ) (items : List Sexp) : Type 0 where
  end : ℕ
  again : List Sexp
  ended : Bool
  spells : Spells 0 from end (joined items) again ended
  same : map bare again ≡ map bare items

one_again : (item : Sexp) → IsWellSpelled item → (from : ℕ) → Reread from (item ∷ [])
one_again item well from =
    let back = reads_back item well in
    let at = moved 0 0 back.spells.to from (spelled item) (back.again ∷ []) back.spells.ended back.spells.spells in
    record { end = at.end; again = at.again; ended = back.spells.ended; spells = at.spells; same = at.same ∙ ap (λ (x : Sexp). x ∷ []) back.same }

map_append : (xs ys : List Sexp) → map bare (xs ++ ys) ≡ map bare xs ++ map bare ys
map_append [] ys = refl
map_append (x ∷ xs) ys = ap (λ (all : List Sexp). bare x ∷ all) (map_append xs ys)

all_again : (items : List Sexp) → AreWellSpelled items → (from : ℕ) → Reread from items
all_again [] well from = record { end = from; again = []; ended = false; spells = nothing 0 from; same = refl }
all_again (item ∷ []) well from = one_again item (and_parts (fits_at item 0) true well).0 from
all_again (item ∷ next ∷ others) well from =
    let tests = and_parts (fits_at item 0) (list_all (λ (part : ℕ → Bool). part 0) (map fits_at (next ∷ others))) well in
    let one = one_again item tests.0 from in
    let gap = blank 0 from one.end (spelled item) one.again one.ended one.spells in
    let rest = all_again (next ∷ others) tests.1 (one.end + 1) in
    let whole = after 0 from (one.end + 1) rest.end (spelled item ++ 32 ∷ []) (joined (next ∷ others)) one.again rest.again rest.ended gap rest.spells in
    record {
      end = rest.end;
      again = one.again ++ rest.again;
      ended = rest.ended;
      spells = subst (λ bs. Spells 0 from rest.end bs (one.again ++ rest.again) rest.ended) (append_assoc (spelled item) (32 ∷ []) (joined (next ∷ others))) whole;
      same = map_append one.again rest.again ∙ ap (λ (all : List Sexp). all ++ map bare rest.again) one.same ∙ ap (λ (all : List Sexp). bare item ∷ all) rest.same;
    }

-- the items that are read from a line that was printed
pub record ReadBack (items : List Sexp) : Type 0 where
  pub again : List Sexp
  pub spells : SpellsItems (joined items) again
  pub same : map bare again ≡ map bare items

pub line_back : (items : List Sexp) → AreWellSpelled items → ReadBack items
line_back items well =
    let all = all_again items well 0 in
    record { again = all.again; spells = record { to = all.end; ended = all.ended; spells = all.spells }; same = all.same }
