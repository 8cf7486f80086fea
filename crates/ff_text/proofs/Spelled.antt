-- What is spelled is well spelled.
use Rattle.std.proofs.Common.{◌≡◌, ◌+◌, ℕ, suc, Bool, true, false, nat_lt, List, ◌∷◌, ◌++◌, [], length, map, refl, ◌∙◌, ap, arith, IfOk, Result, Ok, Err}
use Rattle.std.specs.List.{list_all}
use Rattle.std.proofs.lemmas.Bool.{and_parts, and_from}
use Rattle.std.proofs.lemmas.Bool.Decides.{nat_tests}
use Rattle.std.proofs.lemmas.Str.{is_utf8-from_IsUtf8}
use Rattle.ff_text.specs.declared.items.Sexp.{Sexp}
use Rattle.ff_text.specs.declared.items.Sexp.TheVariants as sexp
use Rattle.ff_text.specs.declared.items.TextFault.{TextFault}
use Rattle.ff_text.specs.Notation.{span, IsWord, Spells, nothing, blank, a_word, a_string, a_list, SpellsItems}
use Rattle.ff_text.specs.Printed.{fits_at, is_word, IsWellSpelled, AreWellSpelled}
use Rattle.ff_text.proofs.Layers.{fits_at-Word, fits_at-Str, fits_at-List}
use Rattle.ff_name.specs.declared.limits.TheConstants.{MOST_DEPTH}

abbrev AllFit : ℕ → List Sexp → Type 0
AllFit deep items = list_all (λ (part : ℕ → Bool). part deep) (map fits_at items) ≡ true

all_snoc : (deep : ℕ) (items : List Sexp) (item : Sexp) → AllFit deep items → fits_at item deep ≡ true → AllFit deep (items ++ item ∷ [])
all_snoc deep [] item all one = and_from _ _ one refl
all_snoc deep (first ∷ items) item all one =
    let tests = and_parts (fits_at first deep) (list_all (λ (part : ℕ → Bool). part deep) (map fits_at items)) all in
    and_from _ _ tests.0 (all_snoc deep items item tests.1 one)

word_test : (word : List ℕ) → IsWord word → is_word word ≡ true
word_test [] w = absurd (w.some refl)
word_test (b ∷ word) w = w.made_of

pub all_fit : (deep from to : ℕ) (bytes : List ℕ) (items : List Sexp) (ended : Bool) → Spells deep from to bytes items ended → AllFit deep items
all_fit deep from to bytes items ended (nothing deep' from') = refl
all_fit deep from to bytes items ended (blank deep' from' to' bytes' items' ended' s) = all_fit deep' from' to' bytes' items' ended' s
all_fit deep from to bytes items ended (a_word deep' from' to' bytes' items' word s w) =
    all_snoc deep' items' (sexp.Word (span to' (to' + length word)) word) (all_fit deep' from' to' bytes' items' false s) (ap (λ f. f deep') (fits_at-Word (span to' (to' + length word)) word) ∙ word_test word w)
all_fit deep from to bytes items ended (a_string deep' from' to' bytes' items' ended' body value s v utf8) =
    all_snoc deep' items' (sexp.Str (span to' (to' + 1 + length body + 1)) value) (all_fit deep' from' to' bytes' items' ended' s) (ap (λ f. f deep') (fits_at-Str (span to' (to' + 1 + length body + 1)) value) ∙ is_utf8-from_IsUtf8 value utf8)
all_fit deep from to bytes items ended (a_list deep' from' to' close bytes' inner items' parts ended' inner_ended s room t) =
    let test : nat_lt deep' MOST_DEPTH ≡ true = grind (arith, nat_tests) in
    all_snoc deep' items' (sexp.List (span to' (close + 1)) parts) (all_fit deep' from' to' bytes' items' ended' s)
    (ap (λ f. f deep') (fits_at-List (span to' (close + 1)) parts) ∙ and_from _ _ test (all_fit (suc deep') (to' + 1) close inner parts inner_ended t))

pub well_spelled_items : (bytes : List ℕ) (items : List Sexp) → SpellsItems bytes items → AreWellSpelled items
well_spelled_items bytes items spelled = all_fit 0 0 spelled.to bytes items spelled.ended spelled.spells

pub well_spelled_item : (bytes : List ℕ) (item : Sexp) → SpellsItems bytes (item ∷ []) → IsWellSpelled item
well_spelled_item bytes item spelled = (and_parts (fits_at item 0) true (well_spelled_items bytes (item ∷ []) spelled)).0

pub items_well : (bytes : List ℕ) (answer : Result (List Sexp) TextFault) → IfOk answer (SpellsItems bytes) → IfOk answer AreWellSpelled
items_well bytes (Ok items) spelled = well_spelled_items bytes items spelled
items_well bytes (Err which) spelled = tt

pub item_well : (bytes : List ℕ) (answer : Result Sexp TextFault) → IfOk answer (λ item. SpellsItems bytes (item ∷ [])) → IfOk answer IsWellSpelled
item_well bytes (Ok item) spelled = well_spelled_item bytes item spelled
item_well bytes (Err which) spelled = tt
