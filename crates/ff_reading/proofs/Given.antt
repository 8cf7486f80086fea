-- What is spelled is read: the parts of forms, from what they spell.
use Rattle.std.proofs.Common.{◌≡◌, ◌≢◌, ◌≤◌, ◌-◌, ◌&&◌, ◌||◌, ℕ, not, Bool, true, false, nat_le, List, [], ◌∷◌, ◌++◌, map, length, Option, Some, ok_or, codes, Result, Ok, Err, cond, refl, sym, ap, ◌∙◌, subst, arith, append_assoc, append-nil}
use Rattle.std.specs.List.{list_any, AllByRecursion}
use Rattle.std.specs.Str.{bytes_eq}
use Rattle.std.proofs.lemmas.Bool.{and_from}
use Rattle.std.proofs.lemmas.Bool.Decides.{nat_tests}
use Rattle.std.proofs.lemmas.Slice.Eq.{bytes_eq-Decides}
use Rattle.ff_name.specs.Spelling.{IsName}
use Rattle.ff_name.specs.Address.{Spells}
use Rattle.ff_name.specs.declared.urls.Url.{Url}
use Rattle.ff_tree.specs.Spelled.{IsVar, AreParams, Differ}
use Rattle.ff_text.specs.declared.items.Span.{Span}
use Rattle.ff_text.specs.declared.items.Sexp.{Sexp}
use Rattle.ff_text.specs.declared.items.Sexp.TheVariants.{Word, Str, List as Parens}
use Rattle.ff_tree.specs.declared.limits.TheConstants.{MOST_HANDLERS}
use Rattle.ff_forms.specs.Words.{is_literal, is_variable}
use Rattle.ff_forms.specs.Grammar.{Sort, a_name, a_variable, an_address, a_string, a_parameter, a_head, parameters, one_parameter, Value, Placed, further, nothing, Form, form, reading, and_then, each_as, form_as, list_as, parameters_as, any, few_handlers}
use Rattle.ff_name.specs.Words.{with_word}
use Rattle.ff_forms.specs.Spellings.{AreWords, no_words, a_word}
use Rattle.ff_forms.specs.declared.fault.SyntaxFault.{SyntaxFault}
use Rattle.ff_forms.specs.declared.fault.SyntaxFault.TheVariants as fault
use Rattle.ff_name.proofs.Reading.{is_name-from}
use Rattle.ff_reading.proofs.Naming.{name_given}
use Rattle.ff_reading.proofs.Addressing.{address_given}
use Rattle.ff_reading.proofs.Layers.{reading-Word, reading-Str, reading-List}
use Rattle.ff_reading.proofs.Counting.{count_passes}

-- words that differ do so in the test
pub other_word : (x y : List ℕ) → x ≢ y → bytes_eq x y ≡ false
other_word x y other = by_test (bytes_eq x y) refl where
  by_test : (t : Bool) → bytes_eq x y ≡ t → bytes_eq x y ≡ false
  by_test true e = absurd (other ((bytes_eq-Decides x y).0 e))
  by_test false e = e

pub not_literal : (x : List ℕ) → IsVar x → is_literal x ≡ false
not_literal x v =
    ap (λ t. t || bytes_eq x (codes "true") || bytes_eq x (codes "false")) (other_word x (codes "null") v.not_null)
    ∙ ap (λ t. t || bytes_eq x (codes "false")) (other_word x (codes "true") v.not_true)
    ∙ other_word x (codes "false") v.not_false

pub is_variable-from : (x : List ℕ) → IsVar x → is_variable x ≡ true
is_variable-from x v = and_from _ _ (is_name-from x v.name) (ap not (not_literal x v))

pub name_item : (at : Span) (x : List ℕ) → IsName x → reading (Word at x) a_name ≡ Ok x
name_item at x is = reading-Word at x a_name ∙ name_given at.from x is

pub variable_item : (at : Span) (x : List ℕ) → IsVar x → reading (Word at x) a_variable ≡ Ok x
variable_item at x v = reading-Word at x a_variable ∙ ap (λ t. cond t (Ok x) (Err (fault.Name at.from))) (is_variable-from x v)

pub parameter_item : (at : Span) (x : List ℕ) → IsVar x → reading (Word at x) a_parameter ≡ Ok (record { from = at.from; word = x })
parameter_item at x v = reading-Word at x a_parameter ∙ ap (λ t. cond t (Ok (record { from = at.from; word = x })) (Err (fault.Name at.from))) (is_variable-from x v)

pub address_item : (at : Span) (word : List ℕ) (url : Url) → Spells word url → reading (Word at word) an_address ≡ Ok url
address_item at word url spells = reading-Word at word an_address ∙ address_given at.from word url spells

pub string_item : (at : Span) (text : List ℕ) → reading (Str at text) a_string ≡ Ok text
string_item at text = reading-Str at text a_string

pub one_parameter_item : (p at : Span) (x : List ℕ) → IsVar x → reading (Parens p (Word at x ∷ [])) one_parameter ≡ Ok x
one_parameter_item p at x v = reading-List p (Word at x ∷ []) one_parameter ∙ variable_item at x v

-- a list whose first item is the word of a form
pub headed_list : {H X : Type 0} (word_at : H → List ℕ) (heads : List H) (form_at : H → Form X) (at : ℕ) (h : Span) (head : H) (parts : List Sexp) → with_word word_at heads (word_at head) ≡ Some head
    → list_as word_at heads form_at at (map reading (Word h (word_at head) ∷ parts)) ≡ form_as at (form_at head) (map reading parts)
headed_list {H} {X} word_at heads form_at at h head parts found =
    ap (λ (r : Result Placed SyntaxFault). and_then (and_then r (λ placed. ok_or (with_word word_at heads placed.word) (fault.Head placed.from))) (λ k. form_as at (form_at k) (map reading parts)))
    (reading-Word h (word_at head) a_head)
    ∙ ap (λ (o : Option H). and_then (ok_or o (fault.Head h.from)) (λ k. form_as at (form_at k) (map reading parts))) found

-- forms whose parts are read

pub one_read : {X : Type 0} (at : ℕ) (s : Sort) (makes : Value s → X) (a : Sexp) (v : Value s) → reading a s ≡ Ok v
    → form_as at (form (s ∷ []) nothing makes) (map reading (a ∷ [])) ≡ Ok (makes v)
one_read at s makes a v e = ap (λ (r : Result (Value s) SyntaxFault). and_then r (λ x. Ok (makes x))) e

pub two_read : {X : Type 0} (at : ℕ) (s t : Sort) (makes : Value s → Value t → X) (a b : Sexp) (v : Value s) (w : Value t) → reading a s ≡ Ok v → reading b t ≡ Ok w
    → form_as at (form (s ∷ t ∷ []) nothing makes) (map reading (a ∷ b ∷ [])) ≡ Ok (makes v w)
two_read at s t makes a b v w e f =
    ap (λ (r : Result (Value s) SyntaxFault). and_then r (λ x. and_then (reading b t) (λ y. Ok (makes x y)))) e
    ∙ ap (λ (r : Result (Value t) SyntaxFault). and_then r (λ y. Ok (makes v y))) f

pub three_read : {X : Type 0} (at : ℕ) (s t u : Sort) (makes : Value s → Value t → Value u → X) (a b c : Sexp) (v : Value s) (w : Value t) (x : Value u) → reading a s ≡ Ok v → reading b t ≡ Ok w → reading c u ≡ Ok x
    → form_as at (form (s ∷ t ∷ u ∷ []) nothing makes) (map reading (a ∷ b ∷ c ∷ [])) ≡ Ok (makes v w x)
three_read at s t u makes a b c v w x e f g =
    ap (λ (r : Result (Value s) SyntaxFault). and_then r (λ x. and_then (reading b t) (λ y. and_then (reading c u) (λ z. Ok (makes x y z))))) e
    ∙ ap (λ (r : Result (Value t) SyntaxFault). and_then r (λ y. and_then (reading c u) (λ z. Ok (makes v y z)))) f
    ∙ ap (λ (r : Result (Value u) SyntaxFault). and_then r (λ z. Ok (makes v w z))) g

pub all_read : {X : Type 0} (at : ℕ) (so_many : ℕ → Bool) (sort : Sort) (makes : List (Value sort) → X) (parts : List Sexp) (values : List (Value sort)) → so_many (length parts) ≡ true
    → each_as sort (map reading parts) ≡ Ok values → form_as at (form [] (further so_many sort) makes) (map reading parts) ≡ Ok (makes values)
all_read at so_many sort makes parts values few e =
    let all : length parts - 0 ≡ length parts = omega arith in
    let test : nat_le 0 (length parts) ≡ true = grind (arith, nat_tests) in
    count_passes at (form [] (further so_many sort) makes) parts (and_from _ _ test (subst (λ n. so_many n ≡ true) (sym all) few))
    ∙ ap (λ (r : Result (List (Value sort)) SyntaxFault). and_then r (λ vs. Ok (makes vs))) e

pub and_all_read : {X : Type 0} (at : ℕ) (s sort : Sort) (makes : Value s → List (Value sort) → X) (a : Sexp) (parts : List Sexp) (v : Value s) (values : List (Value sort)) → reading a s ≡ Ok v
    → each_as sort (map reading parts) ≡ Ok values → form_as at (form (s ∷ []) (further any sort) makes) (map reading (a ∷ parts)) ≡ Ok (makes v values)
and_all_read at s sort makes a parts v values e f =
    let some : nat_le 1 (length (a ∷ parts)) && true ≡ true = grind (arith, nat_tests) in
    count_passes at (form (s ∷ []) (further any sort) makes) (a ∷ parts) some
    ∙ ap (λ (r : Result (Value s) SyntaxFault). and_then r (λ x. and_then (each_as sort (map reading parts)) (λ vs. Ok (makes x vs)))) e
    ∙ ap (λ (r : Result (List (Value sort)) SyntaxFault). and_then r (λ vs. Ok (makes v vs))) f

pub two_all_read : {X : Type 0} (at : ℕ) (s t sort : Sort) (makes : Value s → Value t → List (Value sort) → X) (a b : Sexp) (parts : List Sexp) (v : Value s) (w : Value t) (values : List (Value sort))
    → length parts ≤ MOST_HANDLERS → reading a s ≡ Ok v → reading b t ≡ Ok w
    → each_as sort (map reading parts) ≡ Ok values → form_as at (form (s ∷ t ∷ []) (further few_handlers sort) makes) (map reading (a ∷ b ∷ parts)) ≡ Ok (makes v w values)
two_all_read at s t sort makes a b parts v w values few e f g =
    let some : nat_le 2 (length (a ∷ b ∷ parts)) && nat_le (length (a ∷ b ∷ parts) - 2) MOST_HANDLERS ≡ true = grind (arith, nat_tests) in
    count_passes at (form (s ∷ t ∷ []) (further few_handlers sort) makes) (a ∷ b ∷ parts) some
    ∙ ap (λ (r : Result (Value s) SyntaxFault). and_then r (λ x. and_then (reading b t) (λ y. and_then (each_as sort (map reading parts)) (λ vs. Ok (makes x y vs))))) e
    ∙ ap (λ (r : Result (Value t) SyntaxFault). and_then r (λ y. and_then (each_as sort (map reading parts)) (λ vs. Ok (makes v y vs)))) f
    ∙ ap (λ (r : Result (List (Value sort)) SyntaxFault). and_then r (λ vs. Ok (makes v w vs))) g

pub each_read : (sort : Sort) (item : Sexp) (items : List Sexp) (value : Value sort) (values : List (Value sort)) → reading item sort ≡ Ok value → each_as sort (map reading items) ≡ Ok values
    → each_as sort (map reading (item ∷ items)) ≡ Ok (value ∷ values)
each_read sort item items value values e f =
    ap (λ (r : Result (Value sort) SyntaxFault). and_then r (λ v. and_then (each_as sort (map reading items)) (λ vs. Ok (v ∷ vs)))) e
    ∙ ap (λ (r : Result (List (Value sort)) SyntaxFault). and_then r (λ vs. Ok (value ∷ vs))) f

-- parameters that differ from each other and from those before

abbrev pub Apart : List ℕ → List (List ℕ) → Type 0
Apart x ys = list_any (bytes_eq x) ys ≡ false

pub or_parts : (a b : Bool) → a || b ≡ false → (a ≡ false) × (b ≡ false)
or_parts true b e = cc
or_parts false b e = (refl, e)

apart_more : (x : List ℕ) (before : List (List ℕ)) (y : List ℕ) → Apart x before → x ≢ y → Apart x (before ++ y ∷ [])
apart_more x [] y apart other = ap (λ t. t || false) (other_word x y other)
apart_more x (z ∷ before) y apart other =
    let parts = or_parts (bytes_eq x z) (list_any (bytes_eq x) before) apart in
    ap (λ t. t || list_any (bytes_eq x) (before ++ y ∷ [])) parts.0 ∙ apart_more x before y parts.1 other

-- what stands after some parameters is read after their names
pub parameters_after : (before : List (List ℕ)) (items : List Sexp) (xs : List (List ℕ)) (rest : List Sexp) → AreWords items xs → AllByRecursion IsVar xs → Differ xs → AllByRecursion (λ x. Apart x before) xs
    → parameters_as before (map reading (items ++ rest)) ≡ parameters_as (before ++ xs) (map reading rest)
parameters_after before [] [] rest no_words vars differ apart = ap (λ ys. parameters_as ys (map reading rest)) (sym (append-nil before))
parameters_after before [] (x ∷ xs) rest words vars differ apart = elim words [ ]
parameters_after before (item ∷ items) [] rest words vars differ apart = elim words [ ]
parameters_after before (_ ∷ items) (x ∷ xs) rest (a_word at _ _ _ words) vars differ apart =
    ap (λ (r : Result Placed SyntaxFault). and_then (and_then r (λ p. cond (list_any (bytes_eq p.word) before) (Err (fault.Name p.from)) (Ok p.word))) (λ y. parameters_as (before ++ y ∷ []) (map reading (items ++ rest))))
    (parameter_item at x vars.0)
    ∙ ap (λ t. and_then (cond t (Err (fault.Name at.from)) (Ok x)) (λ y. parameters_as (before ++ y ∷ []) (map reading (items ++ rest)))) apart.0
    ∙ parameters_after (before ++ x ∷ []) items xs rest words vars.1 differ.1 (each_apart xs differ.0 apart.1)
    ∙ ap (λ ys. parameters_as ys (map reading rest)) (append_assoc before (x ∷ []) xs)
  where
    each_apart : (ys : List (List ℕ)) → AllByRecursion (λ y. x ≢ y) ys → AllByRecursion (λ y. Apart y before) ys → AllByRecursion (λ y. Apart y (before ++ x ∷ [])) ys
    each_apart [] others aparts = tt
    each_apart (y ∷ ys) others aparts = (apart_more y before x aparts.0 (λ e. others.0 (sym e)), each_apart ys others.1 aparts.1)

pub none_before : (xs : List (List ℕ)) → AllByRecursion (λ x. Apart x []) xs
none_before [] = tt
none_before (x ∷ xs) = (refl, none_before xs)

pub parameters_item : (p : Span) (items : List Sexp) (xs : List (List ℕ)) → AreWords items xs → AreParams xs → reading (Parens p items) parameters ≡ Ok xs
parameters_item p items xs words params =
    reading-List p items parameters ∙ ap (λ (ps : List Sexp). parameters_as [] (map reading ps)) (sym (append-nil items))
    ∙ parameters_after [] items xs [] words params.vars params.differ (none_before xs)
