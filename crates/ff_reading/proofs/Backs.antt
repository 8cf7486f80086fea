-- What is read is spelled: the parts of forms, from what was read.
use Rattle.std.proofs.Common.{◌≡◌, ◌≢◌, ◌≤◌, ◌-◌, ◌==◌, ◌&&◌, ◌||◌, ℕ, suc, not, Bool, true, false, nat_le, List, [], ◌∷◌, ◌++◌, map, length, Option, Some, None, ok_or, find, codes, Result, Ok, Err, cond, refl, sym, ap, ◌∙◌, subst, arith, append_assoc, append-nil}
use Rattle.std.specs.List.{list_any, AllByRecursion}
use Rattle.std.specs.Str.{bytes_eq}
use Rattle.std.proofs.lemmas.List.{length-map}
use Rattle.std.proofs.lemmas.Bool.{and_parts}
use Rattle.std.proofs.lemmas.Bool.Decides.{nat_tests}
use Rattle.std.proofs.lemmas.Slice.Eq.{bytes_eq-Decides}
use Rattle.ff_name.specs.Spelling.{IsName}
use Rattle.ff_name.specs.Address.{Spells}
use Rattle.ff_name.specs.declared.urls.Url.{Url}
use Rattle.ff_tree.specs.Spelled.{IsVar, AreParams, Differ}
use Rattle.ff_text.specs.declared.items.Span.{Span}
use Rattle.ff_text.specs.declared.items.Sexp.{Sexp}
use Rattle.ff_text.specs.declared.items.Sexp.TheVariants.{Word, Str, List as Parens}
use Rattle.ff_text.proofs.Layers.{items_ind}
use Rattle.ff_tree.specs.declared.limits.TheConstants.{MOST_HANDLERS}
use Rattle.ff_name.specs.Reading.{is_name, read_url}
use Rattle.ff_name.proofs.Reading.{read_url_spelled, IsName-from}
use Rattle.ff_forms.specs.Words.{is_literal, is_variable}
use Rattle.ff_forms.specs.Grammar.{Sort, a_name, a_variable, an_address, a_string, a_parameter, a_head, parameters, one_parameter, Value, Placed, further, nothing, Form, form, reading, and_then, each_as, may_have, parts_as, form_as, head_as, list_as, parameter_as, parameters_as, one_parameter_as, any, few_handlers}
use Rattle.ff_name.specs.Words.{with_word}
use Rattle.ff_forms.specs.Spellings.{AreWords, no_words, a_word}
use Rattle.ff_forms.specs.declared.fault.SyntaxFault.{SyntaxFault}
use Rattle.ff_forms.specs.declared.fault.SyntaxFault.TheVariants as fault
use Rattle.ff_reading.proofs.Layers.{reading-Word, reading-Str, reading-List}
use Rattle.ff_reading.proofs.Given.{or_parts}

-- a value of two steps is that of the second, from a value of the first
pub came_from : {X Y : Type 0} (first : Result X SyntaxFault) (next : X → Result Y SyntaxFault) (y : Y) → and_then first next ≡ Ok y → (x : X) × (first ≡ Ok x) × (next x ≡ Ok y)
came_from (Ok x) next y e = (x, refl, e)
came_from (Err which) next y e = cc

pub passed : {X : Type 0} (test : Bool) (r : Result X SyntaxFault) (which : SyntaxFault) (x : X) → cond test r (Err which) ≡ Ok x → (test ≡ true) × (r ≡ Ok x)
passed true r which x e = (refl, e)
passed false r which x e = cc

pub some_from : {X : Type 0} (o : Option X) (which : SyntaxFault) (x : X) → ok_or o which ≡ Ok x → o ≡ Some x
some_from (Some y) which x e = let same : y ≡ x = cc in ap Some same
some_from None which x e = cc

abbrev pub ok_of : {X : Type 0} → X → Result X SyntaxFault
ok_of x = Ok x

abbrev pub err_of : {X : Type 0} → SyntaxFault → Result X SyntaxFault
err_of which = Err which

pub ok_value : {X : Type 0} (x y : X) → ok_of x ≡ Ok y → x ≡ y
ok_value x y e = cc

not_false : (b : Bool) → not b ≡ true → b ≡ false
not_false true e = cc
not_false false e = refl

other_than : (x y : List ℕ) → bytes_eq x y ≡ false → x ≢ y
other_than x y e same = let is : bytes_eq x y ≡ true = (bytes_eq-Decides x y).1 same in cc

pub IsVar-from_tests : (x : List ℕ) → is_name x ≡ true → is_literal x ≡ false → IsVar x
IsVar-from_tests x name other =
    let last = or_parts (bytes_eq x (codes "null") || bytes_eq x (codes "true")) (bytes_eq x (codes "false")) other in
    let first = or_parts (bytes_eq x (codes "null")) (bytes_eq x (codes "true")) last.0 in
    record {
      name = IsName-from x name;
      not_null = other_than x (codes "null") first.0;
      not_true = other_than x (codes "true") first.1;
      not_false = other_than x (codes "false") last.1;
    }

pub IsVar-from : (x : List ℕ) → is_variable x ≡ true → IsVar x
IsVar-from x h = let tests = and_parts (is_name x) (not (is_literal x)) h in IsVar-from_tests x tests.0 (not_false (is_literal x) tests.1)

pub err_value : {X : Type 0} (which : SyntaxFault) (x : X) → err_of which ≡ Ok x → ⊥
err_value which x e = cc

-- leaves

pub data IsOne : Sexp → Type 0 where
  is_word : (at : Span) (word : List ℕ) → IsOne (Word at word)
  is_string : (at : Span) (text : List ℕ) → IsOne (Str at text)
  is_list : (at : Span) (parts : List Sexp) → IsOne (Parens at parts)

pub item_cases : (item : Sexp) → IsOne item
item_cases item = items_ind IsOne is_word is_string (λ at parts each. is_list at parts) item

-- an item that is a word with a property
pub record IsWordThat (P : List ℕ → Type 0) (item : Sexp) (x : List ℕ) : Type 0 where
  pub at : Span
  pub is : item ≡ Word at x
  pub holds : P x

name_case : (item : Sexp) → IsOne item → (x : List ℕ) → reading item a_name ≡ Ok x → IsWordThat IsName item x
name_case _ (is_word at word) x e =
    let test = passed (is_name word) (Ok word) (fault.Name at.from) x (sym (reading-Word at word a_name) ∙ e) in
    let same : word ≡ x = ok_value word x test.1 in
    subst (IsWordThat IsName (Word at word)) same (record { at = at; is = refl; holds = IsName-from word test.0 })
name_case _ (is_string at text) x e = absurd (err_value (fault.Place at.from) x (sym (reading-Str at text a_name) ∙ e))
name_case _ (is_list at parts) x e = absurd (err_value (fault.Place at.from) x (sym (reading-List at parts a_name) ∙ e))

pub name_back : (item : Sexp) (x : List ℕ) → reading item a_name ≡ Ok x → IsWordThat IsName item x
name_back item x e = name_case item (item_cases item) x e

variable_case : (item : Sexp) → IsOne item → (x : List ℕ) → reading item a_variable ≡ Ok x → IsWordThat IsVar item x
variable_case _ (is_word at word) x e =
    let test = passed (is_variable word) (Ok word) (fault.Name at.from) x (sym (reading-Word at word a_variable) ∙ e) in
    let same : word ≡ x = ok_value word x test.1 in
    subst (IsWordThat IsVar (Word at word)) same (record { at = at; is = refl; holds = IsVar-from word test.0 })
variable_case _ (is_string at text) x e = absurd (err_value (fault.Place at.from) x (sym (reading-Str at text a_variable) ∙ e))
variable_case _ (is_list at parts) x e = absurd (err_value (fault.Place at.from) x (sym (reading-List at parts a_variable) ∙ e))

pub variable_back : (item : Sexp) (x : List ℕ) → reading item a_variable ≡ Ok x → IsWordThat IsVar item x
variable_back item x e = variable_case item (item_cases item) x e

parameter_case : (item : Sexp) → IsOne item → (x : Placed) → reading item a_parameter ≡ Ok x → IsWordThat IsVar item x.word
parameter_case _ (is_word at word) x e =
    let placed : Placed = record { from = at.from; word = word } in
    let test = passed (is_variable word) (Ok placed) (fault.Name at.from) x (sym (reading-Word at word a_parameter) ∙ e) in
    let same : placed ≡ x = ok_value placed x test.1 in
    subst (λ p. IsWordThat IsVar (Word at word) p.word) same (record { at = at; is = refl; holds = IsVar-from word test.0 })
parameter_case _ (is_string at text) x e = absurd (err_value (fault.Place at.from) x (sym (reading-Str at text a_parameter) ∙ e))
parameter_case _ (is_list at parts) x e = absurd (err_value (fault.Place at.from) x (sym (reading-List at parts a_parameter) ∙ e))

-- an item that is a word which spells an address
pub record IsAddressWord (item : Sexp) (url : Url) : Type 0 where
  pub at : Span
  pub word : List ℕ
  pub is : item ≡ Word at word
  pub spells : Spells word url

address_case : (item : Sexp) → IsOne item → (url : Url) → reading item an_address ≡ Ok url → IsAddressWord item url
address_case _ (is_word at word) url e =
    record { at = at; word = word; is = refl; spells = read_url_spelled word url (some_from (read_url word) (fault.Url at.from) url (sym (reading-Word at word an_address) ∙ e)) }
address_case _ (is_string at text) url e = absurd (err_value (fault.Place at.from) url (sym (reading-Str at text an_address) ∙ e))
address_case _ (is_list at parts) url e = absurd (err_value (fault.Place at.from) url (sym (reading-List at parts an_address) ∙ e))

pub address_back : (item : Sexp) (url : Url) → reading item an_address ≡ Ok url → IsAddressWord item url
address_back item url e = address_case item (item_cases item) url e

pub record IsString (item : Sexp) (text : List ℕ) : Type 0 where
  pub at : Span
  pub is : item ≡ Str at text

string_case : (item : Sexp) → IsOne item → (text : List ℕ) → reading item a_string ≡ Ok text → IsString item text
string_case _ (is_word at word) text e = absurd (err_value (fault.Place at.from) text (sym (reading-Word at word a_string) ∙ e))
string_case _ (is_string at value) text e =
    let same : value ≡ text = ok_value value text (sym (reading-Str at value a_string) ∙ e) in
    subst (IsString (Str at value)) same (record { at = at; is = refl })
string_case _ (is_list at parts) text e = absurd (err_value (fault.Place at.from) text (sym (reading-List at parts a_string) ∙ e))

pub string_back : (item : Sexp) (text : List ℕ) → reading item a_string ≡ Ok text → IsString item text
string_back item text e = string_case item (item_cases item) text e

-- an item that is a list whose parts have a property
pub record IsListThat {X : Type 0} (P : List Sexp → X → Type 0) (item : Sexp) (x : X) : Type 0 where
  pub at : Span
  pub parts : List Sexp
  pub is : item ≡ Parens at parts
  pub holds : P parts x

-- parameters

pub record Named (before : List (List ℕ)) (items : List Sexp) (all : List (List ℕ)) : Type 0 where
  pub xs : List (List ℕ)
  pub joined : all ≡ before ++ xs
  pub words : AreWords items xs
  pub vars : AllByRecursion IsVar xs
  pub differ : Differ xs
  pub apart : AllByRecursion (λ x. list_any (bytes_eq x) before ≡ false) xs

apart_front : (x : List ℕ) (before : List (List ℕ)) (y : List ℕ) → list_any (bytes_eq x) (before ++ y ∷ []) ≡ false → (list_any (bytes_eq x) before ≡ false) × (bytes_eq x y ≡ false)
apart_front x [] y e = (refl, (or_parts (bytes_eq x y) false e).0)
apart_front x (z ∷ before) y e =
    let parts = or_parts (bytes_eq x z) (list_any (bytes_eq x) (before ++ y ∷ [])) e in
    let rest = apart_front x before y parts.1 in
    (rw parts.0 rest.0, rest.1)

each_front : (before : List (List ℕ)) (y : List ℕ) (xs : List (List ℕ)) → AllByRecursion (λ x. list_any (bytes_eq x) (before ++ y ∷ []) ≡ false) xs
    → AllByRecursion (λ x. y ≢ x) xs × AllByRecursion (λ x. list_any (bytes_eq x) before ≡ false) xs
each_front before y [] each = (tt, tt)
each_front before y (x ∷ xs) each =
    let one = apart_front x before y each.0 in
    let rest = each_front before y xs each.1 in
    ((λ e. other_than x y one.1 (sym e), rest.0), (one.0, rest.1))

pub named_back : (before : List (List ℕ)) (items : List Sexp) (all : List (List ℕ)) → parameters_as before (map reading items) ≡ Ok all → Named before items all
named_back before [] all e = record { xs = []; joined = sym (ok_value before all e) ∙ sym (append-nil before); words = no_words; vars = tt; differ = tt; apart = tt }
named_back before (item ∷ items) all e =
    let first = came_from (parameter_as before (reading item)) (λ x. parameters_as (before ++ x ∷ []) (map reading items)) all e in
    let placed = came_from (reading item a_parameter) (λ p. cond (list_any (bytes_eq p.word) before) (Err (fault.Name p.from)) (Ok p.word)) first.0 first.1 in
    more first.0 placed.0 (parameter_case item (item_cases item) placed.0 placed.1) placed.2 (named_back (before ++ first.0 ∷ []) items all first.2)
  where
    more : (x : List ℕ) (p : Placed) → IsWordThat IsVar item p.word → cond (list_any (bytes_eq p.word) before) (err_of (fault.Name p.from)) (Ok p.word) ≡ Ok x → Named (before ++ x ∷ []) items all → Named before (item ∷ items) all
    more x p word tested rest = by_test (list_any (bytes_eq p.word) before) refl tested where
      by_test : (t : Bool) → list_any (bytes_eq p.word) before ≡ t → cond t (err_of (fault.Name p.from)) (Ok p.word) ≡ Ok x → Named before (item ∷ items) all
      by_test true t f = absurd (err_value (fault.Name p.from) x f)
      by_test false t f =
          let same : p.word ≡ x = ok_value p.word x f in
          let others = each_front before x rest.xs rest.apart in
          record {
            xs = x ∷ rest.xs;
            joined = rest.joined ∙ append_assoc before (x ∷ []) rest.xs;
            words = subst (λ (i : Sexp). AreWords (i ∷ items) (x ∷ rest.xs)) (sym (word.is ∙ ap (Word word.at) same)) (a_word word.at x items rest.xs rest.words);
            vars = (subst IsVar same word.holds, rest.vars);
            differ = (others.0, rest.differ);
            apart = (subst (λ y. list_any (bytes_eq y) before ≡ false) same t, others.1);
          }

pub record AreParameterWords (items : List Sexp) (xs : List (List ℕ)) : Type 0 where
  pub words : AreWords items xs
  pub params : AreParams xs

parameters_case : (item : Sexp) → IsOne item → (xs : List (List ℕ)) → reading item parameters ≡ Ok xs → IsListThat AreParameterWords item xs
parameters_case _ (is_word at word) xs e = absurd (err_value (fault.Place at.from) xs (sym (reading-Word at word parameters) ∙ e))
parameters_case _ (is_string at text) xs e = absurd (err_value (fault.Place at.from) xs (sym (reading-Str at text parameters) ∙ e))
parameters_case _ (is_list at parts) xs e =
    let named = named_back [] parts xs (sym (reading-List at parts parameters) ∙ e) in
    record {
      at = at;
      parts = parts;
      is = refl;
      holds = subst (AreParameterWords parts) (sym named.joined) (record { words = named.words; params = record { vars = named.vars; differ = named.differ } });
    }

pub parameters_back : (item : Sexp) (xs : List (List ℕ)) → reading item parameters ≡ Ok xs → IsListThat AreParameterWords item xs
parameters_back item xs e = parameters_case item (item_cases item) xs e

pub record IsOneVariable (items : List Sexp) (x : List ℕ) : Type 0 where
  pub at : Span
  pub is : items ≡ Word at x ∷ []
  pub holds : IsVar x

one_variable : (at : ℕ) (parts : List Sexp) (x : List ℕ) → one_parameter_as at (map reading parts) ≡ Ok x → IsOneVariable parts x
one_variable at [] x e = absurd (err_value (fault.Count at) x e)
one_variable at (part ∷ []) x e = let back = variable_back part x e in record { at = back.at; is = ap (λ (p : Sexp). p ∷ []) back.is; holds = back.holds }
one_variable at (part ∷ part' ∷ parts) x e = absurd (err_value (fault.Count at) x e)

one_parameter_case : (item : Sexp) → IsOne item → (x : List ℕ) → reading item one_parameter ≡ Ok x → IsListThat IsOneVariable item x
one_parameter_case _ (is_word at word) xs e = absurd (err_value (fault.Place at.from) xs (sym (reading-Word at word one_parameter) ∙ e))
one_parameter_case _ (is_string at text) xs e = absurd (err_value (fault.Place at.from) xs (sym (reading-Str at text one_parameter) ∙ e))
one_parameter_case _ (is_list at parts) x e = record { at = at; parts = parts; is = refl; holds = one_variable at.from parts x (sym (reading-List at parts one_parameter) ∙ e) }

pub one_parameter_back : (item : Sexp) (x : List ℕ) → reading item one_parameter ≡ Ok x → IsListThat IsOneVariable item x
one_parameter_back item x e = one_parameter_case item (item_cases item) x e

-- lists that begin with a word of a table

pub find_passes : {X : Type 0} (test : X → Bool) (xs : List X) (x : X) → find test xs ≡ Some x → test x ≡ true
find_passes test [] x e = cc
find_passes test (y ∷ ys) x e = by_test (test y) refl e (find_passes test ys x) where
  by_test : (b : Bool) → test y ≡ b → cond b (Some y) (find test ys) ≡ Some x → (find test ys ≡ Some x → test x ≡ true) → test x ≡ true
  by_test true t f later = let same : y ≡ x = cc in subst (λ z. test z ≡ true) same t
  by_test false t f later = later f

pub record HasHead {H : Type 0} (word_at : H → List ℕ) (item : Sexp) (head : H) : Type 0 where
  pub at : Span
  pub is : item ≡ Word at (word_at head)

pub head_case : {H : Type 0} (word_at : H → List ℕ) (heads : List H) (item : Sexp) → IsOne item → (head : H) → head_as word_at heads (reading item) ≡ Ok head → HasHead word_at item head
head_case word_at heads _ (is_word at word) head e =
    let placed = came_from (reading (Word at word) a_head) (λ p. ok_or (with_word word_at heads p.word) (fault.Head p.from)) head e in
    let here : Placed = record { from = at.from; word = word } in
    let same : here ≡ placed.0 = ok_value here placed.0 (sym (reading-Word at word a_head) ∙ placed.1) in
    let found : with_word word_at heads word ≡ Some head = ap (λ (p : Placed). with_word word_at heads p.word) same ∙ some_from (with_word word_at heads placed.0.word) (fault.Head placed.0.from) head placed.2 in
    let spelled : word_at head ≡ word = (bytes_eq-Decides (word_at head) word).0 (find_passes (λ h. bytes_eq (word_at h) word) heads head found) in
    record { at = at; is = ap (Word at) (sym spelled) }
head_case word_at heads _ (is_string at text) head e =
    let placed = came_from (reading (Str at text) a_head) (λ p. ok_or (with_word word_at heads p.word) (fault.Head p.from)) head e in
    absurd (err_value (fault.Head at.from) placed.0 (sym (reading-Str at text a_head) ∙ placed.1))
head_case word_at heads _ (is_list at parts) head e =
    let placed = came_from (reading (Parens at parts) a_head) (λ p. ok_or (with_word word_at heads p.word) (fault.Head p.from)) head e in
    absurd (err_value (fault.Head at.from) placed.0 (sym (reading-List at parts a_head) ∙ placed.1))

pub record ListBack {H X : Type 0} (word_at : H → List ℕ) (form_at : H → Form X) (at : ℕ) (items : List Sexp) (x : X) : Type 0 where
  pub h : Span
  pub head : H
  pub parts : List Sexp
  pub is : items ≡ Word h (word_at head) ∷ parts
  pub formed : form_as at (form_at head) (map reading parts) ≡ Ok x

pub list_back : {H X : Type 0} (word_at : H → List ℕ) (heads : List H) (form_at : H → Form X) (at : ℕ) (items : List Sexp) (x : X) → list_as word_at heads form_at at (map reading items) ≡ Ok x
    → ListBack word_at form_at at items x
list_back word_at heads form_at at [] x e = absurd (err_value (fault.Head at) x e)
list_back word_at heads form_at at (item ∷ items) x e =
    let headed_by = came_from (head_as word_at heads (reading item)) (λ head. form_as at (form_at head) (map reading items)) x e in
    let has = head_case word_at heads item (item_cases item) headed_by.0 headed_by.1 in
    record { h = has.at; head = headed_by.0; parts = items; is = ap (λ (i : Sexp). i ∷ items) has.is; formed = headed_by.2 }

-- forms

pub record OneBack {X : Type 0} (s : Sort) (makes : Value s → X) (parts : List Sexp) (x : X) : Type 0 where
  pub a : Sexp
  pub v : Value s
  pub is : parts ≡ a ∷ []
  pub first : reading a s ≡ Ok v
  pub made : makes v ≡ x

pub record TwoBack {X : Type 0} (s t : Sort) (makes : Value s → Value t → X) (parts : List Sexp) (x : X) : Type 0 where
  pub a : Sexp
  pub b : Sexp
  pub v : Value s
  pub w : Value t
  pub is : parts ≡ a ∷ b ∷ []
  pub first : reading a s ≡ Ok v
  pub second : reading b t ≡ Ok w
  pub made : makes v w ≡ x

pub record ThreeBack {X : Type 0} (s t u : Sort) (makes : Value s → Value t → Value u → X) (parts : List Sexp) (x : X) : Type 0 where
  pub a : Sexp
  pub b : Sexp
  pub c : Sexp
  pub v : Value s
  pub w : Value t
  pub y : Value u
  pub is : parts ≡ a ∷ b ∷ c ∷ []
  pub first : reading a s ≡ Ok v
  pub second : reading b t ≡ Ok w
  pub third : reading c u ≡ Ok y
  pub made : makes v w y ≡ x

pub record AllBack {X : Type 0} (so_many : ℕ → Bool) (sort : Sort) (makes : List (Value sort) → X) (parts : List Sexp) (x : X) : Type 0 where
  pub values : List (Value sort)
  pub few : so_many (length parts) ≡ true
  pub each : each_as sort (map reading parts) ≡ Ok values
  pub made : makes values ≡ x

pub record AndAllBack {X : Type 0} (s sort : Sort) (makes : Value s → List (Value sort) → X) (parts : List Sexp) (x : X) : Type 0 where
  pub a : Sexp
  pub rest : List Sexp
  pub v : Value s
  pub values : List (Value sort)
  pub is : parts ≡ a ∷ rest
  pub first : reading a s ≡ Ok v
  pub each : each_as sort (map reading rest) ≡ Ok values
  pub made : makes v values ≡ x

pub record TwoAllBack {X : Type 0} (s t sort : Sort) (makes : Value s → Value t → List (Value sort) → X) (parts : List Sexp) (x : X) : Type 0 where
  pub a : Sexp
  pub b : Sexp
  pub rest : List Sexp
  pub v : Value s
  pub w : Value t
  pub values : List (Value sort)
  pub is : parts ≡ a ∷ b ∷ rest
  pub few : length rest ≤ MOST_HANDLERS
  pub first : reading a s ≡ Ok v
  pub second : reading b t ≡ Ok w
  pub each : each_as sort (map reading rest) ≡ Ok values
  pub made : makes v w values ≡ x

-- the parts of a form that answers were counted
counted : {X : Type 0} (at : ℕ) (f : Form X) (parts : List Sexp) (x : X) → form_as at f (map reading parts) ≡ Ok x
    → (may_have f.sorts f.more (length parts) ≡ true) × (parts_as at f.sorts f.more f.makes (map reading parts) ≡ Ok x)
counted at f parts x e =
    passed (may_have f.sorts f.more (length parts)) (parts_as at f.sorts f.more f.makes (map reading parts)) (fault.Count at) x
    (ap (λ n. cond (may_have f.sorts f.more n) (parts_as at f.sorts f.more f.makes (map reading parts)) (Err (fault.Count at))) (sym (length-map parts reading)) ∙ e)

same_number : (n k : ℕ) → (n == k) ≡ true → n ≡ k
same_number n k h = grind (arith, nat_tests)

pub one_back : {X : Type 0} (at : ℕ) (s : Sort) (makes : Value s → X) (parts : List Sexp) (x : X) → form_as at (form (s ∷ []) nothing makes) (map reading parts) ≡ Ok x → OneBack s makes parts x
one_back at s makes parts x e =
    let back = counted at (form (s ∷ []) nothing makes) parts x e in
    cases parts (same_number (length parts) 1 back.0) back.1 where
      cases : (parts : List Sexp) → length parts ≡ 1 → parts_as at (s ∷ []) nothing makes (map reading parts) ≡ Ok x → OneBack s makes parts x
      cases [] n f = absurd (omega arith)
      cases (a ∷ []) n f =
          let first = came_from (reading a s) (λ v. Ok (makes v)) x f in
          record { a = a; v = first.0; is = refl; first = first.1; made = ok_value (makes first.0) x first.2 }
      cases (a ∷ b ∷ parts) n f = absurd (omega arith)

pub two_back : {X : Type 0} (at : ℕ) (s t : Sort) (makes : Value s → Value t → X) (parts : List Sexp) (x : X) → form_as at (form (s ∷ t ∷ []) nothing makes) (map reading parts) ≡ Ok x → TwoBack s t makes parts x
two_back at s t makes parts x e =
    let back = counted at (form (s ∷ t ∷ []) nothing makes) parts x e in
    cases parts (same_number (length parts) 2 back.0) back.1 where
      cases : (parts : List Sexp) → length parts ≡ 2 → parts_as at (s ∷ t ∷ []) nothing makes (map reading parts) ≡ Ok x → TwoBack s t makes parts x
      cases [] n f = absurd (omega arith)
      cases (a ∷ []) n f = absurd (omega arith)
      cases (a ∷ b ∷ []) n f =
          let first = came_from (reading a s) (λ v. and_then (reading b t) (λ w. Ok (makes v w))) x f in
          let second = came_from (reading b t) (λ w. Ok (makes first.0 w)) x first.2 in
          record { a = a; b = b; v = first.0; w = second.0; is = refl; first = first.1; second = second.1; made = ok_value (makes first.0 second.0) x second.2 }
      cases (a ∷ b ∷ c ∷ parts) n f = absurd (omega arith)

pub three_back : {X : Type 0} (at : ℕ) (s t u : Sort) (makes : Value s → Value t → Value u → X) (parts : List Sexp) (x : X) → form_as at (form (s ∷ t ∷ u ∷ []) nothing makes) (map reading parts) ≡ Ok x → ThreeBack s t u makes parts x
three_back at s t u makes parts x e =
    let back = counted at (form (s ∷ t ∷ u ∷ []) nothing makes) parts x e in
    cases parts (same_number (length parts) 3 back.0) back.1 where
      cases : (parts : List Sexp) → length parts ≡ 3 → parts_as at (s ∷ t ∷ u ∷ []) nothing makes (map reading parts) ≡ Ok x → ThreeBack s t u makes parts x
      cases [] n f = absurd (omega arith)
      cases (a ∷ []) n f = absurd (omega arith)
      cases (a ∷ b ∷ []) n f = absurd (omega arith)
      cases (a ∷ b ∷ c ∷ []) n f =
          let first = came_from (reading a s) (λ v. and_then (reading b t) (λ w. and_then (reading c u) (λ y. Ok (makes v w y)))) x f in
          let second = came_from (reading b t) (λ w. and_then (reading c u) (λ y. Ok (makes first.0 w y))) x first.2 in
          let third = came_from (reading c u) (λ y. Ok (makes first.0 second.0 y)) x second.2 in
          record {
            a = a;
            b = b;
            c = c;
            v = first.0;
            w = second.0;
            y = third.0;
            is = refl;
            first = first.1;
            second = second.1;
            third = third.1;
            made = ok_value (makes first.0 second.0 third.0) x third.2;
          }
      cases (a ∷ b ∷ c ∷ d ∷ parts) n f = absurd (omega arith)

pub all_back : {X : Type 0} (at : ℕ) (so_many : ℕ → Bool) (sort : Sort) (makes : List (Value sort) → X) (parts : List Sexp) (x : X) → form_as at (form [] (further so_many sort) makes) (map reading parts) ≡ Ok x
    → AllBack so_many sort makes parts x
all_back at so_many sort makes parts x e =
    let back = counted at (form [] (further so_many sort) makes) parts x e in
    let each = came_from (each_as sort (map reading parts)) (λ values. Ok (makes values)) x back.1 in
    let same : length parts - 0 ≡ length parts = omega arith in
    record { values = each.0; few = subst (λ n. so_many n ≡ true) same (and_parts (nat_le 0 (length parts)) (so_many (length parts - 0)) back.0).1; each = each.1; made = ok_value (makes each.0) x each.2 }

pub and_all_back : {X : Type 0} (at : ℕ) (s sort : Sort) (makes : Value s → List (Value sort) → X) (parts : List Sexp) (x : X) → form_as at (form (s ∷ []) (further any sort) makes) (map reading parts) ≡ Ok x
    → AndAllBack s sort makes parts x
and_all_back at s sort makes parts x e = cases parts (counted at (form (s ∷ []) (further any sort) makes) parts x e).1 where
  cases : (parts : List Sexp) → parts_as at (s ∷ []) (further any sort) makes (map reading parts) ≡ Ok x → AndAllBack s sort makes parts x
  cases [] f = absurd (err_value (fault.Count at) x f)
  cases (a ∷ rest) f =
      let first = came_from (reading a s) (λ v. and_then (each_as sort (map reading rest)) (λ values. Ok (makes v values))) x f in
      let each = came_from (each_as sort (map reading rest)) (λ values. Ok (makes first.0 values)) x first.2 in
      record { a = a; rest = rest; v = first.0; values = each.0; is = refl; first = first.1; each = each.1; made = ok_value (makes first.0 each.0) x each.2 }

pub two_all_back : {X : Type 0} (at : ℕ) (s t sort : Sort) (makes : Value s → Value t → List (Value sort) → X) (parts : List Sexp) (x : X)
    → form_as at (form (s ∷ t ∷ []) (further few_handlers sort) makes) (map reading parts) ≡ Ok x → TwoAllBack s t sort makes parts x
two_all_back at s t sort makes parts x e =
    let back = counted at (form (s ∷ t ∷ []) (further few_handlers sort) makes) parts x e in
    cases parts back.0 back.1 where
      few_rest : (n : ℕ) → nat_le 2 (suc (suc n)) && nat_le (suc (suc n) - 2) MOST_HANDLERS ≡ true → n ≤ MOST_HANDLERS
      few_rest n h = let test : nat_le (suc (suc n) - 2) MOST_HANDLERS ≡ true = (and_parts (nat_le 2 (suc (suc n))) (nat_le (suc (suc n) - 2) MOST_HANDLERS) h).1 in grind (arith, nat_tests)

      cases : (parts : List Sexp) → may_have (s ∷ t ∷ []) (further few_handlers sort) (length parts) ≡ true → parts_as at (s ∷ t ∷ []) (further few_handlers sort) makes (map reading parts) ≡ Ok x → TwoAllBack s t sort makes parts x
      cases [] n f = absurd (err_value (fault.Count at) x f)
      cases (a ∷ []) n f =
          let first = came_from (reading a s) (λ v. err_of (fault.Count at)) x f in
          absurd (err_value (fault.Count at) x first.2)
      cases (a ∷ b ∷ rest) n f =
          let first = came_from (reading a s) (λ v. and_then (reading b t) (λ w. and_then (each_as sort (map reading rest)) (λ values. Ok (makes v w values)))) x f in
          let second = came_from (reading b t) (λ w. and_then (each_as sort (map reading rest)) (λ values. Ok (makes first.0 w values))) x first.2 in
          let each = came_from (each_as sort (map reading rest)) (λ values. Ok (makes first.0 second.0 values)) x second.2 in
          record {
            a = a;
            b = b;
            rest = rest;
            v = first.0;
            w = second.0;
            values = each.0;
            is = refl;
            few = few_rest (length rest) n;
            first = first.1;
            second = second.1;
            each = each.1;
            made = ok_value (makes first.0 second.0 each.0) x each.2;
          }
