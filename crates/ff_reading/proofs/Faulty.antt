-- Where reading refuses, the item's first fault is the one that is answered.
use Rattle.std.proofs.Common.{◌≡◌, ◌≢◌, ◌==◌, ◌-◌, ℕ, ℤ, suc, Bool, true, false, nat_le, List, [], ◌∷◌, ◌++◌, map, length, codes, Option, Some, None, ok_or, Result, Ok, Err, cond, FitsSigned, refl, sym, ap, subst, ◌∙◌, append_assoc, arith}
use Rattle.std.specs.Int.{w64}
use Rattle.std.specs.List.{list_any}
use Rattle.std.specs.Str.{bytes_eq}
use Rattle.std.proofs.lemmas.List.{length-map}
use Rattle.std.proofs.lemmas.Bool.{and_parts, and_from}
use Rattle.std.proofs.lemmas.Bool.Decides.{nat_tests}
use Rattle.ff_number.specs.Decimal.{num_text}
use Rattle.ff_name.specs.Reading.{is_name, read_url}
use Rattle.ff_name.specs.declared.urls.Url.{Url}
use Rattle.ff_name.proofs.Reading.{is_name-from, read_url_found}
use Rattle.ff_tree.specs.Spelled.{IsVar, AreParams}
use Rattle.ff_tree.specs.declared.tree.Lit.TheVariants as lit
use Rattle.ff_tree.specs.declared.tree.Expr.TheVariants as expr
use Rattle.ff_text.specs.declared.items.Span.{Span}
use Rattle.ff_text.specs.declared.items.Sexp.{Sexp}
use Rattle.ff_text.specs.declared.items.Sexp.TheVariants.{Word, Str, List as Parens}
use Rattle.ff_text.proofs.Layers.{Each, items_ind}
use Rattle.ff_number.specs.Numbers.{read_num}
use Rattle.ff_forms.specs.Words.{is_variable, looks_like_number}
use Rattle.ff_forms.specs.Heads.{doc_word, expr_word, resp_word, cookie_word, handler_word, doc_own, expr_own, handler_own, resp_own, cookie_own, doc_heads, expr_heads, handler_heads, resp_heads, cookie_heads}
use Rattle.ff_name.specs.Words.{with_word}
use Rattle.ff_forms.specs.Grammar as sort
use Rattle.ff_forms.specs.Grammar.{Sort, Value, Placed, Form, Further, nothing, further, any, Making, may_have, and_then, reading, each_as, parts_as, form_as, head_as, list_as, word_as, string_as, parts_in_list_as, parameters_as, one_parameter_as, number_as, name_as_expression, word_as_expression, doc_form, expr_form, resp_form, cookie_form, handler_form}
use Rattle.ff_forms.specs.Spellings.{AreWords, no_words, a_word}
use Rattle.ff_forms.specs.Faults as first
use Rattle.ff_forms.specs.Faults.{has_forms, HasForm, of_documents, of_expressions, of_responses, of_cookies, of_handlers, Reached, the_first, a_later, the_first_further, a_later_further, FirstFault}
use Rattle.ff_forms.specs.declared.fault.SyntaxFault.{SyntaxFault}
use Rattle.ff_forms.specs.declared.fault.SyntaxFault.TheVariants as fault
use Rattle.ff_forms.specs.declared.heads.DocHead.{DocHead}
use Rattle.ff_forms.specs.declared.heads.ExprHead.{ExprHead}
use Rattle.ff_forms.specs.declared.heads.RespHead.{RespHead}
use Rattle.ff_forms.specs.declared.heads.CookieHead.{CookieHead}
use Rattle.ff_forms.specs.declared.heads.HandlerHead.{HandlerHead}
use Rattle.ff_reading.proofs.Layers.{reading-Word, reading-Str, reading-List}
use Rattle.ff_reading.proofs.Numbering.{number_found}
use Rattle.ff_reading.proofs.Given.{is_variable-from, parameter_item, parameters_after, none_before}
use Rattle.ff_reading.proofs.Backs.{IsOne, is_word, is_string, is_list, item_cases, ok_of, err_of, head_case, named_back}
use Rattle.ff_reading.proofs.Sorts.{read_spelled}

-- answers

both : (t : Bool) → t ≡ true → t ≡ false → ⊥
both true e f = cc
both false e f = cc

pub same_fault : {X : Type 0} (which found : SyntaxFault) → err_of {X = X} which ≡ Err found → which ≡ found
same_fault which found e = cc

no_fault : {X : Type 0} (x : X) (found : SyntaxFault) → ok_of x ≡ Err found → ⊥
no_fault x found e = cc

-- a test that fails, and its fault
failed : {X : Type 0} (test : Bool) (x : X) (which found : SyntaxFault) → cond test (Ok x) (Err which) ≡ Err found → (test ≡ false) × (which ≡ found)
failed true x which found e = cc
failed false x which found e = (refl, same_fault which found e)

missing : {X : Type 0} (o : Option X) (which found : SyntaxFault) → ok_or o which ≡ Err found → (o ≡ None) × (which ≡ found)
missing (Some x) which found e = cc
missing None which found e = (refl, same_fault which found e)

-- a fault of a step that is followed by one that has none
through : {X Y : Type 0} (r : Result X SyntaxFault) (next : X → Y) (found : SyntaxFault) → and_then r (λ x. Ok (next x)) ≡ Err found → r ≡ Err found
through (Ok x) next found e = cc
through (Err which) next found e = ap (λ (f : SyntaxFault). err_of f) (same_fault which found e)

-- words

expression_fault : (at : Span) (word : List ℕ) (found : SyntaxFault) → word_as_expression at.from word ≡ Err found → FirstFault sort.an_expression (Word at word) found
expression_fault at word found e = null (bytes_eq word (codes "null")) e where
  by_look : (b : Bool) → looks_like_number word ≡ b → cond b (number_as at.from word) (name_as_expression at.from word) ≡ Err found → FirstFault sort.an_expression (Word at word) found
  by_look true looks f =
      let none = missing (read_num word) (fault.Number at.from) found (through (ok_or (read_num word) (fault.Number at.from)) (λ n. expr.Lit (lit.Num n)) found f) in
      let other : (n : ℤ) → FitsSigned w64 n → word ≢ num_text n = λ n fits same. absurd (some_none n (sym (number_found n fits) ∙ ap read_num (sym same) ∙ none.0)) in
      subst (FirstFault sort.an_expression (Word at word)) none.1 (first.no_number at word looks other)
    where
      some_none : (n : ℤ) → Some n ≡ None → ⊥
      some_none n g = cc
  by_look false looks f =
      let test = failed (is_name word) (expr.Var word) (fault.Name at.from) found f in
      subst (FirstFault sort.an_expression (Word at word)) test.1 (first.no_word at word looks (λ name. both (is_name word) (is_name-from word name) test.0))

  falsehood : (b : Bool) → cond b (Ok (expr.Lit (lit.Bool false))) (cond (looks_like_number word) (number_as at.from word) (name_as_expression at.from word)) ≡ Err found → FirstFault sort.an_expression (Word at word) found
  falsehood true g = absurd (no_fault (expr.Lit (lit.Bool false)) found g)
  falsehood false g = by_look (looks_like_number word) refl g

  truth : (b : Bool) → cond b (Ok (expr.Lit (lit.Bool true))) (cond (bytes_eq word (codes "false")) (Ok (expr.Lit (lit.Bool false))) (cond (looks_like_number word) (number_as at.from word) (name_as_expression at.from word))) ≡ Err found
      → FirstFault sort.an_expression (Word at word) found
  truth true g = absurd (no_fault (expr.Lit (lit.Bool true)) found g)
  truth false g = falsehood (bytes_eq word (codes "false")) g

  null : (b : Bool) → cond b (Ok (expr.Lit lit.Null)) (cond (bytes_eq word (codes "true")) (Ok (expr.Lit (lit.Bool true))) (cond (bytes_eq word (codes "false")) (Ok (expr.Lit (lit.Bool false))) (cond (looks_like_number word) (number_as at.from word) (name_as_expression at.from word)))) ≡ Err found
      → FirstFault sort.an_expression (Word at word) found
  null true g = absurd (no_fault (expr.Lit lit.Null) found g)
  null false g = truth (bytes_eq word (codes "true")) g

word_fault : (which : Sort) (at : Span) (word : List ℕ) (found : SyntaxFault) → word_as at.from word which ≡ Err found → FirstFault which (Word at word) found
word_fault sort.a_name at word found e =
    let test = failed (is_name word) word (fault.Name at.from) found e in
    subst (FirstFault sort.a_name (Word at word)) test.1 (first.no_name at word (λ name. both (is_name word) (is_name-from word name) test.0))
word_fault sort.a_variable at word found e =
    let test = failed (is_variable word) word (fault.Name at.from) found e in
    subst (FirstFault sort.a_variable (Word at word)) test.1 (first.no_variable at word (λ var. both (is_variable word) (is_variable-from word var) test.0))
word_fault sort.a_parameter at word found e =
    let here : Placed = record { from = at.from; word = word } in
    let test = failed (is_variable word) here (fault.Name at.from) found e in
    subst (FirstFault sort.a_parameter (Word at word)) test.1 (first.no_parameter at word (λ var. both (is_variable word) (is_variable-from word var) test.0))
word_fault sort.an_address at word found e =
    let none = missing (read_url word) (fault.Url at.from) found e in
    subst (FirstFault sort.an_address (Word at word)) none.1 (first.no_address at word (λ url spells. some_none url (sym (read_url_found word url spells) ∙ none.0)))
  where
    some_none : (url : Url) → Some url ≡ None → ⊥
    some_none url f = cc
word_fault sort.an_expression at word found e = expression_fault at word found e
word_fault sort.a_head at word found e = cc
word_fault sort.a_string at word found e = subst (FirstFault sort.a_string (Word at word)) (same_fault (fault.Place at.from) found e) (first.a_wrong_word sort.a_string at word refl)
word_fault sort.a_document at word found e = subst (FirstFault sort.a_document (Word at word)) (same_fault (fault.Place at.from) found e) (first.a_wrong_word sort.a_document at word refl)
word_fault sort.a_handler at word found e = subst (FirstFault sort.a_handler (Word at word)) (same_fault (fault.Place at.from) found e) (first.a_wrong_word sort.a_handler at word refl)
word_fault sort.a_response at word found e = subst (FirstFault sort.a_response (Word at word)) (same_fault (fault.Place at.from) found e) (first.a_wrong_word sort.a_response at word refl)
word_fault sort.a_cookie at word found e = subst (FirstFault sort.a_cookie (Word at word)) (same_fault (fault.Place at.from) found e) (first.a_wrong_word sort.a_cookie at word refl)
word_fault sort.cookies at word found e = subst (FirstFault sort.cookies (Word at word)) (same_fault (fault.Place at.from) found e) (first.a_wrong_word sort.cookies at word refl)
word_fault sort.parameters at word found e = subst (FirstFault sort.parameters (Word at word)) (same_fault (fault.Place at.from) found e) (first.a_wrong_word sort.parameters at word refl)
word_fault sort.one_parameter at word found e = subst (FirstFault sort.one_parameter (Word at word)) (same_fault (fault.Place at.from) found e) (first.a_wrong_word sort.one_parameter at word refl)

-- strings

string_fault : (which : Sort) (at : Span) (text : List ℕ) (found : SyntaxFault) → string_as at.from text which ≡ Err found → FirstFault which (Str at text) found
string_fault sort.a_string at text found e = cc
string_fault sort.an_expression at text found e = cc
string_fault sort.a_head at text found e = subst (FirstFault sort.a_head (Str at text)) (same_fault (fault.Head at.from) found e) (first.a_wrong_string sort.a_head at text refl)
string_fault sort.a_name at text found e = subst (FirstFault sort.a_name (Str at text)) (same_fault (fault.Place at.from) found e) (first.a_wrong_string sort.a_name at text refl)
string_fault sort.a_variable at text found e = subst (FirstFault sort.a_variable (Str at text)) (same_fault (fault.Place at.from) found e) (first.a_wrong_string sort.a_variable at text refl)
string_fault sort.a_parameter at text found e = subst (FirstFault sort.a_parameter (Str at text)) (same_fault (fault.Place at.from) found e) (first.a_wrong_string sort.a_parameter at text refl)
string_fault sort.an_address at text found e = subst (FirstFault sort.an_address (Str at text)) (same_fault (fault.Place at.from) found e) (first.a_wrong_string sort.an_address at text refl)
string_fault sort.a_document at text found e = subst (FirstFault sort.a_document (Str at text)) (same_fault (fault.Place at.from) found e) (first.a_wrong_string sort.a_document at text refl)
string_fault sort.a_handler at text found e = subst (FirstFault sort.a_handler (Str at text)) (same_fault (fault.Place at.from) found e) (first.a_wrong_string sort.a_handler at text refl)
string_fault sort.a_response at text found e = subst (FirstFault sort.a_response (Str at text)) (same_fault (fault.Place at.from) found e) (first.a_wrong_string sort.a_response at text refl)
string_fault sort.a_cookie at text found e = subst (FirstFault sort.a_cookie (Str at text)) (same_fault (fault.Place at.from) found e) (first.a_wrong_string sort.a_cookie at text refl)
string_fault sort.cookies at text found e = subst (FirstFault sort.cookies (Str at text)) (same_fault (fault.Place at.from) found e) (first.a_wrong_string sort.cookies at text refl)
string_fault sort.parameters at text found e = subst (FirstFault sort.parameters (Str at text)) (same_fault (fault.Place at.from) found e) (first.a_wrong_string sort.parameters at text refl)
string_fault sort.one_parameter at text found e = subst (FirstFault sort.one_parameter (Str at text)) (same_fault (fault.Place at.from) found e) (first.a_wrong_string sort.one_parameter at text refl)

-- parts

-- a part at fault, after parts that are spelled
record FaultyPart (sorts : List Sort) (more : Further) (parts : List Sexp) (found : SyntaxFault) : Type 0 where
  wanted : Sort
  part : Sexp
  reached : Reached sorts more parts wanted part
  at_fault : FirstFault wanted part found

-- what refuses an item names its first fault, whatever it is to be
abbrev Names : Sexp → Type 0
Names item = (which : Sort) (found : SyntaxFault) → reading item which ≡ Err found → FirstFault which item found

further_fault : (so_many : ℕ → Bool) (which : Sort) (parts : List Sexp) → Each Names parts → (found : SyntaxFault) → each_as which (map reading parts) ≡ Err found → FaultyPart [] (further so_many which) parts found
further_fault so_many which [] each found e = cc
further_fault so_many which (part ∷ parts) each found e = by_part (reading part which) refl e (further_fault so_many which parts each.1 found) where
  by_part : (r : Result (Value which) SyntaxFault) → reading part which ≡ r → and_then r (λ v. and_then (each_as which (map reading parts)) (λ vs. Ok (v ∷ vs))) ≡ Err found
      → (each_as which (map reading parts) ≡ Err found → FaultyPart [] (further so_many which) parts found) → FaultyPart [] (further so_many which) (part ∷ parts) found
  by_part (Err this) is f rest = record {
    wanted = which;
    part = part;
    reached = the_first_further so_many which part parts;
    at_fault = each.0 which found (is ∙ ap (λ (g : SyntaxFault). err_of g) (same_fault this found f));
  }
  by_part (Ok value) is f rest =
      let later = rest (through (each_as which (map reading parts)) (λ vs. value ∷ vs) found f) in
      record {
        wanted = later.wanted;
        part = later.part;
        reached = a_later_further so_many which part parts value later.wanted later.part (read_spelled which part value is) later.reached;
        at_fault = later.at_fault;
      }

none_left : (which : Sort) (sorts : List Sort) (more : Further) → may_have (which ∷ sorts) more 0 ≡ true → ⊥
none_left which sorts nothing n = let no : (0 == suc (length sorts)) ≡ true = n in absurd (grind (arith, nat_tests))
none_left which sorts (further so_many sort) n = let no : nat_le (suc (length sorts)) 0 ≡ true = (and_parts _ _ n).0 in absurd (grind (arith, nat_tests))

one_less : (which : Sort) (sorts : List Sort) (more : Further) (n : ℕ) → may_have (which ∷ sorts) more (suc n) ≡ true → may_have sorts more n ≡ true
one_less which sorts nothing n h = let more : (suc n == suc (length sorts)) ≡ true = h in grind (arith, nat_tests)
one_less which sorts (further so_many sort) n h =
    let tests = and_parts (nat_le (suc (length sorts)) (suc n)) (so_many (suc n - suc (length sorts))) h in
    let fewer : nat_le (suc (length sorts)) (suc n) ≡ true = tests.0 in
    let same : suc n - suc (length sorts) ≡ n - length sorts = omega arith in
    let test : nat_le (length sorts) n ≡ true = grind (arith, nat_tests) in
    and_from _ _ test (subst (λ k. so_many k ≡ true) same tests.1)

parts_fault : {X : Type 0} (at : ℕ) (sorts : List Sort) (more : Further) (makes : Making sorts more X) (parts : List Sexp) → may_have sorts more (length parts) ≡ true → Each Names parts → (found : SyntaxFault)
    → parts_as at sorts more makes (map reading parts) ≡ Err found → FaultyPart sorts more parts found
parts_fault at [] nothing makes parts few each found e = cc
parts_fault at [] (further so_many which) makes parts few each found e =
    further_fault so_many which parts each found (through (each_as which (map reading parts)) makes found e)
parts_fault at (which ∷ sorts) more makes [] few each found e = absurd (none_left which sorts more few)
parts_fault at (which ∷ sorts) more makes (part ∷ parts) few each found e =
    by_part (reading part which) refl e (λ value. parts_fault at sorts more (makes value) parts (one_less which sorts more (length parts) few) each.1 found)
  where
    by_part : (r : Result (Value which) SyntaxFault) → reading part which ≡ r → and_then r (λ v. parts_as at sorts more (makes v) (map reading parts)) ≡ Err found
        → ((value : Value which) → parts_as at sorts more (makes value) (map reading parts) ≡ Err found → FaultyPart sorts more parts found) → FaultyPart (which ∷ sorts) more (part ∷ parts) found
    by_part (Err this) is f rest = record {
      wanted = which;
      part = part;
      reached = the_first which sorts more part parts;
      at_fault = each.0 which found (is ∙ ap (λ (g : SyntaxFault). err_of g) (same_fault this found f));
    }
    by_part (Ok value) is f rest =
        let later = rest value f in
        record {
          wanted = later.wanted;
          part = later.part;
          reached = a_later which sorts more part parts value later.wanted later.part (read_spelled which part value is) later.reached;
          at_fault = later.at_fault;
        }

-- lists that begin with the word of a form

form_fault : {X : Type 0} (which : Sort) (at h : Span) (word : List ℕ) (f : Form X) (parts : List Sexp) → HasForm which word f.sorts f.more → Each Names parts → (found : SyntaxFault)
    → form_as at.from f (map reading parts) ≡ Err found → FirstFault which (Parens at (Word h word ∷ parts)) found
form_fault which at h word f parts form each found e =
    by_count (may_have f.sorts f.more (length parts)) refl
    (ap (λ n. cond (may_have f.sorts f.more n) (parts_as at.from f.sorts f.more f.makes (map reading parts)) (Err (fault.Count at.from))) (sym (length-map parts reading)) ∙ e)
  where
    by_count : (t : Bool) → may_have f.sorts f.more (length parts) ≡ t → cond t (parts_as at.from f.sorts f.more f.makes (map reading parts)) (Err (fault.Count at.from)) ≡ Err found
        → FirstFault which (Parens at (Word h word ∷ parts)) found
    by_count true few g =
        let it = parts_fault at.from f.sorts f.more f.makes parts few each found g in
        first.a_wrong_part which at h word f.sorts f.more parts it.wanted it.part found form few it.reached it.at_fault
    by_count false few g = subst (FirstFault which (Parens at (Word h word ∷ parts))) (same_fault (fault.Count at.from) found g) (first.a_wrong_count which at h word f.sorts f.more parts form few)

-- a table of forms, each word of which finds its form
record IsTable (which : Sort) (H : Type 0) (word_at : H → List ℕ) (heads : List H) (sorts_at : H → List Sort) (more_at : H → Further) : Type 0 where
  listed : has_forms which ≡ true
  found : (head : H) → with_word word_at heads (word_at head) ≡ Some head
  forms : (head : H) → HasForm which (word_at head) (sorts_at head) (more_at head)
  only : (word : List ℕ) (sorts : List Sort) (more : Further) → HasForm which word sorts more → (head : H) × (word ≡ word_at head)

head_fault : {H : Type 0} (which : Sort) (word_at : H → List ℕ) (heads : List H) (sorts_at : H → List Sort) (more_at : H → Further) → IsTable which H word_at heads sorts_at more_at
    → (at : Span) (item : Sexp) → IsOne item → (parts : List Sexp) → Names item → (found : SyntaxFault) → head_as word_at heads (reading item) ≡ Err found → FirstFault which (Parens at (item ∷ parts)) found
head_fault {H} which word_at heads sorts_at more_at table at _ (is_word h word) parts names found e =
    let none = missing (with_word word_at heads word) (fault.Head h.from) found
    (sym (ap (λ (r : Result Placed SyntaxFault). and_then r (λ p. ok_or (with_word word_at heads p.word) (fault.Head p.from))) (reading-Word h word sort.a_head)) ∙ e) in
    let other : (sorts : List Sort) (more : Further) → HasForm which word sorts more → ⊥ = λ sorts more form.
    let it = table.only word sorts more form in
    some_none it.0 (sym (table.found it.0) ∙ ap (with_word word_at heads) (sym it.1) ∙ none.0) in
    subst (FirstFault which (Parens at (Word h word ∷ parts))) none.1 (first.a_wrong_head which at h word parts table.listed other)
  where
    some_none : (head : H) → Some head ≡ None → ⊥
    some_none head f = cc
head_fault which word_at heads sorts_at more_at table at _ (is_string h text) parts names found e =
    let own : reading (Str h text) sort.a_head ≡ Err found = reading-Str h text sort.a_head ∙ ap (λ (g : SyntaxFault). err_of g) (same_fault (fault.Head h.from) found
    (sym (ap (λ (r : Result Placed SyntaxFault). and_then r (λ p. ok_or (with_word word_at heads p.word) (fault.Head p.from))) (reading-Str h text sort.a_head)) ∙ e)) in
    first.no_head which at (Str h text) parts found table.listed (names sort.a_head found own)
head_fault which word_at heads sorts_at more_at table at _ (is_list h inner) parts names found e =
    let own : reading (Parens h inner) sort.a_head ≡ Err found = reading-List h inner sort.a_head ∙ ap (λ (g : SyntaxFault). err_of g) (same_fault (fault.Head h.from) found
    (sym (ap (λ (r : Result Placed SyntaxFault). and_then r (λ p. ok_or (with_word word_at heads p.word) (fault.Head p.from))) (reading-List h inner sort.a_head)) ∙ e)) in
    first.no_head which at (Parens h inner) parts found table.listed (names sort.a_head found own)

list_fault : {H X : Type 0} (which : Sort) (word_at : H → List ℕ) (heads : List H) (form_at : H → Form X) → IsTable which H word_at heads (λ head. (form_at head).sorts) (λ head. (form_at head).more)
    → (at : Span) (parts : List Sexp) → Each Names parts → (found : SyntaxFault) → list_as word_at heads form_at at.from (map reading parts) ≡ Err found → FirstFault which (Parens at parts) found
list_fault which word_at heads form_at table at [] each found e =
    subst (FirstFault which (Parens at [])) (same_fault (fault.Head at.from) found e) (first.an_empty_list which at table.listed)
list_fault {H} {X} which word_at heads form_at table at (item ∷ parts) each found e = by_head (head_as word_at heads (reading item)) refl e where
  by_head : (r : Result H SyntaxFault) → head_as word_at heads (reading item) ≡ r → and_then r (λ head. form_as at.from (form_at head) (map reading parts)) ≡ Err found → FirstFault which (Parens at (item ∷ parts)) found
  by_head (Err this) is f =
      head_fault which word_at heads (λ head. (form_at head).sorts) (λ head. (form_at head).more) table at item (item_cases item) parts each.0 found (is ∙ ap (λ (g : SyntaxFault). err_of g) (same_fault this found f))
  by_head (Ok head) is f =
      let has = head_case word_at heads item (item_cases item) head is in
      subst (λ (i : Sexp). FirstFault which (Parens at (i ∷ parts)) found) (sym has.is)
      (form_fault which at has.at (word_at head) (form_at head) parts (table.forms head) each.1 found f)

doc_only : (word : List ℕ) (sorts : List Sort) (more : Further) → HasForm sort.a_document word sorts more → (head : DocHead) × (word ≡ doc_word head)
doc_only _ _ _ (of_documents head) = (head, refl)

expr_only : (word : List ℕ) (sorts : List Sort) (more : Further) → HasForm sort.an_expression word sorts more → (head : ExprHead) × (word ≡ expr_word head)
expr_only _ _ _ (of_expressions head) = (head, refl)

resp_only : (word : List ℕ) (sorts : List Sort) (more : Further) → HasForm sort.a_response word sorts more → (head : RespHead) × (word ≡ resp_word head)
resp_only _ _ _ (of_responses head) = (head, refl)

cookie_only : (word : List ℕ) (sorts : List Sort) (more : Further) → HasForm sort.a_cookie word sorts more → (head : CookieHead) × (word ≡ cookie_word head)
cookie_only _ _ _ (of_cookies head) = (head, refl)

handler_only : (word : List ℕ) (sorts : List Sort) (more : Further) → HasForm sort.a_handler word sorts more → (head : HandlerHead) × (word ≡ handler_word head)
handler_only _ _ _ (of_handlers head) = (head, refl)

-- parameters

words_after : (before : List Sexp) (names : List (List ℕ)) (at : Span) (word : List ℕ) → AreWords before names → AreWords (before ++ Word at word ∷ []) (names ++ word ∷ [])
words_after _ _ at word no_words = a_word at word [] [] no_words
words_after _ _ at word (a_word p x items names words) = a_word p x (items ++ Word at word ∷ []) (names ++ word ∷ []) (words_after items names at word words)

params_after : (before : List Sexp) (names : List (List ℕ)) (at : Span) (word : List ℕ) → AreWords before names → AreParams names → IsVar word → list_any (bytes_eq word) names ≡ false → AreParams (names ++ word ∷ [])
params_after before names at word words params var other =
    let read : parameters_as [] (map reading (before ++ Word at word ∷ [])) ≡ Ok (names ++ word ∷ []) =
    parameters_after [] before names (Word at word ∷ []) words params.vars params.differ (none_before names)
    ∙ ap (λ (r : Result Placed SyntaxFault). and_then (and_then r (λ p. cond (list_any (bytes_eq p.word) names) (Err (fault.Name p.from)) (Ok p.word))) (λ x. Ok (names ++ x ∷ []))) (parameter_item at word var)
    ∙ ap (λ t. and_then (cond t (err_of (fault.Name at.from)) (Ok word)) (λ x. Ok (names ++ x ∷ []))) other in
    let named = named_back [] (before ++ Word at word ∷ []) (names ++ word ∷ []) read in
    subst AreParams (sym named.joined) (record { vars = named.vars; differ = named.differ })

parameters_fault : (at : Span) (before : List Sexp) (names : List (List ℕ)) → AreWords before names → AreParams names → (parts : List Sexp) → Each Names parts → (found : SyntaxFault)
    → parameters_as names (map reading parts) ≡ Err found → FirstFault sort.parameters (Parens at (before ++ parts)) found
parameters_fault at before names words params [] each found e = cc
parameters_fault at before names words params (part ∷ parts) each found e =
    by_part (reading part sort.a_parameter) refl e (λ p word are differ. parameters_fault at (before ++ Word p word ∷ []) (names ++ word ∷ []) are differ parts each.1 found)
  where
    answer : Result Placed SyntaxFault → Result (List (List ℕ)) SyntaxFault
    answer r = and_then (and_then r (λ p. cond (list_any (bytes_eq p.word) names) (Err (fault.Name p.from)) (Ok p.word))) (λ x. parameters_as (names ++ x ∷ []) (map reading parts))

    Later : Type 0
    Later = (p : Span) (word : List ℕ) → AreWords (before ++ Word p word ∷ []) (names ++ word ∷ []) → AreParams (names ++ word ∷ []) → parameters_as (names ++ word ∷ []) (map reading parts) ≡ Err found
        → FirstFault sort.parameters (Parens at ((before ++ Word p word ∷ []) ++ parts)) found

    by_part : (r : Result Placed SyntaxFault) → reading part sort.a_parameter ≡ r → answer r ≡ Err found → Later → FirstFault sort.parameters (Parens at (before ++ part ∷ parts)) found
    by_part (Err this) is f later =
        first.a_wrong_parameter at before names part parts found words params (each.0 sort.a_parameter found (is ∙ ap (λ (g : SyntaxFault). err_of g) (same_fault this found f)))
    by_part (Ok placed) is f later = placed_one part placed (read_spelled sort.a_parameter part placed is) f where
      placed_one : (item : Sexp) (p : Placed) → first.SpellsPlaced IsVar item p → answer (Ok p) ≡ Err found → FirstFault sort.parameters (Parens at (before ++ item ∷ parts)) found
      placed_one _ _ (first.a_placed_word p word var) g = by_test (list_any (bytes_eq word) names) refl g where
        by_test : (t : Bool) → list_any (bytes_eq word) names ≡ t → and_then (cond t (Err (fault.Name p.from)) (ok_of word)) (λ x. parameters_as (names ++ x ∷ []) (map reading parts)) ≡ Err found
            → FirstFault sort.parameters (Parens at (before ++ Word p word ∷ parts)) found
        by_test true again k = subst (FirstFault sort.parameters (Parens at (before ++ Word p word ∷ parts))) (same_fault (fault.Name p.from) found k) (first.a_parameter_again at p before names word parts words params var again)
        by_test false other k =
            subst (λ (ps : List Sexp). FirstFault sort.parameters (Parens at ps) found) (append_assoc before (Word p word ∷ []) parts)
            (later p word (words_after before names p word words) (params_after before names p word words params var other) k)

one_parameter_fault : (at : Span) (parts : List Sexp) → Each Names parts → (found : SyntaxFault) → one_parameter_as at.from (map reading parts) ≡ Err found → FirstFault sort.one_parameter (Parens at parts) found
one_parameter_fault at [] each found e =
    subst (FirstFault sort.one_parameter (Parens at [])) (same_fault (fault.Count at.from) found e) (first.no_one_parameter at [] (λ n. absurd (omega (arith, n))))
one_parameter_fault at (part ∷ []) each found e = first.a_wrong_one_parameter at part found (each.0 sort.a_variable found e)
one_parameter_fault at (part ∷ part' ∷ parts) each found e =
    subst (FirstFault sort.one_parameter (Parens at (part ∷ part' ∷ parts))) (same_fault (fault.Count at.from) found e) (first.no_one_parameter at (part ∷ part' ∷ parts) (λ n. absurd (omega (arith, n))))

-- lists

in_list_fault : (which : Sort) (at : Span) (parts : List Sexp) → Each Names parts → (found : SyntaxFault) → parts_in_list_as at.from (map reading parts) which ≡ Err found → FirstFault which (Parens at parts) found
in_list_fault sort.a_document at parts each found e =
    list_fault sort.a_document doc_word doc_heads doc_form (record { listed = refl; found = doc_own; forms = of_documents; only = doc_only }) at parts each found e
in_list_fault sort.an_expression at parts each found e =
    list_fault sort.an_expression expr_word expr_heads expr_form (record { listed = refl; found = expr_own; forms = of_expressions; only = expr_only }) at parts each found e
in_list_fault sort.a_response at parts each found e =
    list_fault sort.a_response resp_word resp_heads resp_form (record { listed = refl; found = resp_own; forms = of_responses; only = resp_only }) at parts each found e
in_list_fault sort.a_cookie at parts each found e =
    list_fault sort.a_cookie cookie_word cookie_heads cookie_form (record { listed = refl; found = cookie_own; forms = of_cookies; only = cookie_only }) at parts each found e
in_list_fault sort.a_handler at parts each found e =
    list_fault sort.a_handler handler_word handler_heads handler_form (record { listed = refl; found = handler_own; forms = of_handlers; only = handler_only }) at parts each found e
in_list_fault sort.cookies at parts each found e =
    let it = further_fault any sort.a_cookie parts each found e in
    first.a_wrong_cookie at parts it.wanted it.part found it.reached it.at_fault
in_list_fault sort.parameters at parts each found e = parameters_fault at [] [] no_words (record { vars = tt; differ = tt }) parts each found e
in_list_fault sort.one_parameter at parts each found e = one_parameter_fault at parts each found e
in_list_fault sort.a_head at parts each found e = subst (FirstFault sort.a_head (Parens at parts)) (same_fault (fault.Head at.from) found e) (first.a_wrong_list sort.a_head at parts refl)
in_list_fault sort.a_name at parts each found e = subst (FirstFault sort.a_name (Parens at parts)) (same_fault (fault.Place at.from) found e) (first.a_wrong_list sort.a_name at parts refl)
in_list_fault sort.a_variable at parts each found e = subst (FirstFault sort.a_variable (Parens at parts)) (same_fault (fault.Place at.from) found e) (first.a_wrong_list sort.a_variable at parts refl)
in_list_fault sort.a_parameter at parts each found e = subst (FirstFault sort.a_parameter (Parens at parts)) (same_fault (fault.Place at.from) found e) (first.a_wrong_list sort.a_parameter at parts refl)
in_list_fault sort.an_address at parts each found e = subst (FirstFault sort.an_address (Parens at parts)) (same_fault (fault.Place at.from) found e) (first.a_wrong_list sort.an_address at parts refl)
in_list_fault sort.a_string at parts each found e = subst (FirstFault sort.a_string (Parens at parts)) (same_fault (fault.Place at.from) found e) (first.a_wrong_list sort.a_string at parts refl)

-- where reading refuses an item, the first fault is the one that is answered
pub refused_fault : (item : Sexp) (which : Sort) (found : SyntaxFault) → reading item which ≡ Err found → FirstFault which item found
refused_fault item = items_ind Names
    (λ at word which found e. word_fault which at word found (sym (reading-Word at word which) ∙ e))
    (λ at text which found e. string_fault which at text found (sym (reading-Str at text which) ∙ e))
    (λ at parts each which found e. in_list_fault which at parts each found (sym (reading-List at parts which) ∙ e))
    item
