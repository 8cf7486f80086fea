-- What has a first fault is refused, with that fault.
use Rattle.std.proofs.Common.{◌≡◌, ◌≢◌, ◌||◌, ℕ, ℤ, Bool, true, false, List, [], ◌∷◌, ◌++◌, map, length, codes, Option, Some, None, ok_or, Result, Ok, Err, cond, FitsSigned, refl, sym, ap, subst, ◌∙◌}
use Rattle.std.specs.Int.{w64}
use Rattle.std.specs.List.{list_any}
use Rattle.std.specs.Str.{bytes_eq}
use Rattle.std.proofs.lemmas.List.{length-map}
use Rattle.std.proofs.lemmas.Slice.Eq.{bytes_eq-Decides}
use Rattle.ff_number.specs.Decimal.{num_text}
use Rattle.ff_name.specs.Spelling.{IsName}
use Rattle.ff_name.specs.Address.{Spells}
use Rattle.ff_name.specs.Reading.{is_name, read_url}
use Rattle.ff_name.specs.declared.urls.Url.{Url}
use Rattle.ff_name.proofs.Reading.{IsName-from, read_url_spelled}
use Rattle.ff_tree.specs.declared.tree.Lit.TheVariants as lit
use Rattle.ff_tree.specs.declared.tree.Expr.TheVariants as expr
use Rattle.ff_text.specs.declared.items.Span.{Span}
use Rattle.ff_text.specs.declared.items.Sexp.{Sexp}
use Rattle.ff_text.specs.declared.items.Sexp.TheVariants.{Word, List as Parens}
use Rattle.ff_number.specs.Numbers.{read_num}
use Rattle.ff_forms.specs.Words.{is_literal, is_variable, looks_like_number}
use Rattle.ff_forms.specs.Heads.{doc_word, expr_word, handler_word, resp_word, cookie_word, doc_heads, expr_heads, handler_heads, resp_heads, cookie_heads}
use Rattle.ff_name.specs.Words.{with_word}
use Rattle.ff_forms.specs.Grammar as grammar
use Rattle.ff_forms.specs.Grammar.{Sort, Value, Placed, Form, Further, further, Making, may_have, and_then, reading, each_as, parts_as, form_as, list_as, word_as, string_as, parts_in_list_as, parameters_as, one_parameter_as, number_as, name_as_expression, word_as_expression, doc_form, expr_form, resp_form, cookie_form, handler_form}
use Rattle.ff_forms.specs.Faults as first
use Rattle.ff_forms.specs.Faults.{word_may_be, string_may_be, list_may_be, misplaced, has_forms, HasForm, of_documents, of_expressions, of_handlers, of_responses, of_cookies, Reached, the_first, a_later, the_first_further, a_later_further, FirstFault}
use Rattle.ff_forms.specs.declared.fault.SyntaxFault.{SyntaxFault}
use Rattle.ff_forms.specs.declared.fault.SyntaxFault.TheVariants as fault
use Rattle.ff_reading.proofs.Layers.{reading-Word, reading-Str, reading-List}
use Rattle.ff_reading.proofs.Numbering.{number_spelled}
use Rattle.ff_reading.proofs.Given.{parameter_item, parameters_after, none_before}
use Rattle.ff_reading.proofs.Completes.{after_literals, doc_list, expr_list, handler_list, resp_list, cookie_list}
use Rattle.ff_reading.proofs.Backs.{IsVar-from, err_of, find_passes}
use Rattle.ff_reading.proofs.Sorts.{spelled_read}

fails : (t : Bool) → (t ≡ true → ⊥) → t ≡ false
fails true isnt = absurd (isnt refl)
fails false isnt = refl

-- words

pub word_wrong : (which : Sort) (at : ℕ) (word : List ℕ) → word_may_be which ≡ false → word_as at word which ≡ Err (misplaced which at)
word_wrong grammar.a_name at word off = cc
word_wrong grammar.a_variable at word off = cc
word_wrong grammar.a_parameter at word off = cc
word_wrong grammar.an_address at word off = cc
word_wrong grammar.an_expression at word off = cc
word_wrong grammar.a_head at word off = cc
word_wrong grammar.a_string at word off = refl
word_wrong grammar.a_document at word off = refl
word_wrong grammar.a_handler at word off = refl
word_wrong grammar.a_response at word off = refl
word_wrong grammar.a_cookie at word off = refl
word_wrong grammar.cookies at word off = refl
word_wrong grammar.parameters at word off = refl
word_wrong grammar.one_parameter at word off = refl

pub string_wrong : (which : Sort) (at : ℕ) (text : List ℕ) → string_may_be which ≡ false → string_as at text which ≡ Err (misplaced which at)
string_wrong grammar.a_string at text off = cc
string_wrong grammar.an_expression at text off = cc
string_wrong grammar.a_name at text off = refl
string_wrong grammar.a_variable at text off = refl
string_wrong grammar.a_parameter at text off = refl
string_wrong grammar.an_address at text off = refl
string_wrong grammar.a_head at text off = refl
string_wrong grammar.a_document at text off = refl
string_wrong grammar.a_handler at text off = refl
string_wrong grammar.a_response at text off = refl
string_wrong grammar.a_cookie at text off = refl
string_wrong grammar.cookies at text off = refl
string_wrong grammar.parameters at text off = refl
string_wrong grammar.one_parameter at text off = refl

pub list_wrong : (which : Sort) (at : ℕ) (parts : List Sexp) → list_may_be which ≡ false → parts_in_list_as at (map reading parts) which ≡ Err (misplaced which at)
list_wrong grammar.an_expression at parts off = cc
list_wrong grammar.a_document at parts off = cc
list_wrong grammar.a_handler at parts off = cc
list_wrong grammar.a_response at parts off = cc
list_wrong grammar.a_cookie at parts off = cc
list_wrong grammar.cookies at parts off = cc
list_wrong grammar.parameters at parts off = cc
list_wrong grammar.one_parameter at parts off = cc
list_wrong grammar.a_name at parts off = refl
list_wrong grammar.a_variable at parts off = refl
list_wrong grammar.a_parameter at parts off = refl
list_wrong grammar.an_address at parts off = refl
list_wrong grammar.a_string at parts off = refl
list_wrong grammar.a_head at parts off = refl

-- a literal is a name and no number
literal_word : (word : List ℕ) → is_literal word ≡ true → (is_name word ≡ true) × (looks_like_number word ≡ false)
literal_word word e = null (bytes_eq word (codes "null")) refl e where
  as_word : (text : List ℕ) → bytes_eq word text ≡ true → (is_name text ≡ true) × (looks_like_number text ≡ false) → (is_name word ≡ true) × (looks_like_number word ≡ false)
  as_word text same facts = subst (λ w. (is_name w ≡ true) × (looks_like_number w ≡ false)) (sym ((bytes_eq-Decides word text).0 same)) facts

  truth : (t : Bool) → bytes_eq word (codes "true") ≡ t → t || bytes_eq word (codes "false") ≡ true → (is_name word ≡ true) × (looks_like_number word ≡ false)
  truth true same f = as_word (codes "true") same (refl, refl)
  truth false other f = as_word (codes "false") f (refl, refl)

  null : (t : Bool) → bytes_eq word (codes "null") ≡ t → t || bytes_eq word (codes "true") || bytes_eq word (codes "false") ≡ true → (is_name word ≡ true) × (looks_like_number word ≡ false)
  null true same f = as_word (codes "null") same (refl, refl)
  null false other f = truth (bytes_eq word (codes "true")) refl f

no_number_word : (at : ℕ) (word : List ℕ) → looks_like_number word ≡ true → ((n : ℤ) → FitsSigned w64 n → word ≢ num_text n) → word_as_expression at word ≡ Err (fault.Number at)
no_number_word at word looks other =
    after_literals at word (fails (is_literal word) (λ e. looks_not looks (literal_word word e).1))
    ∙ ap (λ t. cond t (number_as at word) (name_as_expression at word)) looks
    ∙ ap (λ (o : Option ℤ). and_then (ok_or o (fault.Number at)) (λ n. Ok (expr.Lit (lit.Num n)))) (none (read_num word) refl)
  where
    looks_not : looks_like_number word ≡ true → looks_like_number word ≡ false → ⊥
    looks_not e f = cc

    none : (o : Option ℤ) → read_num word ≡ o → read_num word ≡ None
    none (Some n) e = let spelled = number_spelled word n e in absurd (other n spelled.0 spelled.1)
    none None e = e

no_name_word : (at : ℕ) (word : List ℕ) → looks_like_number word ≡ false → (IsName word → ⊥) → word_as_expression at word ≡ Err (fault.Name at)
no_name_word at word looks other =
    after_literals at word (fails (is_literal word) (λ e. other (IsName-from word (literal_word word e).0)))
    ∙ ap (λ t. cond t (number_as at word) (name_as_expression at word)) looks
    ∙ ap (λ t. cond t (Ok (expr.Var word)) (Err (fault.Name at))) (fails (is_name word) (λ e. other (IsName-from word e)))

no_address_word : (at : ℕ) (word : List ℕ) → ((url : Url) → Spells word url → ⊥) → ok_or (read_url word) (fault.Url at) ≡ Err (fault.Url at)
no_address_word at word other = ap (λ (o : Option Url). ok_or o (fault.Url at)) (none (read_url word) refl) where
  none : (o : Option Url) → read_url word ≡ o → read_url word ≡ None
  none (Some url) e = absurd (other url (read_url_spelled word url e))
  none None e = e

-- lists that begin with no word of a form

first_refused : {H X : Type 0} (word_at : H → List ℕ) (heads : List H) (form_at : H → Form X) (at : ℕ) (item : Sexp) (parts : List Sexp) (found : SyntaxFault) → reading item grammar.a_head ≡ Err found
    → list_as word_at heads form_at at (map reading (item ∷ parts)) ≡ Err found
first_refused {H} {X} word_at heads form_at at item parts found e =
    ap (λ (r : Result Placed SyntaxFault). and_then (and_then r (λ placed. ok_or (with_word word_at heads placed.word) (fault.Head placed.from))) (λ head. form_as at (form_at head) (map reading parts))) e

head_refused : {H X : Type 0} (which : Sort) (word_at : H → List ℕ) (heads : List H) (form_at : H → Form X) → ((head : H) → HasForm which (word_at head) (form_at head).sorts (form_at head).more)
    → (at : ℕ) (h : Span) (word : List ℕ) (parts : List Sexp) → ((sorts : List Sort) (more : Further) → HasForm which word sorts more → ⊥)
    → list_as word_at heads form_at at (map reading (Word h word ∷ parts)) ≡ Err (fault.Head h.from)
head_refused {H} {X} which word_at heads form_at forms at h word parts other =
    ap (λ (r : Result Placed SyntaxFault). and_then (and_then r (λ placed. ok_or (with_word word_at heads placed.word) (fault.Head placed.from))) (λ head. form_as at (form_at head) (map reading parts))) (reading-Word h word grammar.a_head)
    ∙ ap (λ (o : Option H). and_then (ok_or o (fault.Head h.from)) (λ head. form_as at (form_at head) (map reading parts))) (none (with_word word_at heads word) refl)
  where
    none : (o : Option H) → with_word word_at heads word ≡ o → with_word word_at heads word ≡ None
    none (Some head) e =
        let same : word_at head ≡ word = (bytes_eq-Decides (word_at head) word).0 (find_passes (λ k. bytes_eq (word_at k) word) heads head e) in
        absurd (other (form_at head).sorts (form_at head).more (subst (λ w. HasForm which w (form_at head).sorts (form_at head).more) same (forms head)))
    none None e = e

in_list : (which : Sort) (at : Span) (parts : List Sexp) (found : SyntaxFault) → parts_in_list_as at.from (map reading parts) which ≡ Err found → reading (Parens at parts) which ≡ Err found
in_list which at parts found e = reading-List at parts which ∙ e

empty_refused : (which : Sort) (at : Span) → has_forms which ≡ true → parts_in_list_as at.from [] which ≡ Err (fault.Head at.from)
empty_refused grammar.an_expression at has = refl
empty_refused grammar.a_document at has = refl
empty_refused grammar.a_handler at has = refl
empty_refused grammar.a_response at has = refl
empty_refused grammar.a_cookie at has = refl
empty_refused grammar.a_name at has = cc
empty_refused grammar.a_variable at has = cc
empty_refused grammar.a_parameter at has = cc
empty_refused grammar.an_address at has = cc
empty_refused grammar.a_string at has = cc
empty_refused grammar.a_head at has = cc
empty_refused grammar.cookies at has = cc
empty_refused grammar.parameters at has = cc
empty_refused grammar.one_parameter at has = cc

no_head_refused : (which : Sort) (at : ℕ) (item : Sexp) (parts : List Sexp) (found : SyntaxFault) → has_forms which ≡ true → reading item grammar.a_head ≡ Err found → parts_in_list_as at (map reading (item ∷ parts)) which ≡ Err found
no_head_refused grammar.an_expression at item parts found has e = first_refused expr_word expr_heads expr_form at item parts found e
no_head_refused grammar.a_document at item parts found has e = first_refused doc_word doc_heads doc_form at item parts found e
no_head_refused grammar.a_handler at item parts found has e = first_refused handler_word handler_heads handler_form at item parts found e
no_head_refused grammar.a_response at item parts found has e = first_refused resp_word resp_heads resp_form at item parts found e
no_head_refused grammar.a_cookie at item parts found has e = first_refused cookie_word cookie_heads cookie_form at item parts found e
no_head_refused grammar.a_name at item parts found has e = cc
no_head_refused grammar.a_variable at item parts found has e = cc
no_head_refused grammar.a_parameter at item parts found has e = cc
no_head_refused grammar.an_address at item parts found has e = cc
no_head_refused grammar.a_string at item parts found has e = cc
no_head_refused grammar.a_head at item parts found has e = cc
no_head_refused grammar.cookies at item parts found has e = cc
no_head_refused grammar.parameters at item parts found has e = cc
no_head_refused grammar.one_parameter at item parts found has e = cc

wrong_head_refused : (which : Sort) (at : ℕ) (h : Span) (word : List ℕ) (parts : List Sexp) → has_forms which ≡ true → ((sorts : List Sort) (more : Further) → HasForm which word sorts more → ⊥)
    → parts_in_list_as at (map reading (Word h word ∷ parts)) which ≡ Err (fault.Head h.from)
wrong_head_refused grammar.an_expression at h word parts has other = head_refused grammar.an_expression expr_word expr_heads expr_form of_expressions at h word parts other
wrong_head_refused grammar.a_document at h word parts has other = head_refused grammar.a_document doc_word doc_heads doc_form of_documents at h word parts other
wrong_head_refused grammar.a_handler at h word parts has other = head_refused grammar.a_handler handler_word handler_heads handler_form of_handlers at h word parts other
wrong_head_refused grammar.a_response at h word parts has other = head_refused grammar.a_response resp_word resp_heads resp_form of_responses at h word parts other
wrong_head_refused grammar.a_cookie at h word parts has other = head_refused grammar.a_cookie cookie_word cookie_heads cookie_form of_cookies at h word parts other
wrong_head_refused grammar.a_name at h word parts has other = cc
wrong_head_refused grammar.a_variable at h word parts has other = cc
wrong_head_refused grammar.a_parameter at h word parts has other = cc
wrong_head_refused grammar.an_address at h word parts has other = cc
wrong_head_refused grammar.a_string at h word parts has other = cc
wrong_head_refused grammar.a_head at h word parts has other = cc
wrong_head_refused grammar.cookies at h word parts has other = cc
wrong_head_refused grammar.parameters at h word parts has other = cc
wrong_head_refused grammar.one_parameter at h word parts has other = cc

-- forms

count_refused : {X : Type 0} (at : ℕ) (f : Form X) (parts : List Sexp) → may_have f.sorts f.more (length parts) ≡ false → form_as at f (map reading parts) ≡ Err (fault.Count at)
count_refused at f parts off = rw (length-map parts reading) (rw off refl)

further_refused : (so_many : ℕ → Bool) (which : Sort) (parts : List Sexp) (wanted : Sort) (part : Sexp) (found : SyntaxFault) → Reached [] (further so_many which) parts wanted part → reading part wanted ≡ Err found
    → each_as which (map reading parts) ≡ Err found
further_refused _ _ _ _ _ found (the_first_further so_many which part parts) e =
    ap (λ (r : Result (Value which) SyntaxFault). and_then r (λ v. and_then (each_as which (map reading parts)) (λ vs. Ok (v ∷ vs)))) e
further_refused _ _ _ _ _ found (a_later_further so_many which part parts value wanted later spells reached) e =
    ap (λ (r : Result (Value which) SyntaxFault). and_then r (λ v. and_then (each_as which (map reading parts)) (λ vs. Ok (v ∷ vs)))) (spelled_read which part value spells)
    ∙ ap (λ (r : Result (List (Value which)) SyntaxFault). and_then r (λ vs. Ok (value ∷ vs))) (further_refused so_many which parts wanted later found reached e)

parts_refused : {X : Type 0} (at : ℕ) (sorts : List Sort) (more : Further) (makes : Making sorts more X) (parts : List Sexp) (wanted : Sort) (part : Sexp) (found : SyntaxFault) → Reached sorts more parts wanted part
    → reading part wanted ≡ Err found → parts_as at sorts more makes (map reading parts) ≡ Err found
parts_refused at _ _ makes _ _ _ found (the_first which sorts more part parts) e =
    ap (λ (r : Result (Value which) SyntaxFault). and_then r (λ v. parts_as at sorts more (makes v) (map reading parts))) e
parts_refused at _ _ makes _ _ _ found (a_later which sorts more part parts value wanted later spells reached) e =
    ap (λ (r : Result (Value which) SyntaxFault). and_then r (λ v. parts_as at sorts more (makes v) (map reading parts))) (spelled_read which part value spells)
    ∙ parts_refused at sorts more (makes value) parts wanted later found reached e
parts_refused at _ _ makes _ _ _ found (the_first_further so_many which part parts) e =
    ap (λ (r : Result (List (Value which)) SyntaxFault). and_then r (λ vs. Ok (makes vs))) (further_refused so_many which (part ∷ parts) which part found (the_first_further so_many which part parts) e)
parts_refused at _ _ makes _ _ _ found (a_later_further so_many which part parts value wanted later spells reached) e =
    ap (λ (r : Result (List (Value which)) SyntaxFault). and_then r (λ vs. Ok (makes vs))) (further_refused so_many which (part ∷ parts) wanted later found (a_later_further so_many which part parts value wanted later spells reached) e)

part_refused : {X : Type 0} (at : ℕ) (f : Form X) (parts : List Sexp) (wanted : Sort) (part : Sexp) (found : SyntaxFault) → may_have f.sorts f.more (length parts) ≡ true
    → Reached f.sorts f.more parts wanted part → reading part wanted ≡ Err found → form_as at f (map reading parts) ≡ Err found
part_refused at f parts wanted part found few reached e =
    rw (length-map parts reading) (rw few (parts_refused at f.sorts f.more f.makes parts wanted part found reached e))

-- the list that begins with the word of a form

count_in_list : (which : Sort) (at h : Span) (word : List ℕ) (sorts : List Sort) (more : Further) (parts : List Sexp) → HasForm which word sorts more → may_have sorts more (length parts) ≡ false
    → reading (Parens at (Word h word ∷ parts)) which ≡ Err (fault.Count at.from)
count_in_list _ at h _ _ _ parts (of_documents head) off = doc_list at h head parts ∙ count_refused at.from (doc_form head) parts off
count_in_list _ at h _ _ _ parts (of_expressions head) off = expr_list at h head parts ∙ count_refused at.from (expr_form head) parts off
count_in_list _ at h _ _ _ parts (of_responses head) off = resp_list at h head parts ∙ count_refused at.from (resp_form head) parts off
count_in_list _ at h _ _ _ parts (of_cookies head) off = cookie_list at h head parts ∙ count_refused at.from (cookie_form head) parts off
count_in_list _ at h _ _ _ parts (of_handlers head) off = handler_list at h head parts ∙ count_refused at.from (handler_form head) parts off

part_in_list : (which : Sort) (at h : Span) (word : List ℕ) (sorts : List Sort) (more : Further) (parts : List Sexp) (wanted : Sort) (part : Sexp) (found : SyntaxFault) → HasForm which word sorts more
    → may_have sorts more (length parts) ≡ true → Reached sorts more parts wanted part → reading part wanted ≡ Err found → reading (Parens at (Word h word ∷ parts)) which ≡ Err found
part_in_list _ at h _ _ _ parts wanted part found (of_documents head) few reached e = doc_list at h head parts ∙ part_refused at.from (doc_form head) parts wanted part found few reached e
part_in_list _ at h _ _ _ parts wanted part found (of_expressions head) few reached e = expr_list at h head parts ∙ part_refused at.from (expr_form head) parts wanted part found few reached e
part_in_list _ at h _ _ _ parts wanted part found (of_responses head) few reached e = resp_list at h head parts ∙ part_refused at.from (resp_form head) parts wanted part found few reached e
part_in_list _ at h _ _ _ parts wanted part found (of_cookies head) few reached e = cookie_list at h head parts ∙ part_refused at.from (cookie_form head) parts wanted part found few reached e
part_in_list _ at h _ _ _ parts wanted part found (of_handlers head) few reached e = handler_list at h head parts ∙ part_refused at.from (handler_form head) parts wanted part found few reached e

-- parameters

one_parameter_refused : (at : ℕ) (parts : List Sexp) → length parts ≢ 1 → one_parameter_as at (map reading parts) ≡ Err (fault.Count at)
one_parameter_refused at [] other = refl
one_parameter_refused at (part ∷ []) other = absurd (other refl)
one_parameter_refused at (part ∷ part' ∷ parts) other = refl

-- the first fault of an item is the one that is answered
pub fault_refused : (which : Sort) (item : Sexp) (found : SyntaxFault) → FirstFault which item found → reading item which ≡ Err found
fault_refused _ _ _ (first.a_wrong_word which at word off) = reading-Word at word which ∙ word_wrong which at.from word off
fault_refused _ _ _ (first.a_wrong_string which at text off) = reading-Str at text which ∙ string_wrong which at.from text off
fault_refused _ _ _ (first.a_wrong_list which at parts off) = reading-List at parts which ∙ list_wrong which at.from parts off
fault_refused _ _ _ (first.no_name at word other) =
    reading-Word at word grammar.a_name ∙ ap (λ t. cond t (Ok word) (Err (fault.Name at.from))) (fails (is_name word) (λ e. other (IsName-from word e)))
fault_refused _ _ _ (first.no_variable at word other) =
    reading-Word at word grammar.a_variable ∙ ap (λ t. cond t (Ok word) (Err (fault.Name at.from))) (fails (is_variable word) (λ e. other (IsVar-from word e)))
fault_refused _ _ _ (first.no_parameter at word other) =
    reading-Word at word grammar.a_parameter ∙ ap (λ t. cond t (Ok (record { from = at.from; word = word })) (Err (fault.Name at.from))) (fails (is_variable word) (λ e. other (IsVar-from word e)))
fault_refused _ _ _ (first.no_address at word other) = reading-Word at word grammar.an_address ∙ no_address_word at.from word other
fault_refused _ _ _ (first.no_number at word looks other) = reading-Word at word grammar.an_expression ∙ no_number_word at.from word looks other
fault_refused _ _ _ (first.no_word at word looks other) = reading-Word at word grammar.an_expression ∙ no_name_word at.from word looks other
fault_refused _ _ _ (first.an_empty_list which at has) = reading-List at [] which ∙ empty_refused which at has
fault_refused _ _ _ (first.no_head which at item parts found has it) =
    in_list which at (item ∷ parts) found (no_head_refused which at.from item parts found has (fault_refused grammar.a_head item found it))
fault_refused _ _ _ (first.a_wrong_head which at h word parts has other) = in_list which at (Word h word ∷ parts) (fault.Head h.from) (wrong_head_refused which at.from h word parts has other)
fault_refused _ _ _ (first.a_wrong_count which at h word sorts more parts form off) = count_in_list which at h word sorts more parts form off
fault_refused _ _ _ (first.a_wrong_part which at h word sorts more parts wanted part found form few reached it) =
    part_in_list which at h word sorts more parts wanted part found form few reached (fault_refused wanted part found it)
fault_refused _ _ _ (first.a_wrong_cookie at parts wanted part found reached it) =
    in_list grammar.cookies at parts found (further_refused _ grammar.a_cookie parts wanted part found reached (fault_refused wanted part found it))
fault_refused _ _ _ (first.no_one_parameter at parts other) = in_list grammar.one_parameter at parts (fault.Count at.from) (one_parameter_refused at.from parts other)
fault_refused _ _ _ (first.a_wrong_one_parameter at part found it) = in_list grammar.one_parameter at (part ∷ []) found (fault_refused grammar.a_variable part found it)
fault_refused _ _ _ (first.a_wrong_parameter at before names part after found words params it) =
    in_list grammar.parameters at (before ++ part ∷ after) found
    (parameters_after [] before names (part ∷ after) words params.vars params.differ (none_before names)
    ∙ ap (λ (r : Result Placed SyntaxFault). and_then (and_then r (λ p. cond (list_any (bytes_eq p.word) names) (Err (fault.Name p.from)) (Ok p.word))) (λ x. parameters_as (names ++ x ∷ []) (map reading after)))
    (fault_refused grammar.a_parameter part found it))
fault_refused _ _ _ (first.a_parameter_again at p before names word after words params var again) =
    in_list grammar.parameters at (before ++ Word p word ∷ after) (fault.Name p.from)
    (parameters_after [] before names (Word p word ∷ after) words params.vars params.differ (none_before names)
    ∙ ap (λ (r : Result Placed SyntaxFault). and_then (and_then r (λ q. cond (list_any (bytes_eq q.word) names) (Err (fault.Name q.from)) (Ok q.word))) (λ x. parameters_as (names ++ x ∷ []) (map reading after)))
    (parameter_item p word var)
    ∙ ap (λ t. and_then (cond t (err_of (fault.Name p.from)) (Ok word)) (λ x. parameters_as (names ++ x ∷ []) (map reading after))) again)
