-- Which items are documents, expressions and responses, what they stand for, and which fault is met
-- first: tables of the forms that lists may have.
use Rattle.std.specs.Prelude.{ℕ, ◌-◌, Bool, true, false, ◌&&◌, ◌==◌, nat_le, if◌then◌else◌, ok_or, Result, Ok, Err, List, [], ◌∷◌, ◌++◌, length, codes}
use Rattle.std.specs.List.{list_any}
use Rattle.std.specs.Str.{bytes_eq}
use Rattle.ff_contract.specs.Answering.{Answers}
use Rattle.ff_name.specs.declared.urls.Url.{Url}
use Rattle.ff_name.specs.declared.urls.UrlFault.{UrlFault}
use Rattle.ff_name.specs.declared.urls.UrlFault.TheVariants as url_fault
use Rattle.ff_tree.specs.Ops.{arity_of}
use Rattle.ff_tree.specs.declared.tree.Lit.TheVariants as lit
use Rattle.ff_tree.specs.declared.tree.Doc.{Doc}
use Rattle.ff_tree.specs.declared.tree.Doc.TheVariants as doc
use Rattle.ff_tree.specs.declared.tree.Expr.{Expr}
use Rattle.ff_tree.specs.declared.tree.Expr.TheVariants as expr
use Rattle.ff_tree.specs.declared.tree.Handler.{Handler, roll-Handler}
use Rattle.ff_value.specs.declared.reply.CookieOp.{CookieOp}
use Rattle.ff_value.specs.declared.reply.CookieOp.TheVariants as cookie
use Rattle.ff_value.specs.declared.reply.Resp.{Resp}
use Rattle.ff_value.specs.declared.reply.Resp.TheVariants as resp
use Rattle.ff_text.specs.declared.items.Sexp.{Sexp}
use Rattle.ff_text.specs.declared.items.Sexp.TheOpen.{Sexp-F}
use Rattle.ff_text.specs.declared.items.Sexp.TheFolds.{fold-Sexp}
use Rattle.ff_name.specs.Reading.{is_name, read_url}
use Rattle.ff_forms.specs.Heads.{doc_word, expr_word, handler_word, resp_word, cookie_word, doc_heads, expr_heads, handler_heads, resp_heads, cookie_heads}
use Rattle.ff_name.specs.Words.{with_word}
use Rattle.ff_number.specs.Numbers.{read_num}
use Rattle.ff_forms.specs.Words.{is_variable, looks_like_number}
use Rattle.ff_forms.specs.declared.fault.SyntaxFault.{SyntaxFault}
use Rattle.ff_forms.specs.declared.fault.SyntaxFault.TheVariants as fault
use Rattle.ff_forms.specs.declared.heads.DocHead.{DocHead}
use Rattle.ff_forms.specs.declared.heads.DocHead.TheVariants as doc_head
use Rattle.ff_forms.specs.declared.heads.ExprHead.{ExprHead}
use Rattle.ff_forms.specs.declared.heads.ExprHead.TheVariants as expr_head
use Rattle.ff_forms.specs.declared.heads.RespHead.{RespHead}
use Rattle.ff_forms.specs.declared.heads.RespHead.TheVariants as resp_head
use Rattle.ff_forms.specs.declared.heads.CookieHead.{CookieHead}
use Rattle.ff_forms.specs.declared.heads.CookieHead.TheVariants as cookie_head
use Rattle.ff_forms.specs.declared.heads.HandlerHead.{HandlerHead}
use Rattle.ff_tree.specs.declared.limits.TheConstants.{MOST_HANDLERS}

-- what an item may be wanted as
pub data Sort : Type 0 where
  a_name : Sort
  a_variable : Sort
  an_address : Sort
  a_string : Sort
  an_expression : Sort
  a_document : Sort
  a_handler : Sort
  a_response : Sort
  a_cookie : Sort
  -- a list of cookie entries
  cookies : Sort
  -- the list of a function's parameters, which differ
  parameters : Sort
  -- the list of a handler's one parameter
  one_parameter : Sort
  -- a variable, with its place
  a_parameter : Sort
  -- the word that begins a list, with its place
  a_head : Sort

-- a word and the place of its first byte
pub record Placed : Type 0 where
  pub from : ℕ
  pub word : List ℕ

-- what an item of a sort stands for
abbrev pub Value : Sort → Type 0
Value a_name = List ℕ
Value a_variable = List ℕ
Value an_address = Url
Value a_string = List ℕ
Value an_expression = Expr
Value a_document = Doc
Value a_handler = Handler
Value a_response = Resp
Value a_cookie = CookieOp
Value cookies = List CookieOp
Value parameters = List (List ℕ)
Value one_parameter = List ℕ
Value a_parameter = Placed
Value a_head = Placed

-- how many further parts a form has after those of fixed sorts, and of which sort: none, or a
-- number that passes a test
pub data Further : Type 0 where
  nothing : Further
  further : (so_many : ℕ → Bool) (sort : Sort) → Further

-- what makes an X from the values of a form's parts
abbrev pub Making : List Sort → Further → Type 0 → Type 0
Making [] nothing X = X
Making [] (further so_many sort) X = List (Value sort) → X
Making (sort ∷ sorts) more X = Value sort → Making sorts more X

-- a form: the sorts of the parts after its word, what may follow them, and what it stands for
pub record Form (X : Type 0) : Type 0 where
  pub sorts : List Sort
  pub more : Further
  pub makes : Making sorts more X

abbrev pub form : {X : Type 0} (sorts : List Sort) (more : Further) → Making sorts more X → Form X
form sorts more makes = record { sorts = sorts; more = more; makes = makes }

abbrev pub any : ℕ → Bool
any n = true

-- so few handlers that a text box or a button may have them
abbrev pub few_handlers : ℕ → Bool
few_handlers n = nat_le n MOST_HANDLERS

-- THE TABLES: the form that begins with each head

abbrev pub doc_form : DocHead → Form Doc
doc_form doc_head.Text = form (a_name ∷ a_string ∷ []) nothing doc.Text
doc_form doc_head.Link = form (a_name ∷ an_address ∷ a_string ∷ []) nothing doc.Link
doc_form doc_head.TextBox = form (a_name ∷ a_string ∷ []) (further few_handlers a_handler) doc.TextBox
doc_form doc_head.Button = form (a_name ∷ a_string ∷ []) (further few_handlers a_handler) doc.Button
doc_form doc_head.Script = form (a_name ∷ an_expression ∷ []) nothing doc.Script
doc_form doc_head.Src = form (a_name ∷ an_address ∷ []) nothing doc.Src
doc_form doc_head.Div = form (a_name ∷ []) (further any a_document) doc.Div

abbrev pub expr_form : ExprHead → Form Expr
expr_form expr_head.Let = form (a_variable ∷ an_expression ∷ []) nothing expr.Let
expr_form expr_head.Set = form (a_variable ∷ an_expression ∷ []) nothing expr.Set
expr_form expr_head.If = form (an_expression ∷ an_expression ∷ an_expression ∷ []) nothing expr.If
expr_form expr_head.While = form (an_expression ∷ an_expression ∷ []) nothing expr.While
expr_form expr_head.Do = form [] (further any an_expression) expr.Do
expr_form expr_head.And = form (an_expression ∷ an_expression ∷ []) nothing expr.And
expr_form expr_head.Or = form (an_expression ∷ an_expression ∷ []) nothing expr.Or
expr_form expr_head.Make = form (parameters ∷ an_expression ∷ []) nothing expr.Make
expr_form expr_head.Apply = form (an_expression ∷ []) (further any an_expression) expr.Apply
expr_form expr_head.Tree = form (a_document ∷ []) nothing expr.Tree
expr_form (expr_head.Prim o) = form [] (further (λ n. n == arity_of o) an_expression) (expr.Prim o)

abbrev pub resp_form : RespHead → Form Resp
resp_form resp_head.Page = form (cookies ∷ []) (further any a_document) resp.Page
resp_form resp_head.Script = form (cookies ∷ an_expression ∷ []) nothing resp.Script
resp_form resp_head.Data = form (cookies ∷ a_string ∷ []) nothing resp.Data

abbrev pub cookie_form : CookieHead → Form CookieOp
cookie_form cookie_head.Put = form (a_string ∷ a_string ∷ []) nothing cookie.Put
cookie_form cookie_head.Drop = form (a_string ∷ []) nothing cookie.Drop

abbrev pub handler : List ℕ → Expr → Handler
handler param body = roll-Handler (record { param = param; body = body })

abbrev pub handler_form : HandlerHead → Form Handler
handler_form head = form (one_parameter ∷ an_expression ∷ []) nothing handler

-- HOW THE TABLES ARE READ

-- the second where the first is no fault
abbrev pub and_then : {X Y : Type 0} → Result X SyntaxFault → (X → Result Y SyntaxFault) → Result Y SyntaxFault
and_then (Ok x) next = next x
and_then (Err which) next = Err which

-- an item, as what it is read where each sort is wanted
abbrev pub Reading : Type 0
Reading = (sort : Sort) → Result (Value sort) SyntaxFault

-- the items as values of one sort, from the left, each whole before the next
abbrev pub each_as : (sort : Sort) → List Reading → Result (List (Value sort)) SyntaxFault
each_as sort [] = Ok []
each_as sort (part ∷ parts) = and_then (part sort) (λ value. and_then (each_as sort parts) (λ values. Ok (value ∷ values)))

-- whether a form may have so many parts after its word
abbrev pub may_have : List Sort → Further → ℕ → Bool
may_have sorts nothing n = n == length sorts
may_have sorts (further so_many sort) n = nat_le (length sorts) n && so_many (n - length sorts)

-- the parts of a form, from the left, each whole before the next, in a list at a place
abbrev pub parts_as : {X : Type 0} → ℕ → (sorts : List Sort) (more : Further) → Making sorts more X → List Reading → Result X SyntaxFault
parts_as at [] nothing makes parts = Ok makes
parts_as at [] (further so_many sort) makes parts = and_then (each_as sort parts) (λ values. Ok (makes values))
parts_as at (sort ∷ sorts) more makes [] = Err (fault.Count at)
parts_as at (sort ∷ sorts) more makes (part ∷ parts) = and_then (part sort) (λ value. parts_as at sorts more (makes value) parts)

-- the count of the parts is checked before the parts
abbrev pub form_as : {X : Type 0} → ℕ → Form X → List Reading → Result X SyntaxFault
form_as at f parts = if may_have f.sorts f.more (length parts) then parts_as at f.sorts f.more f.makes parts else Err (fault.Count at)

-- the form whose word the first item of a list is
abbrev pub head_as : {H : Type 0} → (H → List ℕ) → List H → Reading → Result H SyntaxFault
head_as word_at heads first = and_then (first a_head) (λ placed. ok_or (with_word word_at heads placed.word) (fault.Head placed.from))

-- a list is checked for its head, and then its form for the rest
abbrev pub list_as : {H X : Type 0} → (H → List ℕ) → List H → (H → Form X) → ℕ → List Reading → Result X SyntaxFault
list_as word_at heads form_at at [] = Err (fault.Head at)
list_as word_at heads form_at at (first ∷ parts) = and_then (head_as word_at heads first) (λ head. form_as at (form_at head) parts)

abbrev pub handler_as : ℕ → List Reading → Result Handler SyntaxFault
handler_as = list_as handler_word handler_heads handler_form

-- a parameter, after those that stand before
abbrev pub parameter_as : List (List ℕ) → Reading → Result (List ℕ) SyntaxFault
parameter_as before part = and_then (part a_parameter) (λ x. if list_any (bytes_eq x.word) before then Err (fault.Name x.from) else Ok x.word)

-- some parameters, after those that stand before
abbrev pub parameters_as : List (List ℕ) → List Reading → Result (List (List ℕ)) SyntaxFault
parameters_as before [] = Ok before
parameters_as before (part ∷ parts) = and_then (parameter_as before part) (λ x. parameters_as (before ++ x ∷ []) parts)

-- the one parameter of a handler, in a list at a place
abbrev pub one_parameter_as : ℕ → List Reading → Result (List ℕ) SyntaxFault
one_parameter_as at (part ∷ []) = part a_variable
one_parameter_as at _ = Err (fault.Count at)

-- a word that has to be a number
abbrev pub number_as : ℕ → List ℕ → Result Expr SyntaxFault
number_as at word = and_then (ok_or (read_num word) (fault.Number at)) (λ n. Ok (expr.Lit (lit.Num n)))

-- a word that has to be a variable, where it is no literal
abbrev pub name_as_expression : ℕ → List ℕ → Result Expr SyntaxFault
name_as_expression at word = if is_name word then Ok (expr.Var word) else Err (fault.Name at)

-- a word where an expression is wanted
abbrev pub word_as_expression : ℕ → List ℕ → Result Expr SyntaxFault
word_as_expression at word =
    if bytes_eq word (codes "null") then Ok (expr.Lit lit.Null)
    else if bytes_eq word (codes "true") then Ok (expr.Lit (lit.Bool true))
    else if bytes_eq word (codes "false") then Ok (expr.Lit (lit.Bool false))
    else if looks_like_number word then number_as at word
    else name_as_expression at word

-- a word at a place, where a sort is wanted
abbrev pub word_as : ℕ → List ℕ → (sort : Sort) → Result (Value sort) SyntaxFault
word_as at word a_name = if is_name word then Ok word else Err (fault.Name at)
word_as at word a_variable = if is_variable word then Ok word else Err (fault.Name at)
word_as at word a_parameter = if is_variable word then Ok (record { from = at; word = word }) else Err (fault.Name at)
word_as at word an_address = ok_or (read_url word) (fault.Url at)
word_as at word an_expression = word_as_expression at word
word_as at word a_head = Ok (record { from = at; word = word })
word_as at word _ = Err (fault.Place at)

-- a string at a place, where a sort is wanted
abbrev pub string_as : ℕ → List ℕ → (sort : Sort) → Result (Value sort) SyntaxFault
string_as at text a_string = Ok text
string_as at text an_expression = Ok (expr.Lit (lit.Str text))
string_as at text a_head = Err (fault.Head at)
string_as at text _ = Err (fault.Place at)

-- a list at a place, where a sort is wanted
abbrev pub parts_in_list_as : ℕ → List Reading → (sort : Sort) → Result (Value sort) SyntaxFault
parts_in_list_as at parts a_document = list_as doc_word doc_heads doc_form at parts
parts_in_list_as at parts an_expression = list_as expr_word expr_heads expr_form at parts
parts_in_list_as at parts a_response = list_as resp_word resp_heads resp_form at parts
parts_in_list_as at parts a_cookie = list_as cookie_word cookie_heads cookie_form at parts
parts_in_list_as at parts a_handler = handler_as at parts
parts_in_list_as at parts cookies = each_as a_cookie parts
parts_in_list_as at parts parameters = parameters_as [] parts
parts_in_list_as at parts one_parameter = one_parameter_as at parts
parts_in_list_as at parts a_head = Err (fault.Head at)
parts_in_list_as at parts _ = Err (fault.Place at)

-- one layer of an item, where its parts are read
abbrev pub item_as : Sexp-F Reading → Reading
item_as (Sexp-F.Word at word) sort = word_as at.from word sort
item_as (Sexp-F.Str at text) sort = string_as at.from text sort
item_as (Sexp-F.List at parts) sort = parts_in_list_as at.from parts sort

-- an item as what it is read where each sort is wanted
unfoldable pub reading : Sexp → Reading
reading = fold-Sexp Reading item_as

-- the document, the expression and the response that an item is, or the first fault
abbrev pub doc_in : Sexp → Result Doc SyntaxFault
doc_in item = reading item a_document

abbrev pub expr_in : Sexp → Result Expr SyntaxFault
expr_in item = reading item an_expression

abbrev pub resp_in : Sexp → Result Resp SyntaxFault
resp_in item = reading item a_response

-- the answer, or else want of memory
abbrev pub Gives : {X : Type 0} → Result X SyntaxFault → Result X SyntaxFault → Type 0
Gives result answer = Answers result answer (Err fault.NoMemory)

-- the fault of a word that is no address, from the fault of reading it as one
abbrev pub address_fault : ℕ → UrlFault → SyntaxFault
address_fault at url_fault.NoMemory = fault.NoMemory
address_fault at _ = fault.Url at
