-- The first fault of an item that is to be of some sort: a fault of the item itself, or the first
-- fault of one of its parts, where every part before that one is well spelled.
use Rattle.std.specs.Prelude.{◌≡◌, ◌≢◌, ℕ, ℤ, Bool, true, false, List, [], ◌∷◌, ◌++◌, length, FitsSigned}
use Rattle.std.specs.Int.{w64}
use Rattle.std.specs.List.{list_any}
use Rattle.std.specs.Str.{bytes_eq}
use Rattle.ff_number.specs.Decimal.{num_text}
use Rattle.ff_name.specs.Spelling.{IsName}
use Rattle.ff_name.specs.Address.{Spells}
use Rattle.ff_name.specs.declared.urls.Url.{Url}
use Rattle.ff_tree.specs.Spelled.{IsVar, AreParams}
use Rattle.ff_value.specs.declared.reply.CookieOp.{CookieOp}
use Rattle.ff_text.specs.declared.items.Span.{Span}
use Rattle.ff_text.specs.declared.items.Sexp.{Sexp}
use Rattle.ff_text.specs.declared.items.Sexp.TheVariants.{Word, Str, List as Parens}
use Rattle.ff_forms.specs.Words.{looks_like_number}
use Rattle.ff_forms.specs.Heads.{doc_word, expr_word, resp_word, cookie_word, handler_word}
use Rattle.ff_forms.specs.Grammar as grammar
use Rattle.ff_forms.specs.Grammar.{Sort, Value, Placed, Further, further, any, may_have, doc_form, expr_form, resp_form, cookie_form, handler_form}
use Rattle.ff_forms.specs.Spellings.{AreWords, SpellsDoc, SpellsExpr, SpellsHandler, SpellsResp, SpellsCookie, SpellsCookies}
use Rattle.ff_forms.specs.declared.fault.SyntaxFault.{SyntaxFault}
use Rattle.ff_forms.specs.declared.fault.SyntaxFault.TheVariants as fault
use Rattle.ff_forms.specs.declared.heads.DocHead.{DocHead}
use Rattle.ff_forms.specs.declared.heads.ExprHead.{ExprHead}
use Rattle.ff_forms.specs.declared.heads.RespHead.{RespHead}
use Rattle.ff_forms.specs.declared.heads.CookieHead.{CookieHead}
use Rattle.ff_forms.specs.declared.heads.HandlerHead.{HandlerHead}

-- WHAT AN ITEM OF EACH SORT SPELLS

-- a word with a property
pub data SpellsWord (P : List ℕ → Type 0) : Sexp → List ℕ → Type 0 where
  a_word_that : (at : Span) (word : List ℕ) → P word → SpellsWord P (Word at word) word

-- a word with a property, and its place
pub data SpellsPlaced (P : List ℕ → Type 0) : Sexp → Placed → Type 0 where
  a_placed_word : (at : Span) (word : List ℕ) → P word → SpellsPlaced P (Word at word) (record { from = at.from; word = word })

-- a word that spells an address
pub data SpellsAddress : Sexp → Url → Type 0 where
  an_address_word : (at : Span) (word : List ℕ) (url : Url) → Spells word url → SpellsAddress (Word at word) url

-- a string
pub data SpellsString : Sexp → List ℕ → Type 0 where
  a_text_string : (at : Span) (text : List ℕ) → SpellsString (Str at text) text

-- a list of cookie entries
pub data SpellsCookieList : Sexp → List CookieOp → Type 0 where
  a_cookie_list : (at : Span) (entries : List Sexp) (cookies : List CookieOp) → SpellsCookies entries cookies → SpellsCookieList (Parens at entries) cookies

-- a list of a function's parameters
pub data SpellsParams : Sexp → List (List ℕ) → Type 0 where
  a_parameter_list : (at : Span) (items : List Sexp) (params : List (List ℕ)) → AreWords items params → AreParams params → SpellsParams (Parens at items) params

-- a list of a handler's one parameter
pub data SpellsParam : Sexp → List ℕ → Type 0 where
  a_list_of_one : (at x : Span) (param : List ℕ) → IsVar param → SpellsParam (Parens at (Word x param ∷ [])) param

-- the item spells the value, as something of this sort
abbrev pub SpellsAs : (which : Sort) → Sexp → Value which → Type 0
SpellsAs grammar.a_name = SpellsWord IsName
SpellsAs grammar.a_variable = SpellsWord IsVar
SpellsAs grammar.an_address = SpellsAddress
SpellsAs grammar.a_string = SpellsString
SpellsAs grammar.an_expression = SpellsExpr
SpellsAs grammar.a_document = SpellsDoc
SpellsAs grammar.a_handler = SpellsHandler
SpellsAs grammar.a_response = SpellsResp
SpellsAs grammar.a_cookie = SpellsCookie
SpellsAs grammar.cookies = SpellsCookieList
SpellsAs grammar.parameters = SpellsParams
SpellsAs grammar.one_parameter = SpellsParam
SpellsAs grammar.a_parameter = SpellsPlaced IsVar
SpellsAs grammar.a_head = SpellsPlaced (λ word. Unit {0})

-- WHAT MAY BE AT FAULT

-- the sorts that a word, a string and a list may be of, whatever they hold

abbrev pub word_may_be : Sort → Bool
word_may_be grammar.a_name = true
word_may_be grammar.a_variable = true
word_may_be grammar.a_parameter = true
word_may_be grammar.an_address = true
word_may_be grammar.an_expression = true
word_may_be grammar.a_head = true
word_may_be _ = false

abbrev pub string_may_be : Sort → Bool
string_may_be grammar.a_string = true
string_may_be grammar.an_expression = true
string_may_be _ = false

abbrev pub list_may_be : Sort → Bool
list_may_be grammar.an_expression = true
list_may_be grammar.a_document = true
list_may_be grammar.a_handler = true
list_may_be grammar.a_response = true
list_may_be grammar.a_cookie = true
list_may_be grammar.cookies = true
list_may_be grammar.parameters = true
list_may_be grammar.one_parameter = true
list_may_be _ = false

-- the fault of an item that can't be of the sort: what heads a list is the list's head
abbrev pub misplaced : Sort → ℕ → SyntaxFault
misplaced grammar.a_head from = fault.Head from
misplaced _ from = fault.Place from

-- the sorts whose lists begin with the word of a form
abbrev pub has_forms : Sort → Bool
has_forms grammar.an_expression = true
has_forms grammar.a_document = true
has_forms grammar.a_handler = true
has_forms grammar.a_response = true
has_forms grammar.a_cookie = true
has_forms _ = false

-- a form of a sort: its word, the sorts of its parts, and what may follow them
pub data HasForm : Sort → List ℕ → List Sort → Further → Type 0 where
  of_documents : (head : DocHead) → HasForm grammar.a_document (doc_word head) (doc_form head).sorts (doc_form head).more
  of_expressions : (head : ExprHead) → HasForm grammar.an_expression (expr_word head) (expr_form head).sorts (expr_form head).more
  of_responses : (head : RespHead) → HasForm grammar.a_response (resp_word head) (resp_form head).sorts (resp_form head).more
  of_cookies : (head : CookieHead) → HasForm grammar.a_cookie (cookie_word head) (cookie_form head).sorts (cookie_form head).more
  of_handlers : (head : HandlerHead) → HasForm grammar.a_handler (handler_word head) (handler_form head).sorts (handler_form head).more

-- one of the parts, with the sort that it is to be of, where all parts before it are spelled
pub data Reached : List Sort → Further → List Sexp → Sort → Sexp → Type 0 where
  the_first : (which : Sort) (sorts : List Sort) (more : Further) (part : Sexp) (parts : List Sexp) → Reached (which ∷ sorts) more (part ∷ parts) which part
  a_later : (which : Sort) (sorts : List Sort) (more : Further) (part : Sexp) (parts : List Sexp) (value : Value which) (wanted : Sort) (later : Sexp)
      → SpellsAs which part value → Reached sorts more parts wanted later → Reached (which ∷ sorts) more (part ∷ parts) wanted later
  the_first_further : (so_many : ℕ → Bool) (which : Sort) (part : Sexp) (parts : List Sexp) → Reached [] (further so_many which) (part ∷ parts) which part
  a_later_further : (so_many : ℕ → Bool) (which : Sort) (part : Sexp) (parts : List Sexp) (value : Value which) (wanted : Sort) (later : Sexp)
      → SpellsAs which part value → Reached [] (further so_many which) parts wanted later → Reached [] (further so_many which) (part ∷ parts) wanted later

-- THE FIRST FAULT

pub data FirstFault : Sort → Sexp → SyntaxFault → Type 0 where
  -- the item can't be of the sort, whatever it holds
  a_wrong_word : (which : Sort) (at : Span) (word : List ℕ) → word_may_be which ≡ false → FirstFault which (Word at word) (misplaced which at.from)
  a_wrong_string : (which : Sort) (at : Span) (text : List ℕ) → string_may_be which ≡ false → FirstFault which (Str at text) (misplaced which at.from)
  a_wrong_list : (which : Sort) (at : Span) (parts : List Sexp) → list_may_be which ≡ false → FirstFault which (Parens at parts) (misplaced which at.from)
  -- a word that is to be a name, a variable or an address and isn't
  no_name : (at : Span) (word : List ℕ) → (IsName word → ⊥) → FirstFault grammar.a_name (Word at word) (fault.Name at.from)
  no_variable : (at : Span) (word : List ℕ) → (IsVar word → ⊥) → FirstFault grammar.a_variable (Word at word) (fault.Name at.from)
  no_parameter : (at : Span) (word : List ℕ) → (IsVar word → ⊥) → FirstFault grammar.a_parameter (Word at word) (fault.Name at.from)
  no_address : (at : Span) (word : List ℕ) → ((url : Url) → Spells word url → ⊥) → FirstFault grammar.an_address (Word at word) (fault.Url at.from)
  -- a word where an expression is wanted: one that begins as a number does has to be one, any other
  -- a name
  no_number : (at : Span) (word : List ℕ) → looks_like_number word ≡ true → ((n : ℤ) → FitsSigned w64 n → word ≢ num_text n) → FirstFault grammar.an_expression (Word at word) (fault.Number at.from)
  no_word : (at : Span) (word : List ℕ) → looks_like_number word ≡ false → (IsName word → ⊥) → FirstFault grammar.an_expression (Word at word) (fault.Name at.from)
  -- a list that begins with no word, or with a word of no form
  an_empty_list : (which : Sort) (at : Span) → has_forms which ≡ true → FirstFault which (Parens at []) (fault.Head at.from)
  no_head : (which : Sort) (at : Span) (first : Sexp) (parts : List Sexp) (found : SyntaxFault) → has_forms which ≡ true → FirstFault grammar.a_head first found → FirstFault which (Parens at (first ∷ parts)) found
  a_wrong_head : (which : Sort) (at h : Span) (word : List ℕ) (parts : List Sexp) → has_forms which ≡ true → ((sorts : List Sort) (more : Further) → HasForm which word sorts more → ⊥)
      → FirstFault which (Parens at (Word h word ∷ parts)) (fault.Head h.from)
  -- a form with a number of parts that it may not have
  a_wrong_count : (which : Sort) (at h : Span) (word : List ℕ) (sorts : List Sort) (more : Further) (parts : List Sexp) → HasForm which word sorts more → may_have sorts more (length parts) ≡ false
      → FirstFault which (Parens at (Word h word ∷ parts)) (fault.Count at.from)
  -- a form with a number of parts that it may have: one of them is at fault, and all before it are
  -- spelled
  a_wrong_part : (which : Sort) (at h : Span) (word : List ℕ) (sorts : List Sort) (more : Further) (parts : List Sexp) (wanted : Sort) (part : Sexp) (found : SyntaxFault)
      → HasForm which word sorts more → may_have sorts more (length parts) ≡ true → Reached sorts more parts wanted part → FirstFault wanted part found
      → FirstFault which (Parens at (Word h word ∷ parts)) found
  -- a cookie entry after others that are spelled
  a_wrong_cookie : (at : Span) (parts : List Sexp) (wanted : Sort) (part : Sexp) (found : SyntaxFault) → Reached [] (further any grammar.a_cookie) parts wanted part → FirstFault wanted part found
      → FirstFault grammar.cookies (Parens at parts) found
  -- a handler has one parameter
  no_one_parameter : (at : Span) (parts : List Sexp) → length parts ≢ 1 → FirstFault grammar.one_parameter (Parens at parts) (fault.Count at.from)
  a_wrong_one_parameter : (at : Span) (part : Sexp) (found : SyntaxFault) → FirstFault grammar.a_variable part found → FirstFault grammar.one_parameter (Parens at (part ∷ [])) found
  -- a parameter after others that differ: one that is at fault itself, or one that stands before
  a_wrong_parameter : (at : Span) (before : List Sexp) (names : List (List ℕ)) (part : Sexp) (after : List Sexp) (found : SyntaxFault) → AreWords before names → AreParams names
      → FirstFault grammar.a_parameter part found → FirstFault grammar.parameters (Parens at (before ++ part ∷ after)) found
  a_parameter_again : (at p : Span) (before : List Sexp) (names : List (List ℕ)) (word : List ℕ) (after : List Sexp) → AreWords before names → AreParams names → IsVar word
      → list_any (bytes_eq word) names ≡ true → FirstFault grammar.parameters (Parens at (before ++ Word p word ∷ after)) (fault.Name p.from)
