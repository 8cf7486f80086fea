-- What an item of each sort spells is what is read of it.
use Rattle.std.proofs.Common.{◌≡◌, Ok, sym, subst, ap, ◌∙◌}
use Rattle.ff_name.specs.Spelling.{IsName}
use Rattle.ff_tree.specs.Spelled.{IsVar}
use Rattle.ff_text.specs.declared.items.Sexp.{Sexp}
use Rattle.ff_text.specs.declared.items.Sexp.TheVariants.{Word, List as Parens}
use Rattle.ff_forms.specs.Grammar as grammar
use Rattle.ff_forms.specs.Grammar.{Sort, Value, Placed, reading}
use Rattle.ff_forms.specs.Words.{is_variable}
use Rattle.ff_forms.specs.Faults.{SpellsAs, SpellsWord, a_word_that, SpellsPlaced, a_placed_word, SpellsAddress, an_address_word, SpellsString, a_text_string, SpellsCookieList, a_cookie_list, SpellsParams, a_parameter_list, SpellsParam, a_list_of_one}
use Rattle.ff_forms.specs.declared.fault.SyntaxFault.TheVariants as fault
use Rattle.ff_reading.proofs.Layers.{reading-Word, reading-Str, reading-List}
use Rattle.ff_reading.proofs.Given.{name_item, variable_item, parameter_item, address_item, string_item, one_parameter_item, parameters_item}
use Rattle.ff_reading.proofs.Completes.{doc_complete, expr_complete, handler_complete, resp_complete, cookie_complete, cookies_complete}
use Rattle.ff_reading.proofs.Backs.{IsOne, is_word, is_string, is_list, item_cases, ok_value, err_value, name_back, variable_back, address_back, passed, IsVar-from, string_back, parameters_back, one_parameter_back}
use Rattle.ff_reading.proofs.Sounds.{spelled_doc, spelled_expr, spelled_handler, spelled_cookie, spelled_cookies, spelled_resp}

-- what is spelled as a sort is read as it
pub spelled_read : (which : Sort) (item : Sexp) (value : Value which) → SpellsAs which item value → reading item which ≡ Ok value
spelled_read grammar.a_name _ _ (a_word_that at word is) = name_item at word is
spelled_read grammar.a_variable _ _ (a_word_that at word is) = variable_item at word is
spelled_read grammar.an_address _ _ (an_address_word at word url spells) = address_item at word url spells
spelled_read grammar.a_string _ _ (a_text_string at text) = string_item at text
spelled_read grammar.an_expression item e spells = expr_complete item e spells
spelled_read grammar.a_document item d spells = doc_complete item d spells
spelled_read grammar.a_handler item h spells = handler_complete item h spells
spelled_read grammar.a_response item r spells = resp_complete item r spells
spelled_read grammar.a_cookie item entry spells = cookie_complete item entry spells
spelled_read grammar.cookies _ _ (a_cookie_list at entries cookies each) = reading-List at entries grammar.cookies ∙ cookies_complete entries cookies each
spelled_read grammar.parameters _ _ (a_parameter_list at items params words are) = parameters_item at items params words are
spelled_read grammar.one_parameter _ _ (a_list_of_one at x param is) = one_parameter_item at x param is
spelled_read grammar.a_parameter _ _ (a_placed_word at word is) = parameter_item at word is
spelled_read grammar.a_head _ _ (a_placed_word at word is) = reading-Word at word grammar.a_head

head_spelled : (item : Sexp) → IsOne item → (placed : Placed) → reading item grammar.a_head ≡ Ok placed → SpellsPlaced (λ word. Unit {0}) item placed
head_spelled _ (is_word at word) placed e =
    let here : Placed = record { from = at.from; word = word } in
    subst (SpellsPlaced (λ w. Unit {0}) (Word at word)) (ok_value here placed (sym (reading-Word at word grammar.a_head) ∙ e)) (a_placed_word at word tt)
head_spelled _ (is_string at text) placed e = absurd (err_value (fault.Head at.from) placed (sym (reading-Str at text grammar.a_head) ∙ e))
head_spelled _ (is_list at parts) placed e = absurd (err_value (fault.Head at.from) placed (sym (reading-List at parts grammar.a_head) ∙ e))

parameter_spelled : (item : Sexp) → IsOne item → (placed : Placed) → reading item grammar.a_parameter ≡ Ok placed → SpellsPlaced IsVar item placed
parameter_spelled _ (is_word at word) placed e =
    let here : Placed = record { from = at.from; word = word } in
    let test = passed (is_variable word) (Ok here) (fault.Name at.from) placed (sym (reading-Word at word grammar.a_parameter) ∙ e) in
    subst (SpellsPlaced IsVar (Word at word)) (ok_value here placed test.1) (a_placed_word at word (IsVar-from word test.0))
parameter_spelled _ (is_string at text) placed e = absurd (err_value (fault.Place at.from) placed (sym (reading-Str at text grammar.a_parameter) ∙ e))
parameter_spelled _ (is_list at parts) placed e = absurd (err_value (fault.Place at.from) placed (sym (reading-List at parts grammar.a_parameter) ∙ e))

-- what is read as a sort is spelled as it
pub read_spelled : (which : Sort) (item : Sexp) (value : Value which) → reading item which ≡ Ok value → SpellsAs which item value
read_spelled grammar.a_name item x e =
    let back = name_back item x e in
    subst (λ (i : Sexp). SpellsWord IsName i x) (sym back.is) (a_word_that back.at x back.holds)
read_spelled grammar.a_variable item x e =
    let back = variable_back item x e in
    subst (λ (i : Sexp). SpellsWord IsVar i x) (sym back.is) (a_word_that back.at x back.holds)
read_spelled grammar.an_address item url e =
    let back = address_back item url e in
    subst (λ (i : Sexp). SpellsAddress i url) (sym back.is) (an_address_word back.at back.word url back.spells)
read_spelled grammar.a_string item text e =
    let back = string_back item text e in
    subst (λ (i : Sexp). SpellsString i text) (sym back.is) (a_text_string back.at text)
read_spelled grammar.an_expression item x e = spelled_expr item x e
read_spelled grammar.a_document item d e = spelled_doc item d e
read_spelled grammar.a_handler item h e = spelled_handler item h e
read_spelled grammar.a_response item r e = spelled_resp item r e
read_spelled grammar.a_cookie item entry e = spelled_cookie item entry e
read_spelled grammar.cookies item entries e =
    let back = spelled_cookies item entries e in
    subst (λ (i : Sexp). SpellsCookieList i entries) (sym back.is) (a_cookie_list back.at back.parts entries back.holds)
read_spelled grammar.parameters item xs e =
    let back = parameters_back item xs e in
    subst (λ (i : Sexp). SpellsParams i xs) (sym back.is) (a_parameter_list back.at back.parts xs back.holds.words back.holds.params)
read_spelled grammar.one_parameter item x e =
    let back = one_parameter_back item x e in
    subst (λ (i : Sexp). SpellsParam i x) (sym (back.is ∙ ap (Parens back.at) back.holds.is)) (a_list_of_one back.at back.holds.at x back.holds.holds)
read_spelled grammar.a_parameter item placed e = parameter_spelled item (item_cases item) placed e
read_spelled grammar.a_head item placed e = head_spelled item (item_cases item) placed e
