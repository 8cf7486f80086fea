-- What is answered for an item from what is answered for its word or its parts.
use Rattle.std.proofs.Common.{◌≡◌, ℕ, false, List, map, Result, Err, sym, ap, subst, ◌∙◌}
use Rattle.ff_text.specs.declared.items.Sexp.{Sexp}
use Rattle.ff_forms.specs.Faults.{word_may_be, string_may_be, list_may_be, misplaced}
use Rattle.ff_forms.specs.Grammar.{Sort, Value, Gives, reading, word_as, parts_in_list_as}
use Rattle.ff_forms.specs.declared.fault.SyntaxFault.{SyntaxFault}
use Rattle.ff_forms.specs.declared.fault.SyntaxFault.TheVariants as fault
use Rattle.ff_reading.specs.Shapes.{IsWordAt, IsListAt, IsNoWord, a_string_for_a_word, a_list_for_a_word, IsNoList, a_word_for_a_list, a_string_for_a_list}
use Rattle.ff_reading.proofs.Layers.{word_layer, list_layer, reading-Word, reading-Str, reading-List}
use Rattle.ff_reading.proofs.Refused.{word_wrong, string_wrong, list_wrong}

pub word_answers : (item : Sexp) (from : ℕ) (word : List ℕ) (which : Sort) → IsWordAt item from word → reading item which ≡ word_as from word which
word_answers item from word which it = word_layer item it.at word which it.is ∙ ap (λ n. word_as n word which) (sym it.place)

pub list_answers : (item : Sexp) (from : ℕ) (parts : List Sexp) (which : Sort) → IsListAt item from parts → reading item which ≡ parts_in_list_as from (map reading parts) which
list_answers item from parts which it = list_layer item it.at parts which it.is ∙ ap (λ n. parts_in_list_as n (map reading parts) which) (sym it.place)

pub word_given : (item : Sexp) (from : ℕ) (word : List ℕ) (which : Sort) (given : Result (Value which) SyntaxFault) → IsWordAt item from word → Gives given (word_as from word which) → Gives given (reading item which)
word_given item from word which given it gives = subst (Gives given) (sym (word_answers item from word which it)) gives

pub list_given : (item : Sexp) (from : ℕ) (parts : List Sexp) (which : Sort) (given : Result (Value which) SyntaxFault) → IsListAt item from parts → Gives given (parts_in_list_as from (map reading parts) which)
    → Gives given (reading item which)
list_given item from parts which given it gives = subst (Gives given) (sym (list_answers item from parts which it)) gives

-- an item that is no word, where only a word may be
pub no_word_refused : (item : Sexp) (found : SyntaxFault) (which : Sort) → ((at : ℕ) → misplaced which at ≡ fault.Place at) → string_may_be which ≡ false → list_may_be which ≡ false → IsNoWord item found
    → reading item which ≡ Err found
no_word_refused _ _ which place string list (a_string_for_a_word at text) = reading-Str at text which ∙ string_wrong which at.from text string ∙ ap (λ (f : SyntaxFault). Err f) (place at.from)
no_word_refused _ _ which place string list (a_list_for_a_word at parts) = reading-List at parts which ∙ list_wrong which at.from parts list ∙ ap (λ (f : SyntaxFault). Err f) (place at.from)

-- an item that is no list, where only a list may be
pub no_list_refused : (item : Sexp) (found : SyntaxFault) (which : Sort) → ((at : ℕ) → misplaced which at ≡ fault.Place at) → word_may_be which ≡ false → string_may_be which ≡ false → IsNoList item found
    → reading item which ≡ Err found
no_list_refused _ _ which place word string (a_word_for_a_list at text) = reading-Word at text which ∙ word_wrong which at.from text word ∙ ap (λ (f : SyntaxFault). Err f) (place at.from)
no_list_refused _ _ which place word string (a_string_for_a_list at text) = reading-Str at text which ∙ string_wrong which at.from text string ∙ ap (λ (f : SyntaxFault). Err f) (place at.from)
