-- An item as a word or as a list, and the fault of one that is neither.
use Rattle.std.specs.Prelude.{◌≡◌, ℕ, List}
use Rattle.ff_text.specs.declared.items.Span.{Span}
use Rattle.ff_text.specs.declared.items.Sexp.{Sexp}
use Rattle.ff_text.specs.declared.items.Sexp.TheVariants.{Word, Str, List as Parens}
use Rattle.ff_forms.specs.declared.fault.SyntaxFault.{SyntaxFault}
use Rattle.ff_forms.specs.declared.fault.SyntaxFault.TheVariants as fault

-- the item is this word at this place
pub record IsWordAt (item : Sexp) (from : ℕ) (word : List ℕ) : Type 0 where
  pub at : Span
  pub is : item ≡ Word at word
  pub place : from ≡ at.from

-- the item is a list of these parts at this place
pub record IsListAt (item : Sexp) (from : ℕ) (parts : List Sexp) : Type 0 where
  pub at : Span
  pub is : item ≡ Parens at parts
  pub place : from ≡ at.from

-- the item is no word, and this is its fault where a word is wanted
pub data IsNoWord : Sexp → SyntaxFault → Type 0 where
  a_string_for_a_word : (at : Span) (text : List ℕ) → IsNoWord (Str at text) (fault.Place at.from)
  a_list_for_a_word : (at : Span) (parts : List Sexp) → IsNoWord (Parens at parts) (fault.Place at.from)

-- the item is no list, and this is its fault where a list is wanted
pub data IsNoList : Sexp → SyntaxFault → Type 0 where
  a_word_for_a_list : (at : Span) (word : List ℕ) → IsNoList (Word at word) (fault.Place at.from)
  a_string_for_a_list : (at : Span) (text : List ℕ) → IsNoList (Str at text) (fault.Place at.from)
