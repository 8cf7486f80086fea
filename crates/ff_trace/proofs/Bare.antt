-- What an item is, known in all but its places.
use Rattle.std.proofs.Common.{◌≡◌, ℕ, List, [], ◌∷◌, map, ap, ◌∙◌}
use Rattle.ff_text.specs.declared.items.Span.{Span}
use Rattle.ff_text.specs.declared.items.Sexp.{Sexp, out-Sexp}
use Rattle.ff_text.specs.declared.items.Sexp.TheVariants as sexp
use Rattle.ff_text.specs.declared.items.Sexp.TheOpen.{Sexp-F}
use Rattle.ff_text.specs.Printed.{bare}
use Rattle.ff_forms.specs.Canonical.{word, string}
use Rattle.ff_printing.proofs.Bare.{word_item, string_item}

-- the item is this word, at some place
pub record IsWordOf (item : Sexp) (text : List ℕ) : Type 0 where
  pub at : Span
  pub is : out-Sexp item ≡ Sexp-F.Word at text

-- the item is a string of this value, at some place
pub record IsStringOf (item : Sexp) (value : List ℕ) : Type 0 where
  pub at : Span
  pub is : out-Sexp item ≡ Sexp-F.Str at value

pub word_from : (item : Sexp) (text : List ℕ) → bare item ≡ bare (word text) → IsWordOf item text
word_from item text e =
    let is = word_item item text e in
    record { at = is.at; is = ap out-Sexp is.is ∙ sexp.outs-Word is.at text }

pub string_from : (item : Sexp) (value : List ℕ) → bare item ≡ bare (string value) → IsStringOf item value
string_from item value e =
    let is = string_item item value e in
    record { at = is.at; is = ap out-Sexp is.is ∙ sexp.outs-Str is.at value }

-- items that are others, in all but their places
pub data Again : List Sexp → List Sexp → Type 0 where
  none : Again [] []
  more : (item given : Sexp) (items others : List Sexp) → bare item ≡ bare given → Again items others → Again (item ∷ items) (given ∷ others)

pub again_from : (items others : List Sexp) → map bare items ≡ map bare others → Again items others
again_from [] [] e = none
again_from [] (given ∷ others) e = cc
again_from (item ∷ items) [] e = cc
again_from (item ∷ items) (given ∷ others) e =
    let heads : bare item ≡ bare given = cc in
    let tails : map bare items ≡ map bare others = cc in
    more item given items others heads (again_from items others tails)
