-- One layer of an item, as what it is read.
use Rattle.std.proofs.Common.{◌≡◌, ℕ, List, map, Result, ap, sym, subst}
use denote.Hole.Carrier
use Rattle.ff_text.specs.declared.items.Span.{Span}
use Rattle.ff_text.specs.declared.items.Sexp.{Sexp}
use Rattle.ff_text.specs.declared.items.Sexp.TheVariants as sexp
use Rattle.ff_text.specs.declared.items.Sexp.TheOpen.{Sexp-F}
use Rattle.ff_text.specs.declared.items.Sexp.TheViews.{roll-Sexp}
use Rattle.ff_text.specs.declared.items.Sexp.TheFolds.{fold-roll-Sexp}
use Rattle.ff_forms.specs.Grammar.{Sort, Value, Reading, Gives, item_as, word_as, string_as, parts_in_list_as, reading}
use Rattle.ff_forms.specs.declared.fault.SyntaxFault.{SyntaxFault}

pub reading-Word : (at : Span) (word : List ℕ) (sort : Sort) → reading (sexp.Word at word) sort ≡ word_as at.from word sort
unfolding reading roll-Sexp denote.Hole.Carrier.roll
reading-Word at word sort = ap (λ (r : Reading). r sort) (fold-roll-Sexp Reading item_as (Sexp-F.Word at word))

pub reading-Str : (at : Span) (text : List ℕ) (sort : Sort) → reading (sexp.Str at text) sort ≡ string_as at.from text sort
unfolding reading roll-Sexp denote.Hole.Carrier.roll
reading-Str at text sort = ap (λ (r : Reading). r sort) (fold-roll-Sexp Reading item_as (Sexp-F.Str at text))

pub reading-List : (at : Span) (parts : List Sexp) (sort : Sort) → reading (sexp.List at parts) sort ≡ parts_in_list_as at.from (map reading parts) sort
unfolding reading roll-Sexp denote.Hole.Carrier.roll
reading-List at parts sort = ap (λ (r : Reading). r sort) (fold-roll-Sexp Reading item_as (Sexp-F.List at parts))

pub word_layer : (item : Sexp) (at : Span) (word : List ℕ) (sort : Sort) → item ≡ sexp.Word at word → reading item sort ≡ word_as at.from word sort
word_layer item at word sort e = rw e (reading-Word at word sort)

pub string_layer : (item : Sexp) (at : Span) (text : List ℕ) (sort : Sort) → item ≡ sexp.Str at text → reading item sort ≡ string_as at.from text sort
string_layer item at text sort e = rw e (reading-Str at text sort)

pub list_layer : (item : Sexp) (at : Span) (parts : List Sexp) (sort : Sort) → item ≡ sexp.List at parts → reading item sort ≡ parts_in_list_as at.from (map reading parts) sort
list_layer item at parts sort e = rw e (reading-List at parts sort)

-- what is given for a layer is given for the item

pub word_gives : (item : Sexp) (at : Span) (word bytes : List ℕ) (sort : Sort) (given : Result (Value sort) SyntaxFault) → item ≡ sexp.Word at word → bytes ≡ word → Gives given (word_as at.from bytes sort) → Gives given (reading item sort)
word_gives item at word bytes sort given e same gives =
    subst (Gives given) (sym (word_layer item at word sort e)) (subst (λ bs. Gives given (word_as at.from bs sort)) same gives)

pub list_gives : (item : Sexp) (at : Span) (parts items : List Sexp) (sort : Sort) (given : Result (Value sort) SyntaxFault) → item ≡ sexp.List at parts → items ≡ parts → Gives given (parts_in_list_as at.from (map reading items) sort) → Gives given (reading item sort)
list_gives item at parts items sort given e same gives =
    subst (Gives given) (sym (list_layer item at parts sort e)) (subst (λ (ps : List Sexp). Gives given (parts_in_list_as at.from (map reading ps) sort)) same gives)
