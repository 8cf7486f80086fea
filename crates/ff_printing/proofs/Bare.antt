-- What an item with known content is, whatever its places are.
use Rattle.std.proofs.Common.{◌≡◌, ℕ, List, [], ◌∷◌, map, refl, sym, ap, subst, ◌∙◌}
use Rattle.ff_text.specs.Notation.{span}
use Rattle.ff_text.specs.Printed.{bare}
use Rattle.ff_text.specs.declared.items.Span.{Span}
use Rattle.ff_text.specs.declared.items.Sexp.{Sexp}
use Rattle.ff_text.specs.declared.items.Sexp.TheVariants as sexp
use Rattle.ff_text.specs.declared.items.Sexp.TheOpen.{Sexp-F}
use Rattle.ff_text.specs.declared.items.Sexp.TheViews.{out-Sexp}
use Rattle.ff_text.proofs.Layers.{bare-Word, bare-Str, bare-List, items_ind}
use Rattle.ff_forms.specs.Canonical.{word, string, parens}

pub record WordItem (item : Sexp) (text : List ℕ) : Type 0 where
  pub at : Span
  pub is : item ≡ sexp.Word at text

pub record StringItem (item : Sexp) (value : List ℕ) : Type 0 where
  pub at : Span
  pub is : item ≡ sexp.Str at value

pub record ListItem (item : Sexp) (bares : List Sexp) : Type 0 where
  pub at : Span
  pub parts : List Sexp
  pub is : item ≡ sexp.List at parts
  pub same : map bare parts ≡ bares

-- what one layer of an item with no places says of an item
abbrev Content : Sexp → Sexp-F Sexp → Type 0
Content item (Sexp-F.Word at text) = WordItem item text
Content item (Sexp-F.Str at value) = StringItem item value
Content item (Sexp-F.List at parts) = ListItem item parts

content : (item : Sexp) → Content item (out-Sexp (bare item))
content = items_ind (λ item. Content item (out-Sexp (bare item)))
    (λ at text. subst (Content (sexp.Word at text)) (sym (ap out-Sexp (bare-Word at text) ∙ sexp.outs-Word (span 0 0) text)) (record { at = at; is = refl }))
    (λ at value. subst (Content (sexp.Str at value)) (sym (ap out-Sexp (bare-Str at value) ∙ sexp.outs-Str (span 0 0) value)) (record { at = at; is = refl }))
    (λ at parts _. subst (Content (sexp.List at parts)) (sym (ap out-Sexp (bare-List at parts) ∙ sexp.outs-List (span 0 0) (map bare parts))) (record { at = at; parts = parts; is = refl; same = refl }))

pub word_item : (item : Sexp) (text : List ℕ) → bare item ≡ bare (word text) → WordItem item text
word_item item text e = subst (Content item) (ap out-Sexp (e ∙ bare-Word (span 0 0) text) ∙ sexp.outs-Word (span 0 0) text) (content item)

pub string_item : (item : Sexp) (value : List ℕ) → bare item ≡ bare (string value) → StringItem item value
string_item item value e = subst (Content item) (ap out-Sexp (e ∙ bare-Str (span 0 0) value) ∙ sexp.outs-Str (span 0 0) value) (content item)

pub list_item : (item : Sexp) (contents : List Sexp) → bare item ≡ bare (parens contents) → ListItem item (map bare contents)
list_item item contents e = subst (Content item) (ap out-Sexp (e ∙ bare-List (span 0 0) contents) ∙ sexp.outs-List (span 0 0) (map bare contents)) (content item)

-- the first of some items with known content, and the others
pub record Cut (items : List Sexp) (content : Sexp) (contents : List Sexp) : Type 0 where
  pub first : Sexp
  pub others : List Sexp
  pub is : items ≡ first ∷ others
  pub first_same : bare first ≡ bare content
  pub others_same : map bare others ≡ map bare contents

pub cut : (items : List Sexp) (content : Sexp) (contents : List Sexp) → map bare items ≡ map bare (content ∷ contents) → Cut items content contents
cut [] content contents e = cc
cut (item ∷ items) content contents e = record { first = item; others = items; is = refl; first_same = cc; others_same = cc }

pub none : (items : List Sexp) → map bare items ≡ [] → items ≡ []
none [] e = refl
none (item ∷ items) e = cc
