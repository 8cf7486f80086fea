-- Lines in the pieces that they are printed in.
use Rattle.std.proofs.Common.{◌≡◌, ℕ, List, [], ◌∷◌, ◌++◌, Option, Some, None, refl, sym, ap, ◌∙◌, append_assoc}
use Rattle.ff_lattice.specs.Order.{Order, name}
use Rattle.ff_name.specs.declared.levels.Level.{Level}
use Rattle.ff_text.specs.Notation.{span}
use Rattle.ff_text.specs.declared.items.Sexp.{Sexp}
use Rattle.ff_text.proofs.Layers.{spelled-Word}
use Rattle.ff_value.specs.declared.input.Act.{Act}
use Rattle.ff_value.specs.declared.input.Act.TheVariants as act
use Rattle.ff_value.specs.declared.input.Input.{Input}
use Rattle.ff_forms.specs.Canonical.{word}
use Rattle.ff_value.specs.declared.kind.Kind.{Kind}
use Rattle.ff_value.specs.declared.kind.Kind.TheVariants as kind
use Rattle.ff_value.specs.Kinds.{word_of}
use Rattle.ff_trace.specs.Pieces.{tag_text}
use Rattle.ff_trace.specs.Printed.{act_items, tag_items, input_text, joined}

tagged_cut : (text : List ℕ) (item : Sexp) (items : List Sexp) → joined (word text ∷ item ∷ items) ≡ (text ++ 32 ∷ []) ++ joined (item ∷ items)
tagged_cut text item items =
    ap (λ bs. bs ++ 32 ∷ joined (item ∷ items)) (spelled-Word (span 0 0) text) ∙ sym (append_assoc text (32 ∷ []) (joined (item ∷ items)))

-- the items of an act begin with its kind
pub record Begun (items : List Sexp) : Type 0 where
  pub first : Kind
  pub parts : List Sexp
  pub is : items ≡ word (word_of first) ∷ parts

pub act_begun : (one : Act) → Begun (act_items one)
act_begun (act.Opens url) = record { first = kind.Open; parts = _; is = refl }
act_begun (act.Goes win url) = record { first = kind.Go; parts = _; is = refl }
act_begun (act.Links win link) = record { first = kind.Link; parts = _; is = refl }
act_begun (act.Closes win) = record { first = kind.Close; parts = _; is = refl }
act_begun (act.Types win field text) = record { first = kind.Type; parts = _; is = refl }
act_begun (act.Clicks win button) = record { first = kind.Click; parts = _; is = refl }
act_begun (act.Replies domain request resp) = record { first = kind.Reply; parts = _; is = refl }

begun_cut : (text : List ℕ) (items : List Sexp) → Begun items → joined (word text ∷ items) ≡ (text ++ 32 ∷ []) ++ joined items
begun_cut text items begun =
    ap (λ (all : List Sexp). joined (word text ∷ all)) begun.is ∙ tagged_cut text (word (word_of begun.first)) begun.parts
    ∙ ap (λ (all : List Sexp). (text ++ 32 ∷ []) ++ joined all) (sym begun.is)

tag_cut : (order : Order) (tag : Option Level) (one : Act) → joined (tag_items order tag ++ act_items one) ≡ tag_text order tag ++ joined (act_items one)
tag_cut order None one = refl
tag_cut order (Some level) one = begun_cut (64 ∷ name order level.0) (act_items one) (act_begun one)

-- an input's line: its tag, and its act
pub input_cut : (order : Order) (input : Input) → input_text order input ≡ tag_text order input.tag ++ joined (act_items input.act)
input_cut order input = tag_cut order input.tag input.act

pub input_line_cut : (order : Order) (input : Input) → input_text order input ++ 10 ∷ [] ≡ tag_text order input.tag ++ (joined (act_items input.act) ++ 10 ∷ [])
input_line_cut order input = ap (λ bs. bs ++ 10 ∷ []) (input_cut order input) ∙ append_assoc (tag_text order input.tag) (joined (act_items input.act)) (10 ∷ [])

-- an output's line: the level's name and a blank, and the output
pub out_line_cut : (head text : List ℕ) → (head ++ 32 ∷ text) ++ 10 ∷ [] ≡ (head ++ 32 ∷ []) ++ (text ++ 10 ∷ [])
out_line_cut head text = append_assoc head (32 ∷ text) (10 ∷ []) ∙ sym (append_assoc head (32 ∷ []) (text ++ 10 ∷ []))
