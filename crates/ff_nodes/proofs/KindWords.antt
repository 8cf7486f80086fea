-- A kind has a word of its own.
use Rattle.std.proofs.Common.{◌≡◌, ℕ, cond, List, refl, sym, ap, ◌∙◌, codes}
use Rattle.std.specs.Str.{bytes_eq}
use Rattle.ff_machine.specs.declared.kinds.Kind.{Kind}
use Rattle.ff_machine.specs.declared.kinds.Kind.TheVariants as kind
use Rattle.ff_machine.specs.Kinds.{kind_word}

-- the kind of a word
abbrev of_word : List ℕ → Kind
of_word w =
    cond (bytes_eq w (codes "page")) kind.Page
    (cond (bytes_eq w (codes "text")) kind.Text
    (cond (bytes_eq w (codes "link")) kind.Link
    (cond (bytes_eq w (codes "box")) kind.TextBox
    (cond (bytes_eq w (codes "button")) kind.Button
    (cond (bytes_eq w (codes "script")) kind.Script
    (cond (bytes_eq w (codes "src")) kind.Src kind.Div))))))

of_its_word : (k : Kind) → of_word (kind_word k) ≡ k
of_its_word kind.Page = refl
of_its_word kind.Text = refl
of_its_word kind.Link = refl
of_its_word kind.TextBox = refl
of_its_word kind.Button = refl
of_its_word kind.Script = refl
of_its_word kind.Src = refl
of_its_word kind.Div = refl

-- kinds of one word are one kind
pub same_kind : (a b : Kind) → kind_word a ≡ kind_word b → a ≡ b
same_kind a b e = sym (of_its_word a) ∙ ap of_word e ∙ of_its_word b
