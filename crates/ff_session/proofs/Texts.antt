-- The text of outputs, one after another.
use Rattle.std.proofs.Common.{◌≡◌, ℕ, ◌+◌, ◌<◌, Result, Ok, Err, OnOk, List, [], ◌∷◌, ◌++◌, length, take, get_or, sym, ap, ◌∙◌, append_assoc, append-nil}
use Rattle.std.specs.Bool.{⊤}
use Rattle.std.proofs.lemmas.List.{take_more}
use Rattle.ff_confinement.specs.Text.{text_of, line_of}
use Rattle.ff_confinement.proofs.Text.{text_of_none, text_of-append, text_of-cons}
use Rattle.ff_contract.specs.Appending.{Appends}
use Rattle.ff_lattice.specs.Order.{Order}
use Rattle.ff_value.specs.declared.input.Input.{Input}
use Rattle.ff_value.specs.declared.output.Out.{Out}
use Rattle.ff_policy.specs.Assignment.{Assignment, level_out}
use Rattle.ff_trace.specs.Printed.{input_line, out_line}
use Rattle.ff_session.specs.Levels.{levels}
use Rattle.ff_session.specs.Formatting.{format_entry}

-- no output yet
pub text_start : (p : Assignment) (text : List ℕ) → text ≡ text ++ text_of (levels p) []
text_start p text = sym (ap (λ bs. text ++ bs) (text_of_none (levels p)) ∙ append-nil text)

-- one output more
pub text_more : (p : Assignment) (os : List Out) (j : ℕ) (o : Out) (base text longer : List ℕ) → j < length os → o ≡ get_or os j o
    → text ≡ base ++ text_of (levels p) (take j os) → longer ≡ text ++ text_of (levels p) (o ∷ []) → longer ≡ base ++ text_of (levels p) (take (j + 1) os)
text_more p os j o base text longer lt at so_far added =
    added ∙ ap (λ bs. bs ++ text_of (levels p) (o ∷ [])) so_far
    ∙ append_assoc base (text_of (levels p) (take j os)) (text_of (levels p) (o ∷ []))
    ∙ ap (λ bs. base ++ bs) (sym (text_of-append (levels p) (take j os) (o ∷ [])))
    ∙ ap (λ ps. base ++ text_of (levels p) ps) (ap (λ x. take j os ++ x ∷ []) at ∙ sym (take_more os j o lt))

one_line : (p : Assignment) (l : ℕ) (o : Out) (text longer : List ℕ) → l ≡ level_out p o → longer ≡ text ++ out_line p.order l o → longer ≡ text ++ text_of (levels p) (o ∷ [])
one_line p l o text longer here added =
    added ∙ ap (λ k. text ++ out_line p.order k o) here
    ∙ ap (λ bs. text ++ bs) (sym (text_of-cons (levels p) o [] ∙ ap (λ bs. line_of (levels p) o ++ bs) (text_of_none (levels p)) ∙ append-nil (line_of (levels p) o)))

-- the line of an output was appended
pub text_of_one : {T E : Type 0} (r : Result T E) (p : Assignment) (order : Order) (l : ℕ) (o : Out) (text longer : List ℕ) → order ≡ p.order → l ≡ level_out p o → Appends r text longer (out_line order l o) → OnOk r (longer ≡ text ++ text_of (levels p) (o ∷ []))
text_of_one (Ok done) p order l o text longer same here added = one_line p l o text longer here (added ∙ ap (λ known. text ++ out_line known l o) same)
text_of_one (Err e) p order l o text longer same here front = tt

-- the line of an input was appended
pub formatted : {T E : Type 0} (r : Result T E) (order : Order) (i : Input) (text longer : List ℕ) → Appends r text longer (input_line order i) → OnOk r ((is : List Input) → ⊤ → longer ≡ text ++ format_entry order is i)
formatted (Ok done) order i text longer added = λ is at. added
formatted (Err e) order i text longer front = tt
