-- What the bytes of a string do to the reader.
use Rattle.std.proofs.Common.{◌≡◌, ◌<◌, ◌+◌, ◌*◌, ℕ, Ok, List, [], ◌∷◌, ◌++◌, length, refl, sym, ◌∙◌, ap, arith, length-append, add-zero}
use Rattle.ff_text.specs.declared.items.Sexp.{Sexp}
use Rattle.ff_text.specs.declared.reader.Reader.{Reader}
use Rattle.ff_text.specs.declared.reader.Opened.{Opened}
use Rattle.ff_text.specs.declared.reader.Mode.TheVariants as mode
use Rattle.ff_text.specs.Classes.{in_str_of, slashed_of}
use Rattle.ff_text.specs.Notation.{hex_digit, Escape, mark, backslash, newline, tab, hex, IsPlain, Value, empty, plain, escaped}
use Rattle.ff_text.specs.Machine.{advance, step, high_taken, low_taken}
use Rattle.ff_text.proofs.ClassLemmas.{in_str_of-plain, high_digit-digit, low_digit-digit}
use Rattle.ff_text.proofs.Standing.{in_mode, advance-none, advance-step, advance-more, advance-then}

abbrev pub quoting : List Opened → List Sexp → (at from : ℕ) → List ℕ → Reader
quoting opened items at from value = in_mode (mode.Str from) opened items at value

pub step-plain : (opened : List Opened) (items : List Sexp) (at from : ℕ) (value : List ℕ) (b : ℕ) → IsPlain b → step (quoting opened items at from value) b ≡ Ok (quoting opened items (at + 1) from (value ++ b ∷ []))
unfolding step
step-plain opened items at from value b p = rw (in_str_of-plain b p.no_mark p.no_backslash p.no_control)

pub step_backslash : (opened : List Opened) (items : List Sexp) (at from : ℕ) (value : List ℕ) → step (quoting opened items at from value) 92 ≡ Ok (in_mode (mode.Slash from at) opened items (at + 1) value)
unfolding step in_str_of
step_backslash opened items at from value = refl

pub step_x : (opened : List Opened) (items : List Sexp) (at from slash : ℕ) (value : List ℕ) → step (in_mode (mode.Slash from slash) opened items at value) 120 ≡ Ok (in_mode (mode.Hex from slash) opened items (at + 1) value)
unfolding step slashed_of
step_x opened items at from slash value = refl

pub step_high : (opened : List Opened) (items : List Sexp) (at from slash : ℕ) (value : List ℕ) (high : ℕ) → high < 8 → step (in_mode (mode.Hex from slash) opened items at value) (hex_digit high) ≡ Ok (in_mode (mode.Digit from slash high) opened items (at + 1) value)
unfolding step
step_high opened items at from slash value high small = ap (λ digit. high_taken digit (in_mode (mode.Hex from slash) opened items at value) from slash) (high_digit-digit high small)

pub step_low : (opened : List Opened) (items : List Sexp) (at from slash : ℕ) (value : List ℕ) (high low : ℕ) → low < 16 → step (in_mode (mode.Digit from slash high) opened items at value) (hex_digit low) ≡ Ok (quoting opened items (at + 1) from (value ++ (16 * high + low) ∷ []))
unfolding step
step_low opened items at from slash value high low small = ap (λ digit. low_taken digit (in_mode (mode.Digit from slash high) opened items at value) from slash high) (low_digit-digit low small)

hex_run : (opened : List Opened) (items : List Sexp) (at from : ℕ) (value : List ℕ) (high low : ℕ) → high < 8 → low < 16 → advance (92 ∷ 120 ∷ hex_digit high ∷ hex_digit low ∷ []) (Ok (quoting opened items at from value)) ≡ Ok (quoting opened items (at + 1 + 3) from (value ++ (16 * high + low) ∷ []))
hex_run opened items at from value high low h l =
    let place : at + 1 + 1 + 1 + 1 ≡ at + 1 + 3 = omega arith in
    advance-step 92 (120 ∷ hex_digit high ∷ hex_digit low ∷ []) _ _ (step_backslash opened items at from value)
    ∙ advance-step 120 (hex_digit high ∷ hex_digit low ∷ []) _ _ (step_x opened items (at + 1) from at value)
    ∙ advance-step (hex_digit high) (hex_digit low ∷ []) _ _ (step_high opened items (at + 1 + 1) from at value high h)
    ∙ advance-step (hex_digit low) [] _ _ (step_low opened items (at + 1 + 1 + 1) from at value high low l)
    ∙ advance-none (Ok (quoting opened items (at + 1 + 1 + 1 + 1) from (value ++ (16 * high + low) ∷ [])))
    ∙ ap (λ n. Ok (quoting opened items n from (value ++ (16 * high + low) ∷ []))) place

-- the bytes of an escape
pub escape_run : (opened : List Opened) (items : List Sexp) (at from : ℕ) (value escape : List ℕ) (b : ℕ) → Escape escape b → advance (92 ∷ escape) (Ok (quoting opened items at from value)) ≡ Ok (quoting opened items (at + 1 + length escape) from (value ++ b ∷ []))
unfolding advance step in_str_of slashed_of
escape_run opened items at from value escape b mark = refl
escape_run opened items at from value escape b backslash = refl
escape_run opened items at from value escape b newline = refl
escape_run opened items at from value escape b tab = refl
escape_run opened items at from value escape b (hex high low h l) = hex_run opened items at from value high low h l

-- the bytes between the marks
pub value_run : (opened : List Opened) (items : List Sexp) (at from : ℕ) (body value : List ℕ) → Value body value → advance body (Ok (quoting opened items at from [])) ≡ Ok (quoting opened items (at + length body) from value)
value_run opened items at from bytes all empty = advance-none (Ok (quoting opened items at from [])) ∙ ap (λ n. Ok (quoting opened items n from [])) (sym (add-zero at))
value_run opened items at from bytes all (plain body value b v p) =
    let place : at + length body + 1 ≡ at + length (body ++ b ∷ []) = simp length-append (omega arith) in
    advance-more body b (Ok (quoting opened items at from [])) (quoting opened items (at + length body) from value) (value_run opened items at from body value v)
    ∙ step-plain opened items (at + length body) from value b p
    ∙ ap (λ n. Ok (quoting opened items n from (value ++ b ∷ []))) place
value_run opened items at from bytes all (escaped body value escape b v e) =
    let place : at + length body + 1 + length escape ≡ at + length (body ++ 92 ∷ escape) = simp length-append (omega arith) in
    advance-then body (92 ∷ escape) (Ok (quoting opened items at from [])) (quoting opened items (at + length body) from value) _ (value_run opened items at from body value v)
    (escape_run opened items (at + length body) from value escape b e
    ∙ ap (λ n. Ok (quoting opened items n from (value ++ b ∷ []))) place)
