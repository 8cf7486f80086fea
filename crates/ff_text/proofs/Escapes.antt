-- What has begun an escape, and which byte none goes on with.
use Rattle.std.proofs.Common.{◌≡◌, ◌≢◌, ◌<◌, ◌+◌, ◌*◌, ℕ, Err, Option, Some, None, List, [], ◌∷◌, ◌++◌, length, refl, sym, ◌∙◌, ap, subst, inl, inr, arith, length-append, lit<}
use Rattle.std.proofs.lemmas.Bool.Decides.{nat_tests, eqb_tells}
use Rattle.ff_text.specs.declared.items.Sexp.{Sexp}
use Rattle.ff_text.specs.declared.items.TextFault.TheVariants as fault
use Rattle.ff_text.specs.declared.bytes.Slashed.{Slashed}
use Rattle.ff_text.specs.declared.bytes.Slashed.TheVariants as slashed
use Rattle.ff_text.specs.declared.reader.Opened.{Opened}
use Rattle.ff_text.specs.declared.reader.Mode.{Mode}
use Rattle.ff_text.specs.declared.reader.Mode.TheVariants as mode
use Rattle.ff_text.specs.Classes.{slashed_of, high_digit, low_digit}
use Rattle.ff_text.specs.Notation.{hex_digit, Escape, mark, backslash, newline, tab, hex}
use Rattle.ff_text.specs.Faults.{BeginsEscape}
use Rattle.ff_text.specs.Machine.{step, slashed_class, high_taken, low_taken}
use Rattle.ff_text.proofs.ClassLemmas.{slash_hex, high_small, high_is, low_small, low_is}
use Rattle.ff_text.proofs.Standing.{in_mode}

-- the mode of a reader after the bytes that have begun an escape
pub data EscapeMode (place slash : ℕ) : List ℕ → Mode → Type 0 where
  slash_read : EscapeMode place slash [] (mode.Slash place slash)
  x_read : EscapeMode place slash (120 ∷ []) (mode.Hex place slash)
  digit_read : (high : ℕ) → high < 8 → EscapeMode place slash (120 ∷ hex_digit high ∷ []) (mode.Digit place slash high)

pub none_follows : (xs : List ℕ) (y : ℕ) (ys : List ℕ) → xs ++ y ∷ ys ≡ [] → ⊥
none_follows xs y ys e = omega (arith, length-append {A = ℕ}, ap length e)

-- a front of a short escape, and of one in hexadecimal digits
short_front : (place slash b : ℕ) (begun : List ℕ) (next : ℕ) (rest : List ℕ) → begun ++ next ∷ rest ≡ b ∷ [] → (m : Mode) × EscapeMode place slash begun m
short_front place slash b [] next rest e = (mode.Slash place slash, slash_read)
short_front place slash b (a ∷ more) next rest e = let end : more ++ next ∷ rest ≡ [] = cc in absurd (none_follows more next rest end)

hex_front : (place slash high low : ℕ) → high < 8 → (begun : List ℕ) (next : ℕ) (rest : List ℕ) → begun ++ next ∷ rest ≡ 120 ∷ hex_digit high ∷ hex_digit low ∷ [] → (m : Mode) × EscapeMode place slash begun m
hex_front place slash high low small [] next rest e = (mode.Slash place slash, slash_read)
hex_front place slash high low small (a ∷ []) next rest e =
    let head : 120 ≡ a = cc in
    (mode.Hex place slash, subst (λ k. EscapeMode place slash (k ∷ []) (mode.Hex place slash)) head x_read)
hex_front place slash high low small (a ∷ c ∷ []) next rest e =
    let head : 120 ≡ a = cc in
    let digit : hex_digit high ≡ c = cc in (
      mode.Digit place slash high,
      subst (λ k. EscapeMode place slash (k ∷ c ∷ []) (mode.Digit place slash high)) head
          (subst (λ d. EscapeMode place slash (120 ∷ d ∷ []) (mode.Digit place slash high)) digit (digit_read high small)),
    )
hex_front place slash high low small (a ∷ c ∷ d ∷ more) next rest e =
    let end : more ++ next ∷ rest ≡ [] = cc in absurd (none_follows more next rest end)

escape_front : (place slash : ℕ) (escape : List ℕ) (b : ℕ) → Escape escape b → (begun : List ℕ) (next : ℕ) (rest : List ℕ) → begun ++ next ∷ rest ≡ escape → (m : Mode) × EscapeMode place slash begun m
escape_front place slash escape b mark begun next rest e = short_front place slash 34 begun next rest e
escape_front place slash escape b backslash begun next rest e = short_front place slash 92 begun next rest e
escape_front place slash escape b newline begun next rest e = short_front place slash 110 begun next rest e
escape_front place slash escape b tab begun next rest e = short_front place slash 116 begun next rest e
escape_front place slash escape b (hex high low h l) begun next rest e = hex_front place slash high low h begun next rest e

-- what has begun an escape is nothing, `x`, or `x` and a first digit
pub begun_mode : (place slash : ℕ) (begun : List ℕ) → BeginsEscape begun → (m : Mode) × EscapeMode place slash begun m
begun_mode place slash begun begins = escape_front place slash _ begins.value begins.whole begun begins.next begins.rest refl

-- and each of these has begun one
pub begins_from_mode : (place slash : ℕ) (begun : List ℕ) (m : Mode) → EscapeMode place slash begun m → BeginsEscape begun
begins_from_mode place slash begun m slash_read = record { next = 34; rest = []; value = 34; whole = mark }
begins_from_mode place slash begun m x_read = record { next = hex_digit 0; rest = hex_digit 0 ∷ []; value = 16 * 0 + 0; whole = hex 0 0 (lit< tt) (lit< tt) }
begins_from_mode place slash begun m (digit_read high small) = record { next = hex_digit 0; rest = []; value = 16 * high + 0; whole = hex high 0 small (lit< tt) }

short_none : (b value : ℕ) → b ≢ 34 → b ≢ 92 → b ≢ 110 → b ≢ 116 → slashed_of b ≡ slashed.Short value → ⊥
unfolding slashed_of
short_none b value m s n t e = grind (arith, nat_tests)

short_value : (b value byte : ℕ) → slashed_of b ≡ slashed.Short value → slashed_of byte ≡ slashed.Short value → Escape (byte ∷ []) value → b ≡ byte → Escape (b ∷ []) value
short_value b value byte e k escape same = subst (λ c. Escape (c ∷ []) value) (sym same) escape

injected : (a b : ℕ) → slashed.Short a ≡ slashed.Short b → a ≡ b
injected a b e = cc

at_mark : (value : ℕ) → slashed_of 34 ≡ slashed.Short value → 34 ≡ value
unfolding slashed_of
at_mark value e = injected 34 value e

at_backslash : (value : ℕ) → slashed_of 92 ≡ slashed.Short value → 92 ≡ value
unfolding slashed_of
at_backslash value e = injected 92 value e

at_newline : (value : ℕ) → slashed_of 110 ≡ slashed.Short value → 10 ≡ value
unfolding slashed_of
at_newline value e = injected 10 value e

at_tab : (value : ℕ) → slashed_of 116 ≡ slashed.Short value → 9 ≡ value
unfolding slashed_of
at_tab value e = injected 9 value e

short_at : (b byte value made : ℕ) → b ≡ byte → Escape (byte ∷ []) made → made ≡ value → Escape (b ∷ []) value
short_at b byte value made same escape is = subst (λ v. Escape (b ∷ []) v) is (subst (λ c. Escape (c ∷ []) made) (sym same) escape)

-- a short escape
pub short_escape : (b value : ℕ) → slashed_of b ≡ slashed.Short value → Escape (b ∷ []) value
short_escape b value e =
    elim (eqb_tells b 34) [
      | inl is ↦ short_at b 34 value 34 is.1 mark (at_mark value (ap slashed_of (sym is.1) ∙ e))
      | inr m ↦ elim (eqb_tells b 92) [
        | inl is ↦ short_at b 92 value 92 is.1 backslash (at_backslash value (ap slashed_of (sym is.1) ∙ e))
        | inr s ↦ elim (eqb_tells b 110) [
          | inl is ↦ short_at b 110 value 10 is.1 newline (at_newline value (ap slashed_of (sym is.1) ∙ e))
          | inr n ↦ elim (eqb_tells b 116) [
            | inl is ↦ short_at b 116 value 9 is.1 tab (at_tab value (ap slashed_of (sym is.1) ∙ e))
            | inr t ↦ absurd (short_none b value m.1 s.1 n.1 t.1 e)
          ]
        ]
      ]
    ]

-- no escape goes on with the byte
abbrev pub IsWrongNext : List ℕ → ℕ → Type 0
IsWrongNext begun b = (rest : List ℕ) (value : ℕ) → ¬ Escape (begun ++ b ∷ rest) value

bad_slashed : (opened : List Opened) (items : List Sexp) (at place slash : ℕ) (value : List ℕ) (b : ℕ) → IsWrongNext [] b → (k : Slashed) → slashed_of b ≡ k → slashed_class k (in_mode (mode.Slash place slash) opened items at value) place slash ≡ Err (fault.BadEscape slash)
bad_slashed opened items at place slash value b wrong (slashed.Short v) e = absurd (wrong [] v (short_escape b v e))
bad_slashed opened items at place slash value b wrong slashed.Hex e =
    absurd (wrong (hex_digit 0 ∷ hex_digit 0 ∷ []) (16 * 0 + 0) (subst (λ c. Escape (c ∷ hex_digit 0 ∷ hex_digit 0 ∷ []) (16 * 0 + 0)) (sym (slash_hex b e)) (hex 0 0 (lit< tt) (lit< tt))))
bad_slashed opened items at place slash value b wrong slashed.Wrong e = refl

bad_high : (opened : List Opened) (items : List Sexp) (at place slash : ℕ) (value : List ℕ) (b : ℕ) → IsWrongNext (120 ∷ []) b → (d : Option ℕ) → high_digit b ≡ d → high_taken d (in_mode (mode.Hex place slash) opened items at value) place slash ≡ Err (fault.BadEscape slash)
bad_high opened items at place slash value b wrong (Some h) e =
    absurd (wrong (hex_digit 0 ∷ []) (16 * h + 0) (subst (λ c. Escape (120 ∷ c ∷ hex_digit 0 ∷ []) (16 * h + 0)) (sym (high_is b h e)) (hex h 0 (high_small b h e) (lit< tt))))
bad_high opened items at place slash value b wrong None e = refl

bad_low : (opened : List Opened) (items : List Sexp) (at place slash : ℕ) (value : List ℕ) (high b : ℕ) → high < 8 → IsWrongNext (120 ∷ hex_digit high ∷ []) b → (d : Option ℕ) → low_digit b ≡ d → low_taken d (in_mode (mode.Digit place slash high) opened items at value) place slash high ≡ Err (fault.BadEscape slash)
bad_low opened items at place slash value high b small wrong (Some l) e =
    absurd (wrong [] (16 * high + l) (subst (λ c. Escape (120 ∷ hex_digit high ∷ c ∷ []) (16 * high + l)) (sym (low_is b l e)) (hex high l small (low_small b l e))))
bad_low opened items at place slash value high b small wrong None e = refl

-- such a byte is a bad escape
pub step_bad_escape : (opened : List Opened) (items : List Sexp) (at place slash : ℕ) (value begun : List ℕ) (m : Mode) → EscapeMode place slash begun m → (b : ℕ) → IsWrongNext begun b → step (in_mode m opened items at value) b ≡ Err (fault.BadEscape slash)
unfolding step
step_bad_escape opened items at place slash value begun m slash_read b wrong = bad_slashed opened items at place slash value b wrong (slashed_of b) refl
step_bad_escape opened items at place slash value begun m x_read b wrong = bad_high opened items at place slash value b wrong (high_digit b) refl
step_bad_escape opened items at place slash value begun m (digit_read high small) b wrong = bad_low opened items at place slash value high b small wrong (low_digit b) refl
