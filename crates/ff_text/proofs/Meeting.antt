-- A prefix that meets a fault stops the reader there, and an unclosed text does at its end.
use Rattle.std.proofs.Common.{◌≡◌, ◌<◌, ◌+◌, ℕ, suc, Bool, true, Ok, Err, List, [], ◌∷◌, ◌++◌, length, map, refl, sym, ◌∙◌, ap, subst, append_assoc}
use Rattle.std.proofs.lemmas.List.{length-map}
use Rattle.std.specs.Char.{is_ascii_control}
use Rattle.ff_text.specs.declared.items.Sexp.{Sexp}
use Rattle.ff_text.specs.declared.items.TextFault.{TextFault}
use Rattle.ff_text.specs.declared.items.TextFault.TheVariants as fault
use Rattle.ff_text.specs.declared.bytes.InStr.{InStr}
use Rattle.ff_text.specs.declared.bytes.Class.TheVariants as class
use Rattle.ff_text.specs.declared.reader.Reader.{Reader}
use Rattle.ff_text.specs.declared.reader.Opened.{Opened}
use Rattle.ff_text.specs.declared.reader.Mode.{Mode}
use Rattle.ff_text.specs.declared.reader.Mode.TheVariants as mode
use Rattle.ff_text.specs.Faults.{Unfinished, at_top, within, InString, in_string, InEscape, in_escape, Meets, extra, too_deep, bad_byte, bad_byte_in_string, bad_utf8, bad_escape, IsUnclosed, in_a_list, in_a_string, in_an_escape}
use Rattle.ff_text.specs.Machine.{advance, step, start, finish, verdict, verdict_of, in_str_class}
use Rattle.ff_text.proofs.Ascii.{is_utf8-not}
use Rattle.ff_text.proofs.ClassLemmas.{class_of-stray, in_str_of-control}
use Rattle.ff_text.proofs.Standing.{in_mode, Stands, advance-more, advance-then, step_stands, finish_stands}
use Rattle.ff_text.proofs.Strings.{quoting, value_run, step_backslash, step_x, step_high}
use Rattle.ff_text.proofs.Steps.{end_str-bad}
use Rattle.ff_text.proofs.Escapes.{EscapeMode, slash_read, x_read, digit_read, begun_mode, step_bad_escape}
use Rattle.ff_text.proofs.Complete.{complete, step_open, step_deep, step_extra, step_quote, step_mark}
use Rattle.ff_name.specs.declared.limits.TheConstants.{MOST_DEPTH}

-- the reader after bytes that end outside strings
record Halts (opens : List ℕ) (to : ℕ) (bytes : List ℕ) : Type 0 where
  opened : List Opened
  items : List Sexp
  ended : Bool
  reader : Reader
  places : map (λ (o : Opened). o.from) opened ≡ opens
  stands : Stands opened to items ended reader
  runs : advance bytes (Ok start) ≡ Ok reader

depth_of : (opens : List ℕ) (opened : List Opened) → map (λ (o : Opened). o.from) opened ≡ opens → length opened ≡ length opens
depth_of opens opened e = sym (length-map opened (λ (o : Opened). o.from)) ∙ ap length e

unfinished_halts : (opens : List ℕ) (to : ℕ) (bytes : List ℕ) → Unfinished opens to bytes → Halts opens to bytes
unfinished_halts opens to bytes (at_top to' bytes' items ended s) =
    let reached = complete 0 0 to' bytes' items ended s [] refl in
    record { opened = []; items = items; ended = ended; reader = reached.reader; places = refl; stands = reached.stands; runs = reached.runs }
unfinished_halts opens to bytes (within opens' place to' bytes' inner items ended outer room s) =
    let halt = unfinished_halts opens' place bytes' outer in
    let depth = depth_of opens' halt.opened halt.places in
    let opening = advance-more bytes' 40 (Ok start) halt.reader halt.runs ∙ step_open halt.opened place halt.items halt.ended halt.reader halt.stands (subst (λ n. n < MOST_DEPTH) (sym depth) room) in
    let reached = complete (suc (length opens')) (place + 1) to' inner items ended s (record { from = place; before = halt.items } ∷ halt.opened) (ap suc depth) in
    let joined : (bytes' ++ 40 ∷ []) ++ inner ≡ bytes' ++ 40 ∷ inner = append_assoc bytes' (40 ∷ []) inner in
    record {
      opened = record { from = place; before = halt.items } ∷ halt.opened;
      items = items;
      ended = ended;
      reader = reached.reader;
      places = ap (λ (ps : List ℕ). place ∷ ps) halt.places;
      stands = reached.stands;
      runs = ap (λ bs. advance bs (Ok start)) (sym joined) ∙ advance-then (bytes' ++ 40 ∷ []) inner (Ok start) _ _ opening reached.runs;
    }

-- the reader after bytes that end in a string
record HaltsIn (place to : ℕ) (value bytes : List ℕ) : Type 0 where
  opened : List Opened
  items : List Sexp
  runs : advance bytes (Ok start) ≡ Ok (quoting opened items to place value)

string_halts : (place to : ℕ) (value bytes : List ℕ) → InString place to value bytes → HaltsIn place to value bytes
string_halts place to value bytes (in_string opens place' bytes' body value' outer v) =
    let halt = unfinished_halts opens place' bytes' outer in
    let opening = advance-more bytes' 34 (Ok start) halt.reader halt.runs ∙ step_quote halt.opened place' halt.items halt.ended halt.reader halt.stands in
    let joined : (bytes' ++ 34 ∷ []) ++ body ≡ bytes' ++ 34 ∷ body = append_assoc bytes' (34 ∷ []) body in
    record {
      opened = halt.opened;
      items = halt.items;
      runs = ap (λ bs. advance bs (Ok start)) (sym joined) ∙ advance-then (bytes' ++ 34 ∷ []) body (Ok start) _ _ opening (value_run halt.opened halt.items (place' + 1) place' body value' v);
    }

-- the reader after bytes that end in an escape
record HaltsInEscape (place slash : ℕ) (begun bytes : List ℕ) : Type 0 where
  m : Mode
  opened : List Opened
  items : List Sexp
  at : ℕ
  value : List ℕ
  is : EscapeMode place slash begun m
  runs : advance bytes (Ok start) ≡ Ok (in_mode m opened items at value)

escape_halts_at : (place slash : ℕ) (value bytes begun : List ℕ) (m : Mode) → EscapeMode place slash begun m → HaltsIn place slash value bytes → HaltsInEscape place slash begun (bytes ++ 92 ∷ begun)
escape_halts_at place slash value bytes begun m slash_read halt =
    let opening = advance-more bytes 92 (Ok start) _ halt.runs ∙ step_backslash halt.opened halt.items slash place value in
    record { m = mode.Slash place slash; opened = halt.opened; items = halt.items; at = slash + 1; value = value; is = slash_read; runs = opening }
escape_halts_at place slash value bytes begun m x_read halt =
    let opening = advance-more bytes 92 (Ok start) _ halt.runs ∙ step_backslash halt.opened halt.items slash place value in
    let next = advance-more (bytes ++ 92 ∷ []) 120 (Ok start) _ opening ∙ step_x halt.opened halt.items (slash + 1) place slash value in
    let joined : (bytes ++ 92 ∷ []) ++ 120 ∷ [] ≡ bytes ++ 92 ∷ 120 ∷ [] = append_assoc bytes (92 ∷ []) (120 ∷ []) in
    record { m = mode.Hex place slash; opened = halt.opened; items = halt.items; at = slash + 1 + 1; value = value; is = x_read; runs = ap (λ bs. advance bs (Ok start)) (sym joined) ∙ next }
escape_halts_at place slash value bytes begun m (digit_read high small) halt =
    let opening = advance-more bytes 92 (Ok start) _ halt.runs ∙ step_backslash halt.opened halt.items slash place value in
    let next = advance-more (bytes ++ 92 ∷ []) 120 (Ok start) _ opening ∙ step_x halt.opened halt.items (slash + 1) place slash value in
    let last = advance-more ((bytes ++ 92 ∷ []) ++ 120 ∷ []) _ (Ok start) _ next ∙ step_high halt.opened halt.items (slash + 1 + 1) place slash value high small in
    record { m = mode.Digit place slash high; opened = halt.opened; items = halt.items; at = slash + 1 + 1 + 1; value = value; is = digit_read high small; runs = simp append_assoc at last }

escape_halts : (place slash : ℕ) (begun bytes : List ℕ) → InEscape place slash begun bytes → HaltsInEscape place slash begun bytes
escape_halts place slash begun bytes (in_escape place' slash' value bytes' begun' inside begins) =
    let found = begun_mode place' slash' begun' begins in
    escape_halts_at place' slash' value bytes' begun' found.0 found.1 (string_halts place' slash' value bytes' inside)

step_control : (opened : List Opened) (items : List Sexp) (at from : ℕ) (value : List ℕ) (b : ℕ) → is_ascii_control b ≡ true → step (quoting opened items at from value) b ≡ Err (fault.BadByte at)
unfolding step
step_control opened items at from value b control = ap (λ (k : InStr). in_str_class k (quoting opened items at from value) from b) (in_str_of-control b control)

-- a prefix that meets a fault gives it
pub meets_err : (bytes : List ℕ) (which : TextFault) → Meets bytes which → advance bytes (Ok start) ≡ Err which
meets_err all which (extra to bytes outer) = extra_at (unfinished_halts [] to bytes outer) where
  extra_at : Halts [] to bytes → advance (bytes ++ 41 ∷ []) (Ok start) ≡ Err (fault.Extra to)
  extra_at halt = extra_of halt.opened halt.places halt.stands where
    extra_of : (opened : List Opened) → map (λ (o : Opened). o.from) opened ≡ [] → Stands opened to halt.items halt.ended halt.reader → advance (bytes ++ 41 ∷ []) (Ok start) ≡ Err (fault.Extra to)
    extra_of [] places stands = advance-more bytes 41 (Ok start) halt.reader halt.runs ∙ step_extra to halt.items halt.ended halt.reader stands
    extra_of (o ∷ opened) places stands = cc
meets_err all which (too_deep opens to bytes outer full) =
    let halt = unfinished_halts opens to bytes outer in
    advance-more bytes 40 (Ok start) halt.reader halt.runs ∙ step_deep halt.opened to halt.items halt.ended halt.reader halt.stands (depth_of opens halt.opened halt.places ∙ full)
meets_err all which (bad_byte opens to bytes b outer stray) =
    let halt = unfinished_halts opens to bytes outer in
    advance-more bytes b (Ok start) halt.reader halt.runs ∙ step_stands halt.opened to halt.items halt.ended halt.reader b class.Stray halt.stands (class_of-stray b stray) tt
meets_err all which (bad_byte_in_string place to value bytes b inside control) =
    let halt = string_halts place to value bytes inside in
    advance-more bytes b (Ok start) _ halt.runs ∙ step_control halt.opened halt.items to place value b control
meets_err all which (bad_utf8 place to value bytes inside bad) =
    let halt = string_halts place to value bytes inside in
    advance-more bytes 34 (Ok start) _ halt.runs ∙ step_mark halt.opened halt.items to place value ∙ end_str-bad (quoting halt.opened halt.items to place value) place (is_utf8-not value bad)
meets_err all which (bad_escape place slash begun bytes b inside wrong) =
    let halt = escape_halts place slash begun bytes inside in
    advance-more bytes b (Ok start) _ halt.runs ∙ step_bad_escape halt.opened halt.items halt.at place slash halt.value begun halt.m halt.is b wrong

pub finish_string : (opened : List Opened) (items : List Sexp) (at from : ℕ) (value : List ℕ) → finish (quoting opened items at from value) ≡ Err (fault.Unclosed from)
unfolding finish
finish_string opened items at from value = refl

pub finish_escape : (opened : List Opened) (items : List Sexp) (at place slash : ℕ) (value begun : List ℕ) (m : Mode) → EscapeMode place slash begun m → finish (in_mode m opened items at value) ≡ Err (fault.Unclosed place)
unfolding finish
finish_escape opened items at place slash value begun m slash_read = refl
finish_escape opened items at place slash value begun m x_read = refl
finish_escape opened items at place slash value begun m (digit_read high small) = refl

-- an unclosed text is read to its end, and answered there
pub unclosed_verdict : (bytes : List ℕ) (place : ℕ) → IsUnclosed bytes place → verdict bytes ≡ Err (fault.Unclosed place)
unclosed_verdict all place (in_a_list place' to opens bytes outer) = at_halt (unfinished_halts (place' ∷ opens) to bytes outer) where
  at_halt : Halts (place' ∷ opens) to bytes → verdict bytes ≡ Err (fault.Unclosed place')
  at_halt halt = of_opened halt.opened halt.places halt.stands where
    of_opened : (opened : List Opened) → map (λ (o : Opened). o.from) opened ≡ place' ∷ opens → Stands opened to halt.items halt.ended halt.reader → verdict bytes ≡ Err (fault.Unclosed place')
    of_opened [] places stands = cc
    of_opened (o ∷ opened) places stands =
        let first : o.from ≡ place' = cc in
        ap verdict_of halt.runs ∙ finish_stands (o ∷ opened) to halt.items halt.ended halt.reader stands ∙ ap (λ n. Err (fault.Unclosed n)) first
unclosed_verdict all place (in_a_string place' to value bytes inside) =
    let halt = string_halts place' to value bytes inside in
    ap verdict_of halt.runs ∙ finish_string halt.opened halt.items to place' value
unclosed_verdict all place (in_an_escape place' slash begun bytes inside) =
    let halt = escape_halts place' slash begun bytes inside in
    ap verdict_of halt.runs ∙ finish_escape halt.opened halt.items halt.at place' slash halt.value begun halt.m halt.is
