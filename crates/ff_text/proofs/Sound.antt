-- What the reader has read is spelled so far, and where it stops a fault is met.
use Rattle.std.proofs.Common.{◌≡◌, ◌<◌, ◌≤◌, ◌+◌, ◌*◌, ℕ, suc, Bool, true, false, nat_lt, Result, Ok, Err, Option, Some, None, List, [], ◌∷◌, ◌++◌, length, map, refl, sym, ◌∙◌, ap, subst, arith, append_assoc, length-append, add-zero}
use Rattle.std.specs.Str.{is_utf8}
use Rattle.std.proofs.lemmas.List.{length-map}
use Rattle.std.proofs.lemmas.List.Folds.{list_all-append}
use Rattle.std.proofs.lemmas.Bool.{and_from}
use Rattle.std.proofs.lemmas.Bool.Decides.{nat_tests}
use Rattle.std.proofs.lemmas.Str.{IsUtf8-from_is_utf8, is_utf8-from_IsUtf8}
use Rattle.ff_text.specs.declared.items.Sexp.{Sexp}
use Rattle.ff_text.specs.declared.items.Sexp.TheVariants.{Word, Str, List as Parens}
use Rattle.ff_text.specs.declared.items.TextFault.{TextFault}
use Rattle.ff_text.specs.declared.bytes.Class.{Class}
use Rattle.ff_text.specs.declared.bytes.Class.TheVariants as class
use Rattle.ff_text.specs.declared.bytes.InStr.{InStr}
use Rattle.ff_text.specs.declared.bytes.InStr.TheVariants as str
use Rattle.ff_text.specs.declared.bytes.Slashed.{Slashed}
use Rattle.ff_text.specs.declared.bytes.Slashed.TheVariants as slashed
use Rattle.ff_text.specs.declared.reader.Reader.{Reader}
use Rattle.ff_text.specs.declared.reader.Opened.{Opened}
use Rattle.ff_text.specs.declared.reader.Mode.{Mode}
use Rattle.ff_text.specs.declared.reader.Mode.TheVariants as mode
use Rattle.ff_text.specs.Bytes.{is_word_byte}
use Rattle.ff_text.specs.Classes.{class_of, in_str_of, slashed_of, high_digit, low_digit}
use Rattle.ff_text.specs.Notation.{span, hex_digit, IsWord, Escape, hex, Value, empty, plain, escaped, Spells, nothing, blank, a_word, a_string, a_list}
use Rattle.ff_text.specs.Faults.{Unfinished, at_top, within, InString, in_string, InEscape, in_escape, Meets, extra, too_deep, bad_byte, bad_byte_in_string, bad_utf8, bad_escape}
use Rattle.ff_text.specs.Machine.{step, outside_class, open_list, list_closed, in_word_class, in_str_class, end_str, slashed_class, high_taken, low_taken}
use Rattle.ff_text.proofs.ClassLemmas.{class_fact, str_fact, slash_hex, high_small, high_is, low_small, low_is}
use Rattle.ff_text.proofs.Standing.{between, wording, in_mode, EndsWord, step_word}
use Rattle.ff_text.proofs.Strings.{quoting}
use Rattle.ff_text.proofs.Escapes.{EscapeMode, slash_read, x_read, digit_read, begins_from_mode, short_escape, none_follows}
use Rattle.ff_text.proofs.NoEscape.{wrong_slashed, wrong_high, wrong_low}
use Rattle.ff_name.specs.declared.limits.TheConstants.{MOST_DEPTH}

-- the open lists with what stands before them, and the items of the innermost
pub data Opens : List Opened → List Sexp → Bool → (to : ℕ) → List ℕ → Type 0 where
  top : (to : ℕ) (bytes : List ℕ) (items : List Sexp) (ended : Bool) → Spells 0 0 to bytes items ended → Opens [] items ended to bytes
  inner : (opened : List Opened) (place to : ℕ) (bytes own : List ℕ) (before items : List Sexp) (before_ended ended : Bool) → Opens opened before before_ended place bytes → length opened < MOST_DEPTH → Spells (suc (length opened)) (place + 1) to own items ended → Opens (record { from = place; before = before } ∷ opened) items ended to (bytes ++ 40 ∷ own)

pub unfinished_from_opens : (opened : List Opened) (items : List Sexp) (ended : Bool) (to : ℕ) (bytes : List ℕ) → Opens opened items ended to bytes → Unfinished (map (λ (o : Opened). o.from) opened) to bytes
unfinished_from_opens opened items ended to bytes (top to' bytes' items' ended' s) = at_top to' bytes' items' ended' s
unfinished_from_opens opened items ended to bytes (inner opened' place to' bytes' own before items' before_ended ended' outer room s) =
    let depth = sym (length-map opened' (λ (o : Opened). o.from)) in
    within (map (λ (o : Opened). o.from) opened') place to' bytes' own items' ended' (unfinished_from_opens opened' before before_ended place bytes' outer)
    (subst (λ n. n < MOST_DEPTH) depth room) (subst (λ n. Spells (suc n) (place + 1) to' own items' ended') depth s)

most_open : (opened : List Opened) (items : List Sexp) (ended : Bool) (to : ℕ) (bytes : List ℕ) → Opens opened items ended to bytes → length opened ≤ MOST_DEPTH
most_open opened items ended to bytes (top to' bytes' items' ended' s) = omega arith
most_open opened items ended to bytes (inner opened' place to' bytes' own before items' before_ended ended' outer room s) = omega arith

-- the innermost items go on
extend : (opened : List Opened) (items : List Sexp) (ended : Bool) (to : ℕ) (bytes : List ℕ) → Opens opened items ended to bytes → (more : List ℕ) (to' : ℕ) (items' : List Sexp) (ended' : Bool) → ((from : ℕ) (own : List ℕ) → Spells (length opened) from to own items ended → Spells (length opened) from to' (own ++ more) items' ended') → Opens opened items' ended' to' (bytes ++ more)
extend opened items ended to bytes (top to0 bytes0 items0 ended0 s) more to' items' ended' grow = top to' (bytes0 ++ more) items' ended' (grow 0 bytes0 s)
extend opened items ended to bytes (inner opened0 place to0 bytes0 own before items0 before_ended ended0 outer room s) more to' items' ended' grow =
    let joined : bytes0 ++ 40 ∷ (own ++ more) ≡ (bytes0 ++ 40 ∷ own) ++ more = sym (append_assoc bytes0 (40 ∷ own) more) in
    subst (λ bs. Opens (record { from = place; before = before } ∷ opened0) items' ended' to' bs) joined
    (inner opened0 place to' bytes0 (own ++ more) before items' before_ended ended' outer room (grow (place + 1) own s))

-- where the reader stands, the bytes are so far
pub data Holds : Reader → List ℕ → Type 0 where
  holds_between : (opened : List Opened) (items : List Sexp) (ended : Bool) (at : ℕ) (bytes : List ℕ) → ended ≡ false → Opens opened items ended at bytes → Holds (between opened items at) bytes
  holds_word : (opened : List Opened) (items : List Sexp) (at from : ℕ) (bytes word whole : List ℕ) → Opens opened items false from bytes → IsWord word → from + length word ≡ at → bytes ++ word ≡ whole → Holds (wording opened items at from word) whole
  holds_string : (opened : List Opened) (items : List Sexp) (ended : Bool) (at from : ℕ) (bytes body value whole : List ℕ) → Opens opened items ended from bytes → Value body value → from + 1 + length body ≡ at → bytes ++ 34 ∷ body ≡ whole → Holds (quoting opened items at from value) whole
  holds_escape : (opened : List Opened) (items : List Sexp) (ended : Bool) (at from slash : ℕ) (bytes body value begun whole : List ℕ) (m : Mode) → Opens opened items ended from bytes → Value body value → from + 1 + length body ≡ slash → EscapeMode from slash begun m → slash + 1 + length begun ≡ at → (bytes ++ 34 ∷ body) ++ 92 ∷ begun ≡ whole → Holds (in_mode m opened items at value) whole

-- what a step comes to
pub data Outcome (bytes : List ℕ) : Result Reader TextFault → Type 0 where
  goes : (r : Reader) → Holds r bytes → Outcome bytes (Ok r)
  stops : (which : TextFault) → Meets bytes which → Outcome bytes (Err which)

open_sound : (opened : List Opened) (items : List Sexp) (ended : Bool) (at : ℕ) (bytes : List ℕ) → Opens opened items ended at bytes → (test : Bool) → nat_lt (length opened) MOST_DEPTH ≡ test → Outcome (bytes ++ 40 ∷ []) (open_list (between opened items at))
open_sound opened items ended at bytes so_far true e =
    let room : length opened < MOST_DEPTH = grind (arith, nat_tests) in
    rw e (goes _ (holds_between (record { from = at; before = items } ∷ opened) [] false (at + 1) (bytes ++ 40 ∷ []) refl
    (inner opened at (at + 1) bytes [] items [] ended false so_far room (nothing (suc (length opened)) (at + 1)))))
open_sound opened items ended at bytes so_far false e =
    let most = most_open opened items ended at bytes so_far in
    let full : length opened ≡ MOST_DEPTH = grind (arith, nat_tests) in
    rw e (stops _ (too_deep (map (λ (o : Opened). o.from) opened) at bytes (unfinished_from_opens opened items ended at bytes so_far) (length-map opened (λ (o : Opened). o.from) ∙ full)))

close_sound : (opened : List Opened) (items : List Sexp) (ended : Bool) (at : ℕ) (bytes : List ℕ) → Opens opened items ended at bytes → Outcome (bytes ++ 41 ∷ []) (list_closed opened (between opened items at))
close_sound opened items ended at bytes (top to0 bytes0 items0 ended0 s) = stops _ (extra to0 bytes0 (at_top to0 bytes0 items0 ended0 s))
close_sound opened items ended at bytes (inner opened0 place to0 bytes0 own before items0 before_ended ended0 outer room s) =
    let joined : bytes0 ++ (40 ∷ (own ++ 41 ∷ [])) ≡ (bytes0 ++ 40 ∷ own) ++ 41 ∷ [] = sym (append_assoc bytes0 (40 ∷ own) (41 ∷ [])) in
    goes _ (holds_between opened0 (before ++ Parens (span place (to0 + 1)) items0 ∷ []) false (to0 + 1) ((bytes0 ++ 40 ∷ own) ++ 41 ∷ []) refl
    (subst (λ bs. Opens opened0 (before ++ Parens (span place (to0 + 1)) items0 ∷ []) false (to0 + 1) bs) joined
    (extend opened0 before before_ended place bytes0 outer (40 ∷ (own ++ 41 ∷ [])) (to0 + 1) (before ++ Parens (span place (to0 + 1)) items0 ∷ []) false
    (λ from own' t. a_list (length opened0) from place to0 own' own before items0 before_ended ended0 t room s))))

abbrev After : List ℕ → ℕ → Result Reader TextFault → Type 0
After bytes b made = Outcome (bytes ++ b ∷ []) made

-- a byte after whole items, which ends a word
outside_sound : (opened : List Opened) (items : List Sexp) (ended : Bool) (at : ℕ) (bytes : List ℕ) → Opens opened items ended at bytes → (b : ℕ) (k : Class) → class_of b ≡ k → EndsWord k → Outcome (bytes ++ b ∷ []) (outside_class k (between opened items at) b)
outside_sound opened items ended at bytes so_far b class.Blank e ends =
    let is : 32 ≡ b = sym (class_fact b class.Blank e) in
    goes _ (holds_between opened items false (at + 1) (bytes ++ b ∷ []) refl
    (subst (λ c. Opens opened items false (at + 1) (bytes ++ c ∷ [])) is
    (extend opened items ended at bytes so_far (32 ∷ []) (at + 1) items false (λ from own s. blank (length opened) from at own items ended s))))
outside_sound opened items ended at bytes so_far b class.Open e ends =
    let is : 40 ≡ b = sym (class_fact b class.Open e) in
    subst (λ c. Outcome (bytes ++ c ∷ []) (open_list (between opened items at))) is (open_sound opened items ended at bytes so_far (nat_lt (length opened) MOST_DEPTH) refl)
outside_sound opened items ended at bytes so_far b class.Close e ends =
    let is : 41 ≡ b = sym (class_fact b class.Close e) in
    subst (λ c. Outcome (bytes ++ c ∷ []) (list_closed opened (between opened items at))) is (close_sound opened items ended at bytes so_far)
outside_sound opened items ended at bytes so_far b class.Quote e ends =
    let is : 34 ≡ b = sym (class_fact b class.Quote e) in
    let place : at + 1 + length {A = ℕ} [] ≡ at + 1 = add-zero (at + 1) in
    goes _ (holds_string opened items ended (at + 1) at bytes [] [] (bytes ++ b ∷ []) so_far empty place (ap (λ c. bytes ++ c ∷ []) is))
outside_sound opened items ended at bytes so_far b class.InWord e ends = absurd ends
outside_sound opened items ended at bytes so_far b class.Stray e ends =
    stops _ (bad_byte (map (λ (o : Opened). o.from) opened) at bytes b (unfinished_from_opens opened items ended at bytes so_far) (class_fact b class.Stray e))

one_byte_word : (b : ℕ) → is_word_byte b ≡ true → IsWord (b ∷ [])
one_byte_word b h = record { some = λ e. cc; made_of = and_from _ _ h refl }

-- a byte between items
between_sound : (opened : List Opened) (items : List Sexp) (at : ℕ) (bytes : List ℕ) → Opens opened items false at bytes → (b : ℕ) (k : Class) → class_of b ≡ k → Outcome (bytes ++ b ∷ []) (outside_class k (between opened items at) b)
between_sound opened items at bytes so_far b class.Blank e = outside_sound opened items false at bytes so_far b class.Blank e tt
between_sound opened items at bytes so_far b class.Open e = outside_sound opened items false at bytes so_far b class.Open e tt
between_sound opened items at bytes so_far b class.Close e = outside_sound opened items false at bytes so_far b class.Close e tt
between_sound opened items at bytes so_far b class.Quote e = outside_sound opened items false at bytes so_far b class.Quote e tt
between_sound opened items at bytes so_far b class.Stray e = outside_sound opened items false at bytes so_far b class.Stray e tt
between_sound opened items at bytes so_far b class.InWord e =
    goes _ (holds_word opened items (at + 1) at bytes (b ∷ []) (bytes ++ b ∷ []) so_far (one_byte_word b (class_fact b class.InWord e)) refl refl)

-- a byte in a word
word_goes : (opened : List Opened) (items : List Sexp) (at from : ℕ) (bytes word whole : List ℕ) → Opens opened items false from bytes → IsWord word → from + length word ≡ at → bytes ++ word ≡ whole → (b : ℕ) → is_word_byte b ≡ true → Outcome (whole ++ b ∷ []) (Ok (wording opened items (at + 1) from (word ++ b ∷ [])))
word_goes opened items at from bytes word whole so_far w place joined b h =
    let next : from + length (word ++ b ∷ []) ≡ at + 1 = simp length-append (omega arith) in
    goes _ (holds_word opened items (at + 1) from bytes (word ++ b ∷ []) (whole ++ b ∷ []) so_far
    (record { some = none_follows word b []; made_of = list_all-append is_word_byte word (b ∷ []) ∙ and_from _ _ w.made_of (and_from _ _ h refl) })
    next (sym (append_assoc bytes word (b ∷ [])) ∙ ap (λ bs. bs ++ b ∷ []) joined))

pub word_whole : (opened : List Opened) (items : List Sexp) (at from : ℕ) (bytes word whole : List ℕ) → Opens opened items false from bytes → IsWord word → from + length word ≡ at → bytes ++ word ≡ whole → Opens opened (items ++ Word (span from at) word ∷ []) true at whole
word_whole opened items at from bytes word whole so_far w place joined =
    subst (λ bs. Opens opened (items ++ Word (span from at) word ∷ []) true at bs) joined
    (subst (λ n. Opens opened (items ++ Word (span from n) word ∷ []) true n (bytes ++ word)) place
    (extend opened items false from bytes so_far word (from + length word) (items ++ Word (span from (from + length word)) word ∷ []) true
    (λ begin own s. a_word (length opened) begin from own items word s w)))

word_sound : (opened : List Opened) (items : List Sexp) (at from : ℕ) (bytes word whole : List ℕ) → Opens opened items false from bytes → IsWord word → from + length word ≡ at → bytes ++ word ≡ whole → (b : ℕ) (k : Class) → class_of b ≡ k → Outcome (whole ++ b ∷ []) (step (wording opened items at from word) b)
unfolding step
word_sound opened items at from bytes word whole so_far w place joined b class.InWord e =
    subst (λ kk. Outcome (whole ++ b ∷ []) (in_word_class kk (wording opened items at from word) from b)) (sym e) (word_goes opened items at from bytes word whole so_far w place joined b (class_fact b class.InWord e))
word_sound opened items at from bytes word whole so_far w place joined b class.Blank e = subst (Outcome (whole ++ b ∷ [])) (sym (step_word opened items at from word b class.Blank e tt)) (outside_sound opened (items ++ Word (span from at) word ∷ []) true at whole (word_whole opened items at from bytes word whole so_far w place joined) b class.Blank e tt)
word_sound opened items at from bytes word whole so_far w place joined b class.Open e = subst (Outcome (whole ++ b ∷ [])) (sym (step_word opened items at from word b class.Open e tt)) (outside_sound opened (items ++ Word (span from at) word ∷ []) true at whole (word_whole opened items at from bytes word whole so_far w place joined) b class.Open e tt)
word_sound opened items at from bytes word whole so_far w place joined b class.Close e = subst (Outcome (whole ++ b ∷ [])) (sym (step_word opened items at from word b class.Close e tt)) (outside_sound opened (items ++ Word (span from at) word ∷ []) true at whole (word_whole opened items at from bytes word whole so_far w place joined) b class.Close e tt)
word_sound opened items at from bytes word whole so_far w place joined b class.Quote e = subst (Outcome (whole ++ b ∷ [])) (sym (step_word opened items at from word b class.Quote e tt)) (outside_sound opened (items ++ Word (span from at) word ∷ []) true at whole (word_whole opened items at from bytes word whole so_far w place joined) b class.Quote e tt)
word_sound opened items at from bytes word whole so_far w place joined b class.Stray e = subst (Outcome (whole ++ b ∷ [])) (sym (step_word opened items at from word b class.Stray e tt)) (outside_sound opened (items ++ Word (span from at) word ∷ []) true at whole (word_whole opened items at from bytes word whole so_far w place joined) b class.Stray e tt)

-- the bytes end in the string
pub inside_string : (opened : List Opened) (items : List Sexp) (ended : Bool) (at from : ℕ) (bytes body value whole : List ℕ) → Opens opened items ended from bytes → Value body value → from + 1 + length body ≡ at → bytes ++ 34 ∷ body ≡ whole → InString from at value whole
inside_string opened items ended at from bytes body value whole so_far v place joined =
    subst (λ bs. InString from at value bs) joined
    (subst (λ n. InString from n value (bytes ++ 34 ∷ body)) place
    (in_string (map (λ (o : Opened). o.from) opened) from bytes body value (unfinished_from_opens opened items ended from bytes so_far) v))

end_sound : (opened : List Opened) (items : List Sexp) (ended : Bool) (at from : ℕ) (bytes body value whole : List ℕ) → Opens opened items ended from bytes → Value body value → from + 1 + length body ≡ at → bytes ++ 34 ∷ body ≡ whole → (test : Bool) → is_utf8 value ≡ test → Outcome (whole ++ 34 ∷ []) (end_str (quoting opened items at from value) from)
end_sound opened items ended at from bytes body value whole so_far v place joined true e =
    let text : bytes ++ (34 ∷ (body ++ 34 ∷ [])) ≡ whole ++ 34 ∷ [] = sym (append_assoc bytes (34 ∷ body) (34 ∷ [])) ∙ ap (λ bs. bs ++ 34 ∷ []) joined in
    rw e (goes _ (holds_between opened (items ++ Str (span from (at + 1)) value ∷ []) false (at + 1) (whole ++ 34 ∷ []) refl
    (subst (λ bs. Opens opened (items ++ Str (span from (at + 1)) value ∷ []) false (at + 1) bs) text
    (subst (λ n. Opens opened (items ++ Str (span from (n + 1)) value ∷ []) false (n + 1) (bytes ++ (34 ∷ (body ++ 34 ∷ [])))) place
    (extend opened items ended from bytes so_far (34 ∷ (body ++ 34 ∷ [])) (from + 1 + length body + 1) (items ++ Str (span from (from + 1 + length body + 1)) value ∷ []) false
    (λ begin own s. a_string (length opened) begin from own items ended body value s v (IsUtf8-from_is_utf8 value e)))))))
end_sound opened items ended at from bytes body value whole so_far v place joined false e =
    rw e (stops _ (bad_utf8 from at value whole (inside_string opened items ended at from bytes body value whole so_far v place joined)
    (λ good. let test : is_utf8 value ≡ true = is_utf8-from_IsUtf8 value good in cc)))

-- a byte in a string
string_sound : (opened : List Opened) (items : List Sexp) (ended : Bool) (at from : ℕ) (bytes body value whole : List ℕ) → Opens opened items ended from bytes → Value body value → from + 1 + length body ≡ at → bytes ++ 34 ∷ body ≡ whole → (b : ℕ) (k : InStr) → in_str_of b ≡ k → Outcome (whole ++ b ∷ []) (in_str_class k (quoting opened items at from value) from b)
string_sound opened items ended at from bytes body value whole so_far v place joined b str.Mark e =
    let is : 34 ≡ b = sym (str_fact b str.Mark e) in
    subst (λ c. Outcome (whole ++ c ∷ []) (end_str (quoting opened items at from value) from)) is (end_sound opened items ended at from bytes body value whole so_far v place joined (is_utf8 value) refl)
string_sound opened items ended at from bytes body value whole so_far v place joined b str.Backslash e =
    let is : 92 ≡ b = sym (str_fact b str.Backslash e) in
    goes _ (holds_escape opened items ended (at + 1) from at bytes body value [] (whole ++ b ∷ []) (mode.Slash from at) so_far v place slash_read (add-zero (at + 1))
    (ap (λ bs. bs ++ 92 ∷ []) joined ∙ ap (λ c. whole ++ c ∷ []) is))
string_sound opened items ended at from bytes body value whole so_far v place joined b str.Control e =
    stops _ (bad_byte_in_string from at value whole b (inside_string opened items ended at from bytes body value whole so_far v place joined) (str_fact b str.Control e))
string_sound opened items ended at from bytes body value whole so_far v place joined b str.Plain e =
    let next : from + 1 + length (body ++ b ∷ []) ≡ at + 1 = simp length-append (omega arith) in
    goes _ (holds_string opened items ended (at + 1) from bytes (body ++ b ∷ []) (value ++ b ∷ []) (whole ++ b ∷ []) so_far (plain body value b v (str_fact b str.Plain e)) next
    (sym (append_assoc bytes (34 ∷ body) (b ∷ [])) ∙ ap (λ bs. bs ++ b ∷ []) joined))

-- the bytes end in an escape
pub inside_escape : (opened : List Opened) (items : List Sexp) (ended : Bool) (from slash : ℕ) (bytes body value begun whole : List ℕ) (m : Mode) → Opens opened items ended from bytes → Value body value → from + 1 + length body ≡ slash → EscapeMode from slash begun m → (bytes ++ 34 ∷ body) ++ 92 ∷ begun ≡ whole → InEscape from slash begun whole
inside_escape opened items ended from slash bytes body value begun whole m so_far v place is joined =
    subst (λ bs. InEscape from slash begun bs) joined
    (in_escape from slash value (bytes ++ 34 ∷ body) begun (inside_string opened items ended slash from bytes body value (bytes ++ 34 ∷ body) so_far v place refl) (begins_from_mode from slash begun m is))

escape_joined : (bytes body begun whole : List ℕ) (b : ℕ) → (bytes ++ 34 ∷ body) ++ 92 ∷ begun ≡ whole → bytes ++ 34 ∷ (body ++ 92 ∷ (begun ++ b ∷ [])) ≡ whole ++ b ∷ []
escape_joined bytes body begun whole b joined = go where
  regrouped : bytes ++ 34 ∷ (body ++ 92 ∷ (begun ++ b ∷ [])) ≡ ((bytes ++ 34 ∷ body) ++ 92 ∷ begun) ++ b ∷ []
  regrouped = sym (append_assoc bytes (34 ∷ body) (92 ∷ (begun ++ b ∷ []))) ∙ sym (append_assoc (bytes ++ 34 ∷ body) (92 ∷ begun) (b ∷ []))

  go : bytes ++ 34 ∷ (body ++ 92 ∷ (begun ++ b ∷ [])) ≡ whole ++ b ∷ []
  go = regrouped ∙ ap (λ bs. bs ++ b ∷ []) joined

begun_joined : (bytes body begun whole : List ℕ) (b c : ℕ) → c ≡ b → (bytes ++ 34 ∷ body) ++ 92 ∷ begun ≡ whole → (bytes ++ 34 ∷ body) ++ 92 ∷ (begun ++ c ∷ []) ≡ whole ++ b ∷ []
begun_joined bytes body begun whole b c is joined =
    sym (append_assoc (bytes ++ 34 ∷ body) (92 ∷ begun) (c ∷ [])) ∙ ap (λ bs. bs ++ c ∷ []) joined ∙ ap (λ k. whole ++ k ∷ []) is

-- an escape that is whole goes on as a string
escape_goes : (opened : List Opened) (items : List Sexp) (ended : Bool) (at from slash : ℕ) (bytes body value begun whole : List ℕ) → Opens opened items ended from bytes → Value body value → from + 1 + length body ≡ slash → slash + 1 + length begun ≡ at → (bytes ++ 34 ∷ body) ++ 92 ∷ begun ≡ whole → (b made : ℕ) → Escape (begun ++ b ∷ []) made → Outcome (whole ++ b ∷ []) (Ok (quoting opened items (at + 1) from (value ++ made ∷ [])))
escape_goes opened items ended at from slash bytes body value begun whole so_far v place next joined b made escape =
    let last : from + 1 + length (body ++ 92 ∷ (begun ++ b ∷ [])) ≡ at + 1 = simp length-append (omega arith) in
    goes _ (holds_string opened items ended (at + 1) from bytes (body ++ 92 ∷ (begun ++ b ∷ [])) (value ++ made ∷ []) (whole ++ b ∷ []) so_far (escaped body value (begun ++ b ∷ []) made v escape) last
    (escape_joined bytes body begun whole b joined))

slash_sound : (opened : List Opened) (items : List Sexp) (ended : Bool) (at from slash : ℕ) (bytes body value whole : List ℕ) → Opens opened items ended from bytes → Value body value → from + 1 + length body ≡ slash → slash + 1 + 0 ≡ at → (bytes ++ 34 ∷ body) ++ 92 ∷ [] ≡ whole → (b : ℕ) (k : Slashed) → slashed_of b ≡ k → Outcome (whole ++ b ∷ []) (slashed_class k (in_mode (mode.Slash from slash) opened items at value) from slash)
slash_sound opened items ended at from slash bytes body value whole so_far v place next joined b (slashed.Short made) e =
    escape_goes opened items ended at from slash bytes body value [] whole so_far v place next joined b made (short_escape b made e)
slash_sound opened items ended at from slash bytes body value whole so_far v place next joined b slashed.Hex e =
    let last : slash + 1 + 1 ≡ at + 1 = omega arith in
    goes _ (holds_escape opened items ended (at + 1) from slash bytes body value (120 ∷ []) (whole ++ b ∷ []) (mode.Hex from slash) so_far v place x_read last
    (begun_joined bytes body [] whole b 120 (sym (slash_hex b e)) joined))
slash_sound opened items ended at from slash bytes body value whole so_far v place next joined b slashed.Wrong e =
    stops _ (bad_escape from slash [] whole b (inside_escape opened items ended from slash bytes body value [] whole (mode.Slash from slash) so_far v place slash_read joined) (wrong_slashed b e))

high_sound : (opened : List Opened) (items : List Sexp) (ended : Bool) (at from slash : ℕ) (bytes body value whole : List ℕ) → Opens opened items ended from bytes → Value body value → from + 1 + length body ≡ slash → slash + 1 + 1 ≡ at → (bytes ++ 34 ∷ body) ++ 92 ∷ 120 ∷ [] ≡ whole → (b : ℕ) (d : Option ℕ) → high_digit b ≡ d → Outcome (whole ++ b ∷ []) (high_taken d (in_mode (mode.Hex from slash) opened items at value) from slash)
high_sound opened items ended at from slash bytes body value whole so_far v place next joined b (Some high) e =
    let last : slash + 1 + 2 ≡ at + 1 = omega arith in
    goes _ (holds_escape opened items ended (at + 1) from slash bytes body value (120 ∷ hex_digit high ∷ []) (whole ++ b ∷ []) (mode.Digit from slash high) so_far v place (digit_read high (high_small b high e)) last
    (begun_joined bytes body (120 ∷ []) whole b (hex_digit high) (sym (high_is b high e)) joined))
high_sound opened items ended at from slash bytes body value whole so_far v place next joined b None e =
    stops _ (bad_escape from slash (120 ∷ []) whole b (inside_escape opened items ended from slash bytes body value (120 ∷ []) whole (mode.Hex from slash) so_far v place x_read joined) (wrong_high b e))

low_sound : (opened : List Opened) (items : List Sexp) (ended : Bool) (at from slash high : ℕ) (bytes body value whole : List ℕ) → high < 8 → Opens opened items ended from bytes → Value body value → from + 1 + length body ≡ slash → slash + 1 + 2 ≡ at → (bytes ++ 34 ∷ body) ++ 92 ∷ 120 ∷ hex_digit high ∷ [] ≡ whole → (b : ℕ) (d : Option ℕ) → low_digit b ≡ d → Outcome (whole ++ b ∷ []) (low_taken d (in_mode (mode.Digit from slash high) opened items at value) from slash high)
low_sound opened items ended at from slash high bytes body value whole small so_far v place next joined b (Some low) e =
    escape_goes opened items ended at from slash bytes body value (120 ∷ hex_digit high ∷ []) whole so_far v place next joined b (16 * high + low)
    (subst (λ c. Escape (120 ∷ hex_digit high ∷ c ∷ []) (16 * high + low)) (sym (low_is b low e)) (hex high low small (low_small b low e)))
low_sound opened items ended at from slash high bytes body value whole small so_far v place next joined b None e =
    stops _ (bad_escape from slash (120 ∷ hex_digit high ∷ []) whole b (inside_escape opened items ended from slash bytes body value (120 ∷ hex_digit high ∷ []) whole (mode.Digit from slash high) so_far v place (digit_read high small) joined) (wrong_low high b e))

escape_sound : (opened : List Opened) (items : List Sexp) (ended : Bool) (at from slash : ℕ) (bytes body value begun whole : List ℕ) (m : Mode) → Opens opened items ended from bytes → Value body value → from + 1 + length body ≡ slash → EscapeMode from slash begun m → slash + 1 + length begun ≡ at → (bytes ++ 34 ∷ body) ++ 92 ∷ begun ≡ whole → (b : ℕ) → Outcome (whole ++ b ∷ []) (step (in_mode m opened items at value) b)
unfolding step
escape_sound opened items ended at from slash bytes body value begun whole m so_far v place slash_read next joined b = slash_sound opened items ended at from slash bytes body value whole so_far v place next joined b (slashed_of b) refl
escape_sound opened items ended at from slash bytes body value begun whole m so_far v place x_read next joined b = high_sound opened items ended at from slash bytes body value whole so_far v place next joined b (high_digit b) refl
escape_sound opened items ended at from slash bytes body value begun whole m so_far v place (digit_read high small) next joined b = low_sound opened items ended at from slash high bytes body value whole small so_far v place next joined b (low_digit b) refl

-- one byte
pub step_sound : (r : Reader) (bytes : List ℕ) → Holds r bytes → (b : ℕ) → Outcome (bytes ++ b ∷ []) (step r b)
unfolding step
step_sound r whole (holds_between opened items ended at bytes e so_far) b = between_sound opened items at bytes (subst (λ t. Opens opened items t at bytes) e so_far) b (class_of b) refl
step_sound r whole (holds_word opened items at from bytes word whole' so_far w place joined) b = word_sound opened items at from bytes word whole' so_far w place joined b (class_of b) refl
step_sound r whole (holds_string opened items ended at from bytes body value whole' so_far v place joined) b = string_sound opened items ended at from bytes body value whole' so_far v place joined b (in_str_of b) refl
step_sound r whole (holds_escape opened items ended at from slash bytes body value begun whole' m so_far v place is next joined) b = escape_sound opened items ended at from slash bytes body value begun whole' m so_far v place is next joined b
