-- What a run of bytes does to the reader.
use Rattle.std.proofs.Common.{◌≡◌, ◌≢◌, ◌⊎◌, ◌<◌, ◌≤◌, ◌+◌, ◌-◌, ◌==◌, ℕ, suc, zero, Bool, true, false, if◌then◌else◌, Result, Ok, Err, List, [], ◌∷◌, ◌++◌, length, take, drop, get_or, refl, sym, ◌∙◌, ap, subst, arith, append_assoc, append-nil, add-zero, length-append}
use Rattle.std.specs.Prelude.{IsErrAnd}
use Rattle.std.specs.List.{list_all}
use Rattle.std.specs.Str.{is_utf8}
use Rattle.std.proofs.lemmas.Bool.{and_parts}
use Rattle.std.proofs.lemmas.Bool.Decides.{nat_tests}
use Rattle.std.proofs.lemmas.List.{take_more, take-append-drop, length-take-le, length-drop, take_all, drop_all}
use Rattle.ff_text.specs.declared.bytes.Class.{Class}
use Rattle.ff_text.specs.declared.bytes.Class.TheVariants as class
use Rattle.ff_text.specs.declared.bytes.InStr.TheVariants as str
use Rattle.ff_text.specs.declared.items.Sexp.{Sexp}
use Rattle.ff_text.specs.declared.items.Sexp.TheVariants.{Word, Str}
use Rattle.ff_text.specs.declared.items.TextFault.{TextFault}
use Rattle.ff_text.specs.declared.items.TextFault.TheVariants as fault
use Rattle.ff_text.specs.declared.reader.Reader.{Reader}
use Rattle.ff_text.specs.declared.reader.Opened.{Opened}
use Rattle.ff_text.specs.declared.reader.Mode.{Mode}
use Rattle.ff_text.specs.declared.reader.Mode.TheVariants as mode
use Rattle.ff_text.specs.Bytes.{is_word_byte, is_plain_byte}
use Rattle.ff_text.specs.Classes.{class_of, in_str_of}
use Rattle.ff_text.specs.Machine.{HasDigit, MakesSome, advance, step, step_in, start, outside, end_str, string_put, word_run, word_put, word_ended, value_run, GoesOn, verdict, verdict_of, finish, finish_in, end_items}
use Rattle.ff_text.specs.Notation.{span}
use Rattle.ff_text.proofs.ClassLemmas.{class_of-word}
use Rattle.ff_text.proofs.Room.{Grows, step_grows}
use Rattle.ff_text.proofs.Standing.{advance-append, advance-err, advance-none, advance-one}

-- a byte at the front, and what it does
front_one : (left : List ℕ) → 0 < length left → take 1 left ≡ get_or left 0 0 ∷ []
front_one [] some = absurd (omega arith)
front_one (b ∷ left) some = refl

pub takes_one : (left : List ℕ) (old : Reader) → 0 < length left → advance (take 1 left) (Ok old) ≡ step old (get_or left 0 0)
takes_one left old some = ap (λ bs. advance bs (Ok old)) (front_one left some) ∙ advance-one old (get_or left 0 0)

-- a fault at the front is that of the whole
pub stops_some : (left : List ℕ) (n : ℕ) (old : Reader) (which : TextFault) → advance (take n left) (Ok old) ≡ Err which → advance left (Ok old) ≡ Err which
stops_some left n old which e =
    ap (λ bs. advance bs (Ok old)) (sym (take-append-drop n left)) ∙ advance-append (take n left) (drop n left) (Ok old)
    ∙ ap (advance (drop n left)) e ∙ advance-err (drop n left) which

pub stops_one : (left : List ℕ) (old : Reader) (which : TextFault) → 0 < length left → step old (get_or left 0 0) ≡ Err which → advance left (Ok old) ≡ Err which
stops_one left old which some e = stops_some left 1 old which (takes_one left old some ∙ e)

-- a blank
pub blank_on : (r : Reader) (b : ℕ) → b ≡ 32 → outside r b ≡ Ok (record r { at = r.at + 1 })
unfolding class_of
blank_on r b e = rw e refl

pub takes_blank : (left : List ℕ) (old : Reader) → old.mode ≡ mode.Between → 0 < length left → get_or left 0 0 ≡ 32 → advance (take 1 left) (Ok old) ≡ Ok (record old { at = old.at + 1 })
unfolding step
takes_blank left old between some e = takes_one left old some ∙ ap (λ m. step_in m old (get_or left 0 0)) between ∙ blank_on old (get_or left 0 0) e

-- a word that goes on
goes_on : (opened : List Opened) (items : List Sexp) (at from : ℕ) (word value more : List ℕ) → list_all is_word_byte more ≡ true
    → advance more (Ok (record { opened = opened; items = items; at = at; mode = mode.Word from; word = word; value = value }))
    ≡ Ok (record { opened = opened; items = items; at = at + length more; mode = mode.Word from; word = word ++ more; value = value })
unfolding advance step
goes_on opened items at from word value [] h = rw (add-zero, append-nil)
goes_on opened items at from word value (b ∷ more) h =
    let parts = and_parts (is_word_byte b) (list_all is_word_byte more) h in
    let place : at + 1 + length more ≡ at + suc (length more) = omega arith in
    let bytes : (word ++ b ∷ []) ++ more ≡ word ++ b ∷ more = append_assoc word (b ∷ []) more in
    rw (class_of-word b parts.0)
    (goes_on opened items (at + 1) from (word ++ b ∷ []) value more parts.1
    ∙ ap (λ n. Ok (record { opened = opened; items = items; at = n; mode = mode.Word from; word = (word ++ b ∷ []) ++ more; value = value })) place
    ∙ ap (λ bs. Ok (record { opened = opened; items = items; at = at + suc (length more); mode = mode.Word from; word = bs; value = value })) bytes)

-- a word that begins
begins : (opened : List Opened) (items : List Sexp) (at : ℕ) (word value run : List ℕ) → 0 < length run → list_all is_word_byte run ≡ true
    → advance run (Ok (record { opened = opened; items = items; at = at; mode = mode.Between; word = word; value = value }))
    ≡ Ok (record { opened = opened; items = items; at = at + length run; mode = mode.Word at; word = word ++ run; value = value })
unfolding advance step
begins opened items at word value [] some h = absurd (omega arith)
begins opened items at word value (b ∷ more) some h =
    let parts = and_parts (is_word_byte b) (list_all is_word_byte more) h in
    let place : at + 1 + length more ≡ at + suc (length more) = omega arith in
    let bytes : (word ++ b ∷ []) ++ more ≡ word ++ b ∷ more = append_assoc word (b ∷ []) more in
    rw (class_of-word b parts.0)
    (goes_on opened items (at + 1) at (word ++ b ∷ []) value more parts.1
    ∙ ap (λ n. Ok (record { opened = opened; items = items; at = n; mode = mode.Word at; word = (word ++ b ∷ []) ++ more; value = value })) place
    ∙ ap (λ bs. Ok (record { opened = opened; items = items; at = at + suc (length more); mode = mode.Word at; word = bs; value = value })) bytes)

pub runs_word : (old : Reader) (run : List ℕ) → old.mode ≡ mode.Between → 0 < length run → list_all is_word_byte run ≡ true → advance run (Ok old) ≡ Ok (word_run old run)
runs_word old run between some h =
    ap (λ (m : Mode). advance run (Ok (record old { mode = m }))) between ∙ begins old.opened old.items old.at old.word old.value run some h

-- a string's bytes that stand for themselves
plain_class : (b : ℕ) → is_plain_byte b ≡ true → in_str_of b ≡ str.Plain
unfolding in_str_of
plain_class b h = grind (arith, nat_tests)

plain_on : (opened : List Opened) (items : List Sexp) (at from : ℕ) (word value more : List ℕ) → list_all is_plain_byte more ≡ true
    → advance more (Ok (record { opened = opened; items = items; at = at; mode = mode.Str from; word = word; value = value }))
    ≡ Ok (record { opened = opened; items = items; at = at + length more; mode = mode.Str from; word = word; value = value ++ more })
unfolding advance step
plain_on opened items at from word value [] h = rw (add-zero, append-nil)
plain_on opened items at from word value (b ∷ more) h =
    let parts = and_parts (is_plain_byte b) (list_all is_plain_byte more) h in
    let place : at + 1 + length more ≡ at + suc (length more) = omega arith in
    let bytes : (value ++ b ∷ []) ++ more ≡ value ++ b ∷ more = append_assoc value (b ∷ []) more in
    rw (plain_class b parts.0)
    (plain_on opened items (at + 1) from word (value ++ b ∷ []) more parts.1
    ∙ ap (λ n. Ok (record { opened = opened; items = items; at = n; mode = mode.Str from; word = word; value = (value ++ b ∷ []) ++ more })) place
    ∙ ap (λ bs. Ok (record { opened = opened; items = items; at = at + suc (length more); mode = mode.Str from; word = word; value = bs })) bytes)

pub runs_plain : (old : Reader) (from : ℕ) (run : List ℕ) → old.mode ≡ mode.Str from → list_all is_plain_byte run ≡ true → advance run (Ok old) ≡ Ok (value_run old run)
runs_plain old from run quoted h =
    ap (λ (m : Mode). advance run (Ok (record old { mode = m }))) quoted ∙ plain_on old.opened old.items old.at from old.word old.value run h
    ∙ ap (λ (m : Mode). Ok (record (value_run old run) { mode = m })) (sym quoted)

-- the byte after a word ends it
not_word : (b : ℕ) → is_word_byte b ≡ false → class_of b ≢ class.InWord
unfolding class_of
not_word b h e = grind (arith, nat_tests)

ends_word : (r : Reader) (from b : ℕ) → r.mode ≡ mode.Word from → is_word_byte b ≡ false → step r b ≡ outside (word_ended r from) b
unfolding step
ends_word r from b in_word h = by_class (class_of b) refl where
  by_class : (k : Class) → class_of b ≡ k → step r b ≡ outside (word_ended r from) b
  by_class class.Blank e = rw (in_word, e, e)
  by_class class.Open e = rw (in_word, e, e)
  by_class class.Close e = rw (in_word, e, e)
  by_class class.Quote e = rw (in_word, e, e)
  by_class class.InWord e = absurd (not_word b h e)
  by_class class.Stray e = rw (in_word, e, e)

-- some bytes pass where the first does
pub some_front : (test : ℕ → Bool) (left : List ℕ) (n : ℕ) → (n < length left → test (get_or left n 0) ≡ false) → 0 < length left → test (get_or left 0 0) ≡ true → 0 < n
some_front test left zero longest some first = let other : test (get_or left 0 0) ≡ false = longest some in cc
some_front test left (suc n) longest some first = omega arith

pub takes_plain : (old : Reader) (left value : List ℕ) (from n : ℕ) → old.mode ≡ mode.Str from → n ≤ length left → list_all is_plain_byte (take n left) ≡ true → value ≡ old.value ++ take n left
    → advance (take n left) (Ok old) ≡ Ok (record old { value = value; at = old.at + n })
takes_plain old left value from n quoted within h is =
    runs_plain old from (take n left) quoted h
    ∙ ap (λ k. Ok (record old { value = old.value ++ take n left; at = old.at + k })) (length-take-le n left within)
    ∙ ap (λ bs. Ok (record old { value = bs; at = old.at + n })) (sym is)

pub begins_word : (old : Reader) (left : List ℕ) (n : ℕ) → old.mode ≡ mode.Between → 0 < n → n ≤ length left → list_all is_word_byte (take n left) ≡ true → advance (take n left) (Ok old) ≡ Ok (word_run old (take n left))
begins_word old left n between some within h = runs_word old (take n left) between (subst (λ k. 0 < k) (sym (length-take-le n left within)) some) h

abbrev made_of : Reader → Result Reader TextFault
made_of r = Ok r

same_reader : (one other : Reader) → made_of one ≡ made_of other → one ≡ other
same_reader one other e = cc

pub takes_word : (old begun ended : Reader) (left : List ℕ) (n : ℕ) (made : Result Reader TextFault) → old.mode ≡ mode.Between → 0 < n → n < length left
    → list_all is_word_byte (take n left) ≡ true → is_word_byte (get_or left n 0) ≡ false
    → made_of (word_run old (take n left)) ≡ Ok begun → made_of (word_ended begun old.at) ≡ Ok ended → outside ended (get_or left n 0) ≡ made
    → advance (take (n + 1) left) (Ok old) ≡ made
takes_word old begun ended left n made between some inside h next e f g =
    let b = get_or left n 0 in
    let begun_is : word_run old (take n left) ≡ begun = same_reader _ _ e in
    ap (λ bs. advance bs (Ok old)) (take_more left n 0 inside) ∙ advance-append (take n left) (b ∷ []) (Ok old)
    ∙ ap (advance (b ∷ [])) (begins_word old left n between some (omega arith) h ∙ e) ∙ advance-one begun b
    ∙ ends_word begun old.at b (ap (λ r. r.mode) (sym begun_is)) next
    ∙ ap (λ r. outside r b) (same_reader _ _ f) ∙ g

-- the same where the word is put at once
whole_word : (old : Reader) (word : List ℕ) → old.mode ≡ mode.Between → old.word ≡ [] → word_ended (word_run old word) old.at ≡ word_put old word
whole_word old word between none =
    ap (λ bs. record (word_put old word) { mode = mode.Between; word = []; items = old.items ++ Word (span old.at (old.at + length word)) (bs ++ word) ∷ [] }) none
    ∙ ap (λ (m : Mode). record (word_put old word) { mode = m; word = [] }) (sym between) ∙ ap (λ bs. record (word_put old word) { word = bs }) (sym none)

pub takes_whole_word : (old put : Reader) (left : List ℕ) (n : ℕ) (made : Result Reader TextFault) → old.mode ≡ mode.Between → old.word ≡ [] → 0 < n → n < length left
    → list_all is_word_byte (take n left) ≡ true → is_word_byte (get_or left n 0) ≡ false
    → made_of (word_put old (take n left)) ≡ Ok put → outside put (get_or left n 0) ≡ made
    → advance (take (n + 1) left) (Ok old) ≡ made
takes_whole_word old put left n made between none some inside h next e g =
    takes_word old (word_run old (take n left)) put left n made between some inside h next refl (ap made_of (whole_word old (take n left) between none) ∙ e) g

-- a string without escapes
abbrev in_string : Reader → Reader
in_string r = record r { mode = mode.Str r.at; at = r.at + 1 }

mark_on : (r : Reader) (b : ℕ) → b ≡ 34 → outside r b ≡ Ok (in_string r)
unfolding class_of
mark_on r b e = rw e refl

mark_ends : (r : Reader) (from b : ℕ) → r.mode ≡ mode.Str from → b ≡ 34 → step r b ≡ end_str r from
unfolding step in_str_of
mark_ends r from b quoted e = rw (quoted, e) refl

pub takes_outside : (left : List ℕ) (old : Reader) → old.mode ≡ mode.Between → 0 < length left → advance (take 1 left) (Ok old) ≡ outside old (get_or left 0 0)
unfolding step
takes_outside left old between some = takes_one left old some ∙ ap (λ m. step_in m old (get_or left 0 0)) between

string_in : (opened : List Opened) (items : List Sexp) (at : ℕ) (word value : List ℕ)
    → end_str (value_run (record { opened = opened; items = items; at = at + 1; mode = mode.Str at; word = word; value = [] }) value) at
    ≡ string_put (record { opened = opened; items = items; at = at; mode = mode.Between; word = word; value = [] }) value
string_in opened items at word value =
    let place : at + 1 + length value + 1 ≡ at + (length value + 2) = omega arith in
    ap
    (λ k. if is_utf8 value
    then Ok (record { opened = opened; items = items ++ Str (span at k) value ∷ []; at = k; mode = mode.Between; word = word; value = [] })
    else Err (fault.BadUtf8 at)) place

whole_string : (old : Reader) (value : List ℕ) → old.mode ≡ mode.Between → old.value ≡ [] → end_str (value_run (in_string old) value) old.at ≡ string_put old value
whole_string old value between none =
    ap (λ bs. end_str (value_run (record (in_string old) { value = bs }) value) old.at) none
    ∙ string_in old.opened old.items old.at old.word value
    ∙ ap (λ (m : Mode). string_put (record old { mode = m; value = [] }) value) (sym between) ∙ ap (λ bs. string_put (record old { value = bs }) value) (sym none)

pub string_good : (r : Reader) (value : List ℕ) → is_utf8 value ≡ true
    → string_put r value ≡ Ok (record r { items = r.items ++ Str (span r.at (r.at + (length value + 2))) value ∷ []; at = r.at + (length value + 2) })
string_good r value e = rw e refl

-- all but the first
pub rest_all : (left : List ℕ) → take (length left - 1) (drop 1 left) ≡ drop 1 left
rest_all left = let size = length-drop 1 left in take_all (length left - 1) (drop 1 left) (omega (arith, size))

string_bytes : (b : ℕ) (rest : List ℕ) (n : ℕ) → n < length rest → get_or rest n 0 ≡ 34 → take (n + 2) (b ∷ rest) ≡ b ∷ (take n rest ++ 34 ∷ [])
string_bytes b rest n inside e =
    let more : n + 2 ≡ suc (n + 1) = omega arith in
    ap (λ k. take k (b ∷ rest)) more ∙ ap (λ bs. b ∷ bs) (take_more rest n 0 inside) ∙ ap (λ x. b ∷ (take n rest ++ x ∷ [])) e

pub takes_string : (old : Reader) (left : List ℕ) (n : ℕ) → old.mode ≡ mode.Between → old.value ≡ [] → 0 < length left → get_or left 0 0 ≡ 34 → n < length (drop 1 left)
    → list_all is_plain_byte (take n (drop 1 left)) ≡ true → get_or (drop 1 left) n 0 ≡ 34 → advance (take (n + 2) left) (Ok old) ≡ string_put old (take n (drop 1 left))
unfolding advance step
takes_string old [] n between none some first inside h last = absurd (omega arith)
takes_string old (b ∷ rest) n between none some first inside h last =
    let value = take n rest in
    ap (λ bs. advance bs (Ok old)) (string_bytes b rest n inside last)
    ∙ ap (advance (value ++ 34 ∷ [])) (ap (λ m. step_in m old b) between ∙ mark_on old b first)
    ∙ advance-append value (34 ∷ []) (Ok (in_string old))
    ∙ ap (advance (34 ∷ [])) (runs_plain (in_string old) old.at value refl h) ∙ advance-one (value_run (in_string old) value) 34
    ∙ mark_ends (value_run (in_string old) value) old.at 34 refl refl
    ∙ whole_string old value between none

-- a refusal
pub some_err : (answer : Result ℕ TextFault) (old new : Reader) (left : List ℕ) (which : TextFault) → IsErrAnd answer (λ e. e ≡ which) → (which ≡ fault.NoMemory) ⊎ (advance left (Ok old) ≡ Err which) → MakesSome answer old new left
some_err (Ok n) old new left which is made = absurd is
some_err (Err e) old new left which is made = subst (λ w. (w ≡ fault.NoMemory) ⊎ (advance left (Ok old) ≡ Err w)) (sym is) made

-- the places that were read, and whether a digit is below 8
pub record Reaches (old new : Reader) (n : ℕ) : Type 0 where
  pub place : new.at ≡ old.at + n
  pub digit : HasDigit new.mode

pub reaches : (bytes : List ℕ) (old new : Reader) → HasDigit old.mode → advance bytes (Ok old) ≡ Ok new → Reaches old new (length bytes)
unfolding advance
reaches [] old new digit e = let same : old ≡ new = cc in record { place = ap (λ r. r.at) (sym same) ∙ sym (add-zero old.at); digit = subst (λ r. HasDigit r.mode) same digit }
reaches (b ∷ bytes) old new digit e = by_step (step old b) (λ r. reaches bytes r new) (step_grows old b digit) e where
  by_step : (made : Result Reader TextFault) → ((r : Reader) → HasDigit r.mode → advance bytes (Ok r) ≡ Ok new → Reaches r new (length bytes)) → Grows old.at made → advance bytes made ≡ Ok new → Reaches old new (suc (length bytes))
  by_step (Ok r) later grows f =
      let rest = later r grows.1 f in
      let one : r.at ≡ old.at + 1 = grows.0 in
      let more : new.at ≡ r.at + length bytes = rest.place in
      record { place = omega arith; digit = rest.digit }
  by_step (Err which) later grows f = let stopped : advance bytes (Err which) ≡ Err which = advance-err bytes which in cc

-- the bytes at the front, and the others
front_first : (left : List ℕ) (n : ℕ) (old new : Reader) → advance (take n left) (Ok old) ≡ Ok new → verdict_of (advance left (Ok old)) ≡ verdict_of (advance (drop n left) (Ok new))
front_first left n old new e =
    ap verdict_of
    (ap (λ bs. advance bs (Ok old)) (sym (take-append-drop n left)) ∙ advance-append (take n left) (drop n left) (Ok old)
    ∙ ap (advance (drop n left)) e)

pub front_made : (left : List ℕ) (n : ℕ) (old new : Reader) → n ≤ length left → HasDigit old.mode → advance (take n left) (Ok old) ≡ Ok new → GoesOn old new n left
front_made left n old new within digit e =
    let so_far = reaches (take n left) old new digit e in
    record {
      same = front_first left n old new e;
      place = so_far.place ∙ ap (λ k. old.at + k) (length-take-le n left within);
      digit = so_far.digit;
    }

-- a word at the end is the same whether more of it might come or not
word_over : (old : Reader) (word : List ℕ) → old.mode ≡ mode.Between → old.word ≡ [] → finish (word_run old word) ≡ finish (word_put old word)
unfolding finish
word_over old word between none =
    ap end_items (whole_word old word between none) ∙ ap (λ m. finish_in m (word_put old word)) (sym between)

pub last_word : (old put : Reader) (left : List ℕ) (n : ℕ) → old.mode ≡ mode.Between → old.word ≡ [] → 0 < n → n ≡ length left → list_all is_word_byte (take n left) ≡ true
    → made_of (word_put old (take n left)) ≡ Ok put → GoesOn old put n left
last_word old put left n between none some all h e =
    let over : drop n left ≡ [] = drop_all n left (omega (arith, all)) in
    let is_put : word_put old (take n left) ≡ put = same_reader _ _ e in
    let within : n ≤ length left = omega (arith, all) in
    record {
      same = front_first left n old _ (begins_word old left n between some within h) ∙ ap (λ bs. verdict_of (advance bs (Ok (word_run old (take n left))))) over
          ∙ ap verdict_of (advance-none (Ok (word_run old (take n left))))
          ∙ word_over old (take n left) between none ∙ ap finish is_put ∙ sym (ap verdict_of (advance-none (Ok put))) ∙ ap (λ bs. verdict_of (advance bs (Ok put))) (sym over);
      place = ap (λ r. r.at) (sym is_put) ∙ ap (λ k. old.at + k) (length-take-le n left within);
      digit = subst (λ r. HasDigit r.mode) is_put (subst HasDigit (sym between) tt);
    }

-- those of the bytes that are left give what all of them give
pub record ReadsUpTo (bytes left : List ℕ) (r : Reader) : Type 0 where
  pub same : verdict bytes ≡ verdict_of (advance left (Ok r))
  pub place : r.at + length left ≡ length bytes
  pub digit : HasDigit r.mode

pub up_to_none : (bytes : List ℕ) → ReadsUpTo bytes bytes start
up_to_none bytes = record { same = refl; place = omega arith; digit = tt }

pub up_to_more : (bytes left after : List ℕ) (n : ℕ) (old new : Reader) → ReadsUpTo bytes left old → n ≤ length left → GoesOn old new n left → after ≡ drop n left → ReadsUpTo bytes after new
up_to_more bytes left after n old new so_far within more is =
    let parts : n + length (drop n left) ≡ length left =
    ap (λ k. k + length (drop n left)) (sym (length-take-le n left within)) ∙ sym (length-append (take n left) (drop n left)) ∙ ap length (take-append-drop n left) in
    let rest : length after ≡ length (drop n left) = ap length is in
    let place : new.at ≡ old.at + n = more.place in
    let before : old.at + length left ≡ length bytes = so_far.place in
    record {
      same = so_far.same ∙ more.same ∙ ap (λ bs. verdict_of (advance bs (Ok new))) (sym is);
      place = omega arith;
      digit = more.digit;
    }

pub up_to_stop : (bytes left : List ℕ) (r : Reader) (which : TextFault) → ReadsUpTo bytes left r → advance left (Ok r) ≡ Err which → verdict bytes ≡ Err which
up_to_stop bytes left r which so_far e = so_far.same ∙ ap verdict_of e

none_left : (n : ℕ) → (suc n == 0) ≡ true → ⊥
none_left n h = let e : suc n ≡ 0 = grind (arith, nat_tests) in omega (arith, e)

pub up_to_all : (bytes left : List ℕ) (r : Reader) → ReadsUpTo bytes left r → (length left == 0) ≡ true → verdict bytes ≡ finish r
up_to_all bytes [] r so_far none = so_far.same ∙ ap verdict_of (advance-none (Ok r))
up_to_all bytes (b ∷ left) r so_far none = absurd (none_left (length left) none)
