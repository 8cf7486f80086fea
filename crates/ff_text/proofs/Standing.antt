-- Where the reader stands after whole items, and how bytes take it on.
use Rattle.std.proofs.Common.{◌≡◌, ◌+◌, ℕ, suc, Bool, true, false, Result, Ok, Err, List, [], ◌∷◌, ◌++◌, length, refl, sym, ◌∙◌, ap, subst, arith, append_assoc, append-nil, add-zero}
use Rattle.std.specs.List.{list_all}
use Rattle.std.proofs.lemmas.Bool.{and_parts}
use Rattle.ff_text.specs.declared.items.Sexp.{Sexp}
use Rattle.ff_text.specs.declared.items.Sexp.TheVariants.{Word}
use Rattle.ff_text.specs.declared.items.TextFault.{TextFault}
use Rattle.ff_text.specs.declared.bytes.Class.{Class}
use Rattle.ff_text.specs.declared.bytes.Class.TheVariants as class
use Rattle.ff_text.specs.declared.reader.Reader.{Reader}
use Rattle.ff_text.specs.declared.reader.Opened.{Opened}
use Rattle.ff_text.specs.declared.reader.Mode.{Mode}
use Rattle.ff_text.specs.declared.reader.Mode.TheVariants as mode
use Rattle.ff_text.specs.Bytes.{is_word_byte}
use Rattle.ff_text.specs.Classes.{class_of}
use Rattle.ff_text.specs.Notation.{span, IsWord}
use Rattle.ff_text.specs.Machine.{advance, step, outside_class, finish, end_items}
use Rattle.ff_text.proofs.ClassLemmas.{class_of-word}

-- the reader between items, in a word and in a string
abbrev pub between : List Opened → List Sexp → ℕ → Reader
between opened items at = record { opened = opened; items = items; at = at; mode = mode.Between; word = []; value = [] }

abbrev pub wording : List Opened → List Sexp → (at from : ℕ) → List ℕ → Reader
wording opened items at from word = record { opened = opened; items = items; at = at; mode = mode.Word from; word = word; value = [] }

abbrev pub in_mode : Mode → List Opened → List Sexp → ℕ → List ℕ → Reader
in_mode m opened items at value = record { opened = opened; items = items; at = at; mode = m; word = []; value = value }

-- the reader is in a word that is the last of the items
pub record StandsInWord (opened : List Opened) (at : ℕ) (items : List Sexp) (r : Reader) : Type 0 where
  pub before : List Sexp
  pub from : ℕ
  pub word : List ℕ
  pub last : before ++ Word (span from at) word ∷ [] ≡ items
  pub is : r ≡ wording opened before at from word

abbrev pub Stands : List Opened → ℕ → List Sexp → Bool → Reader → Type 0
Stands opened at items false r = r ≡ between opened items at
Stands opened at items true r = StandsInWord opened at items r

-- bytes in two parts
pub advance-err : (bytes : List ℕ) (which : TextFault) → advance bytes (Err which) ≡ Err which
unfolding advance
advance-err [] which = refl
advance-err (b ∷ bytes) which = refl

pub advance-append : (xs ys : List ℕ) (r : Result Reader TextFault) → advance (xs ++ ys) r ≡ advance ys (advance xs r)
unfolding advance
advance-append [] ys r = refl
advance-append (b ∷ xs) ys (Ok r) = advance-append xs ys (step r b)
advance-append (b ∷ xs) ys (Err which) = sym (advance-err ys which)

pub advance-none : (r : Result Reader TextFault) → advance [] r ≡ r
unfolding advance
advance-none r = refl

pub advance-step : (b : ℕ) (bytes : List ℕ) (r next : Reader) → step r b ≡ Ok next → advance (b ∷ bytes) (Ok r) ≡ advance bytes (Ok next)
unfolding advance
advance-step b bytes r next e = ap (advance bytes) e

pub advance-stop : (b : ℕ) (bytes : List ℕ) (r : Reader) (which : TextFault) → step r b ≡ Err which → advance (b ∷ bytes) (Ok r) ≡ Err which
unfolding advance
advance-stop b bytes r which e = ap (advance bytes) e ∙ advance-err bytes which

pub advance-one : (r : Reader) (b : ℕ) → advance (b ∷ []) (Ok r) ≡ step r b
unfolding advance
advance-one r b = refl

-- one byte more
pub advance-more : (bytes : List ℕ) (b : ℕ) (begin : Result Reader TextFault) (r : Reader) → advance bytes begin ≡ Ok r → advance (bytes ++ b ∷ []) begin ≡ step r b
advance-more bytes b begin r h = advance-append bytes (b ∷ []) begin ∙ ap (advance (b ∷ [])) h ∙ advance-one r b

-- several bytes more
pub advance-then : (xs ys : List ℕ) (begin : Result Reader TextFault) (r : Reader) (end : Result Reader TextFault) → advance xs begin ≡ Ok r → advance ys (Ok r) ≡ end → advance (xs ++ ys) begin ≡ end
advance-then xs ys begin r end h k = advance-append xs ys begin ∙ ap (advance ys) h ∙ k

abbrev pub EndsWord : Class → Type 0
EndsWord class.Blank = Unit {0}
EndsWord class.Open = Unit {0}
EndsWord class.Close = Unit {0}
EndsWord class.Quote = Unit {0}
EndsWord class.InWord = ⊥
EndsWord class.Stray = Unit {0}

step_between : (opened : List Opened) (items : List Sexp) (at b : ℕ) (k : Class) → class_of b ≡ k → step (between opened items at) b ≡ outside_class k (between opened items at) b
unfolding step
step_between opened items at b k e = ap (λ (kk : Class). outside_class kk (between opened items at) b) e

pub step_word : (opened : List Opened) (items : List Sexp) (at from : ℕ) (word : List ℕ) (b : ℕ) (k : Class) → class_of b ≡ k → EndsWord k → step (wording opened items at from word) b ≡ outside_class k (between opened (items ++ Word (span from at) word ∷ []) at) b
unfolding step
step_word opened items at from word b class.Blank e ends = rw (e, e)
step_word opened items at from word b class.Open e ends = rw (e, e)
step_word opened items at from word b class.Close e ends = rw (e, e)
step_word opened items at from word b class.Quote e ends = rw (e, e)
step_word opened items at from word b class.InWord e ends = absurd ends
step_word opened items at from word b class.Stray e ends = rw (e, e)

-- a byte that ends a word is read as after the whole items
pub step_stands : (opened : List Opened) (at : ℕ) (items : List Sexp) (ended : Bool) (r : Reader) (b : ℕ) (k : Class) → Stands opened at items ended r → class_of b ≡ k → EndsWord k → step r b ≡ outside_class k (between opened items at) b
step_stands opened at items false r b k stands e ends = subst (λ s. step s b ≡ outside_class k (between opened items at) b) (sym stands) (step_between opened items at b k e)
step_stands opened at items true r b k stands e ends =
    subst (λ s. step s b ≡ outside_class k (between opened items at) b) (sym stands.is)
    (subst (λ all. step (wording opened stands.before at stands.from stands.word) b ≡ outside_class k (between opened all at) b) stands.last
    (step_word opened stands.before at stands.from stands.word b k e ends))

-- the end of the bytes is read as after the whole items
pub finish_stands : (opened : List Opened) (at : ℕ) (items : List Sexp) (ended : Bool) (r : Reader) → Stands opened at items ended r → finish r ≡ end_items (between opened items at)
unfolding finish
finish_stands opened at items false r stands = subst (λ s. finish s ≡ end_items (between opened items at)) (sym stands) refl
finish_stands opened at items true r stands =
    subst (λ s. finish s ≡ end_items (between opened items at)) (sym stands.is)
    (subst (λ all. finish (wording opened stands.before at stands.from stands.word) ≡ end_items (between opened all at)) stands.last refl)

-- a word
word_more : (opened : List Opened) (items : List Sexp) (at from : ℕ) (done more : List ℕ) → list_all is_word_byte more ≡ true → advance more (Ok (wording opened items at from done)) ≡ Ok (wording opened items (at + length more) from (done ++ more))
unfolding advance step
word_more opened items at from done [] h = rw (add-zero, append-nil)
word_more opened items at from done (b ∷ more) h =
    let parts = and_parts (is_word_byte b) (list_all is_word_byte more) h in
    let place : at + 1 + length more ≡ at + suc (length more) = omega arith in
    let bytes : (done ++ b ∷ []) ++ more ≡ done ++ b ∷ more = append_assoc done (b ∷ []) more in
    rw (class_of-word b parts.0)
    (word_more opened items (at + 1) from (done ++ b ∷ []) more parts.1
    ∙ ap (λ n. Ok (wording opened items n from ((done ++ b ∷ []) ++ more))) place
    ∙ ap (λ bs. Ok (wording opened items (at + suc (length more)) from bs)) bytes)

pub word_run : (opened : List Opened) (items : List Sexp) (at : ℕ) (word : List ℕ) → IsWord word → advance word (Ok (between opened items at)) ≡ Ok (wording opened items (at + length word) at word)
unfolding advance step
word_run opened items at [] h = absurd (h.some refl)
word_run opened items at (b ∷ more) h =
    let parts = and_parts (is_word_byte b) (list_all is_word_byte more) h.made_of in
    let place : at + 1 + length more ≡ at + suc (length more) = omega arith in
    rw (class_of-word b parts.0)
    (word_more opened items (at + 1) at (b ∷ []) more parts.1
    ∙ ap (λ n. Ok (wording opened items n at (b ∷ more))) place)
