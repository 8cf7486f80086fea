-- The words of the command line, one by one.
use Rattle.std.proofs.Common.{◌≡◌, ◌⊎◌, inl, inr, ℕ, ◌<◌, ◌≤◌, ◌^◌, cond, List, [], ◌∷◌, length, map, codes, bytes_eq, String, Global, refl, sym, ap, ◌∙◌, arith}
use Rattle.std.specs.Str.Parse.{digits_value}
use Rattle.std.specs.String.{string_bytes}
use Rattle.std.proofs.lemmas.Fmt.{digits_value-decimal}
use Rattle.std.proofs.lemmas.List.{length-map}
use Rattle.ff_number.specs.Decimal.{nat_text}
use Rattle.ff_number.proofs.Canonical.{own}
use Rattle.ff_gen.specs.declared.generator.TheConstants.{MOST_LINES}
use Rattle.ff_session.specs.declared.multi.TheConstants.{USUAL_SLICE}
use Rattle.ff_run.specs.Words.{AreCommand, AreNames, AreUnder, Asks, Command, Spell}

-- ---- one command

-- the command of words that are one
abbrev command_in : List (List ℕ) → Command
command_in (word ∷ policy ∷ []) =
    cond (bytes_eq word (codes "check")) (Command.check policy) (cond (bytes_eq word (codes "upgrade")) (Command.upgrade policy) (cond (bytes_eq word (codes "multi")) (Command.multi policy USUAL_SLICE)
    (cond (bytes_eq word (codes "plain")) (Command.plain policy) (cond (bytes_eq word (codes "fmt")) (Command.format policy) (cond (bytes_eq word (codes "audit")) (Command.audit policy) (Command.travel policy))))))
command_in (word ∷ first ∷ second ∷ []) =
    cond (bytes_eq word (codes "multi")) (Command.multi first (digits_value 10 second)) (cond (bytes_eq word (codes "gen")) (Command.generate (digits_value 10 first) (digits_value 10 second))
    (cond (bytes_eq word (codes "resume")) (Command.resume first second) (Command.release first second)))
command_in others = Command.check []

value_of : (n : ℕ) → n < 2 ^ 64 → digits_value 10 (nat_text n) ≡ n
value_of n fits = digits_value-decimal own n fits

spelled_in : (words : List (List ℕ)) (c : Command) → Spell words c → command_in words ≡ c
spelled_in words (Command.check policy) spelled = ap command_in spelled.words_are
spelled_in words (Command.upgrade policy) spelled = ap command_in spelled.words_are
spelled_in words (Command.plain policy) spelled = ap command_in spelled.words_are
spelled_in words (Command.format policy) spelled = ap command_in spelled.words_are
spelled_in words (Command.audit policy) spelled = ap command_in spelled.words_are
spelled_in words (Command.travel policy) spelled = ap command_in spelled.words_are
spelled_in words (Command.resume policy from) spelled = ap command_in spelled.words_are
spelled_in words (Command.release policy rules) spelled = ap command_in spelled.words_are
spelled_in words (Command.multi policy slice) (inl usual) = ap command_in usual.0.words_are ∙ ap (λ n. Command.multi policy n) (sym usual.1)
spelled_in words (Command.multi policy slice) (inr number) =
    let most = number.most in
    ap command_in number.words_are ∙ ap (λ n. Command.multi policy n) (value_of slice (omega (arith, most)))
spelled_in words (Command.generate start inputs) spelled =
    let few = spelled.few in
    ap command_in spelled.words_are ∙ ap (λ n. Command.generate n (digits_value 10 (nat_text inputs))) (value_of start spelled.start_fits)
    ∙ ap (λ n. Command.generate start n) (value_of inputs (omega (arith, few)))

-- so words ask for one command
pub asks_once : (words : List (String Global)) (c d : Command) → Asks words c → Asks words d → c ≡ d
asks_once words c d first second = sym (spelled_in (map string_bytes words) c first.spelled) ∙ spelled_in (map string_bytes words) d second.spelled

-- ---- two words

pub under : (word policy expected : List ℕ) → word ≡ expected → (policy ≡ [] → ⊥) → AreUnder (word ∷ policy ∷ []) expected policy
under word policy expected is some = record { words_are = ap (λ w. w ∷ policy ∷ []) is; named = some }

pub under_usual : (word policy : List ℕ) → word ≡ codes "multi" → (policy ≡ [] → ⊥) → Spell (word ∷ policy ∷ []) (Command.multi policy USUAL_SLICE)
under_usual word policy is some = inl (under word policy (codes "multi") is some, refl)

-- two words aren't three
not_three : (a b x y z : List ℕ) → ◌≡◌ {A = List (List ℕ)} (a ∷ b ∷ []) (x ∷ y ∷ z ∷ []) → ⊥
not_three a b x y z same = let long = ap length same in omega (arith, long)

abbrev first_of : List (List ℕ) → List ℕ
first_of [] = []
first_of (w ∷ ws) = w

abbrev second_of : List (List ℕ) → List ℕ
second_of (v ∷ w ∷ ws) = w
second_of others = []

abbrev third_of : List (List ℕ) → List ℕ
third_of (u ∷ v ∷ w ∷ ws) = w
third_of others = []

pub no_policy : (word policy : List ℕ) → policy ≡ [] → (c : Command) → ¬ Spell (word ∷ policy ∷ []) c
no_policy word policy none (Command.check p) spelled = spelled.named (sym (ap second_of spelled.words_are) ∙ none)
no_policy word policy none (Command.upgrade p) spelled = spelled.named (sym (ap second_of spelled.words_are) ∙ none)
no_policy word policy none (Command.plain p) spelled = spelled.named (sym (ap second_of spelled.words_are) ∙ none)
no_policy word policy none (Command.format p) spelled = spelled.named (sym (ap second_of spelled.words_are) ∙ none)
no_policy word policy none (Command.audit p) spelled = spelled.named (sym (ap second_of spelled.words_are) ∙ none)
no_policy word policy none (Command.travel p) spelled = spelled.named (sym (ap second_of spelled.words_are) ∙ none)
no_policy word policy none (Command.multi p slice) (inl usual) = usual.0.named (sym (ap second_of usual.0.words_are) ∙ none)
no_policy word policy none (Command.multi p slice) (inr number) = not_three word policy (codes "multi") p (nat_text slice) number.words_are
no_policy word policy none (Command.generate start inputs) spelled = not_three word policy (codes "gen") (nat_text start) (nat_text inputs) spelled.words_are
no_policy word policy none (Command.resume p from) spelled = not_three word policy (codes "resume") p from spelled.words_are
no_policy word policy none (Command.release p rules) spelled = not_three word policy (codes "release") p rules spelled.words_are

pub no_two : (word policy : List ℕ) → (word ≡ codes "check" → ⊥) → (word ≡ codes "upgrade" → ⊥) → (word ≡ codes "multi" → ⊥) → (word ≡ codes "plain" → ⊥) → (word ≡ codes "fmt" → ⊥) → (word ≡ codes "audit" → ⊥) → (word ≡ codes "travel" → ⊥)
    → (c : Command) → ¬ Spell (word ∷ policy ∷ []) c
no_two word policy check upgrade multi plain fmt audit travel (Command.check p) spelled = check (ap first_of spelled.words_are)
no_two word policy check upgrade multi plain fmt audit travel (Command.upgrade p) spelled = upgrade (ap first_of spelled.words_are)
no_two word policy check upgrade multi plain fmt audit travel (Command.plain p) spelled = plain (ap first_of spelled.words_are)
no_two word policy check upgrade multi plain fmt audit travel (Command.format p) spelled = fmt (ap first_of spelled.words_are)
no_two word policy check upgrade multi plain fmt audit travel (Command.audit p) spelled = audit (ap first_of spelled.words_are)
no_two word policy check upgrade multi plain fmt audit travel (Command.travel p) spelled = travel (ap first_of spelled.words_are)
no_two word policy check upgrade multi plain fmt audit travel (Command.multi p slice) (inl usual) = multi (ap first_of usual.0.words_are)
no_two word policy check upgrade multi plain fmt audit travel (Command.multi p slice) (inr number) = not_three word policy (codes "multi") p (nat_text slice) number.words_are
no_two word policy check upgrade multi plain fmt audit travel (Command.generate start inputs) spelled = not_three word policy (codes "gen") (nat_text start) (nat_text inputs) spelled.words_are
no_two word policy check upgrade multi plain fmt audit travel (Command.resume p from) spelled = not_three word policy (codes "resume") p from spelled.words_are
no_two word policy check upgrade multi plain fmt audit travel (Command.release p rules) spelled = not_three word policy (codes "release") p rules spelled.words_are

-- ---- three words

-- the words of a command that has three
data Three (word first second : List ℕ) : Type 0 where
  has_slice : (slice : ℕ) → word ≡ codes "multi" → (first ≡ [] → ⊥) → 1 ≤ slice → slice < 2 ^ 32 → second ≡ nat_text slice → Three word first second
  has_numbers : (start inputs : ℕ) → word ≡ codes "gen" → start < 2 ^ 64 → inputs ≤ MOST_LINES → first ≡ nat_text start → second ≡ nat_text inputs → Three word first second
  has_names : (word ≡ codes "resume") ⊎ (word ≡ codes "release") → (first ≡ [] → ⊥) → (second ≡ [] → ⊥) → Three word first second

named_three : (word first second expected policy file : List ℕ) → (expected ≡ codes "resume") ⊎ (expected ≡ codes "release") → AreNames (word ∷ first ∷ second ∷ []) expected policy file → Three word first second
named_three word first second expected policy file which named =
    Three.has_names
    (elim which [
      | inl e ↦ inl (ap first_of named.words_are ∙ e)
      | inr e ↦ inr (ap first_of named.words_are ∙ e)
    ])
    (λ none. named.named (sym (ap second_of named.words_are) ∙ none)) (λ none. named.filed (sym (ap third_of named.words_are) ∙ none))

three : (word first second : List ℕ) (c : Command) → Spell (word ∷ first ∷ second ∷ []) c → Three word first second
three word first second (Command.check p) spelled = absurd (not_three (codes "check") p word first second (sym spelled.words_are))
three word first second (Command.upgrade p) spelled = absurd (not_three (codes "upgrade") p word first second (sym spelled.words_are))
three word first second (Command.plain p) spelled = absurd (not_three (codes "plain") p word first second (sym spelled.words_are))
three word first second (Command.format p) spelled = absurd (not_three (codes "fmt") p word first second (sym spelled.words_are))
three word first second (Command.audit p) spelled = absurd (not_three (codes "audit") p word first second (sym spelled.words_are))
three word first second (Command.travel p) spelled = absurd (not_three (codes "travel") p word first second (sym spelled.words_are))
three word first second (Command.multi p slice) (inl usual) = absurd (not_three (codes "multi") p word first second (sym usual.0.words_are))
three word first second (Command.multi p slice) (inr is) = Three.has_slice slice (ap first_of is.words_are) (λ none. is.named (sym (ap second_of is.words_are) ∙ none)) is.some is.most (ap third_of is.words_are)
three word first second (Command.generate start inputs) is = Three.has_numbers start inputs (ap first_of is.words_are) is.start_fits is.few (ap second_of is.words_are) (ap third_of is.words_are)
three word first second (Command.resume p from) named = named_three word first second (codes "resume") p from (inl refl) named
three word first second (Command.release p rules) named = named_three word first second (codes "release") p rules (inr refl) named

pub no_three : (word first second : List ℕ) → (word ≡ codes "multi" → ⊥) → (word ≡ codes "gen" → ⊥) → (word ≡ codes "resume" → ⊥) → (word ≡ codes "release" → ⊥) → (c : Command) → ¬ Spell (word ∷ first ∷ second ∷ []) c
no_three word first second multi gen resume release c spelled = from (three word first second c spelled)
  where
    from : Three word first second → ⊥
    from (Three.has_slice slice is some least most number) = multi is
    from (Three.has_numbers start inputs is fits few one two) = gen is
    from (Three.has_names (inl is) some more) = resume is
    from (Three.has_names (inr is) some more) = release is

-- the first letters of words that are the same are the same
abbrev head_of : List ℕ → ℕ
head_of [] = 0
head_of (b ∷ bs) = b

-- ---- `multi`

pub sliced : (policy number : List ℕ) (slice : ℕ) → (policy ≡ [] → ⊥) → 1 ≤ slice → slice < 2 ^ 32 → number ≡ nat_text slice → Spell (codes "multi" ∷ policy ∷ number ∷ []) (Command.multi policy slice)
sliced policy number slice some least most is = inr (record { words_are = ap (λ w. codes "multi" ∷ policy ∷ w ∷ []) is; named = some; some = least; most = most })

pub no_sliced : (policy number : List ℕ) → policy ≡ [] → (c : Command) → ¬ Spell (codes "multi" ∷ policy ∷ number ∷ []) c
no_sliced policy number none c spelled = from (three (codes "multi") policy number c spelled)
  where
    from : Three (codes "multi") policy number → ⊥
    from (Three.has_slice slice is some least most text) = some none
    from (Three.has_numbers start inputs is fits few one two) = let same : ◌≡◌ {A = ℕ} 109 103 = ap head_of is in absurd (omega (arith, same))
    from (Three.has_names which some more) = some none

pub no_slice : (policy number : List ℕ) → ((slice : ℕ) → 1 ≤ slice → slice < 2 ^ 32 → number ≡ nat_text slice → ⊥) → (c : Command) → ¬ Spell (codes "multi" ∷ policy ∷ number ∷ []) c
no_slice policy number none c spelled = from (three (codes "multi") policy number c spelled)
  where
    from : Three (codes "multi") policy number → ⊥
    from (Three.has_slice slice is some least most text) = none slice least most text
    from (Three.has_numbers start inputs is fits few one two) = let same : ◌≡◌ {A = ℕ} 109 103 = ap head_of is in absurd (omega (arith, same))
    from (Three.has_names (inl is) some more) = let same : ◌≡◌ {A = ℕ} 109 114 = ap head_of is in absurd (omega (arith, same))
    from (Three.has_names (inr is) some more) = let same : ◌≡◌ {A = ℕ} 109 114 = ap head_of is in absurd (omega (arith, same))

-- ---- `gen`

pub numbers : (first second : List ℕ) (start inputs : ℕ) → start < 2 ^ 64 → inputs ≤ MOST_LINES → first ≡ nat_text start → second ≡ nat_text inputs → Spell (codes "gen" ∷ first ∷ second ∷ []) (Command.generate start inputs)
numbers first second start inputs fits few first_is second_is =
    record { words_are = ap (λ w. codes "gen" ∷ w ∷ second ∷ []) first_is ∙ ap (λ w. codes "gen" ∷ nat_text start ∷ w ∷ []) second_is; start_fits = fits; few = few }

-- what stands behind `gen`
record AreGenerated (first second : List ℕ) : Type 0 where
  start : ℕ
  inputs : ℕ
  fits : start < 2 ^ 64
  few : inputs ≤ MOST_LINES
  first_is : first ≡ nat_text start
  second_is : second ≡ nat_text inputs

generated : (first second : List ℕ) → Three (codes "gen") first second → AreGenerated first second
generated first second (Three.has_slice slice is some least most text) = let same : ◌≡◌ {A = ℕ} 103 109 = ap head_of is in absurd (omega (arith, same))
generated first second (Three.has_numbers start inputs is fits few one two) = record { start = start; inputs = inputs; fits = fits; few = few; first_is = one; second_is = two }
generated first second (Three.has_names (inl is) some more) = let same : ◌≡◌ {A = ℕ} 103 114 = ap head_of is in absurd (omega (arith, same))
generated first second (Three.has_names (inr is) some more) = let same : ◌≡◌ {A = ℕ} 103 114 = ap head_of is in absurd (omega (arith, same))

pub no_start : (first second : List ℕ) → ((n : ℕ) → n < 2 ^ 64 → first ≡ nat_text n → ⊥) → (c : Command) → ¬ Spell (codes "gen" ∷ first ∷ second ∷ []) c
no_start first second none c spelled = let g = generated first second (three (codes "gen") first second c spelled) in none g.start g.fits g.first_is

pub no_inputs : (first second : List ℕ) → ((n : ℕ) → n ≤ MOST_LINES → second ≡ nat_text n → ⊥) → (c : Command) → ¬ Spell (codes "gen" ∷ first ∷ second ∷ []) c
no_inputs first second none c spelled = let g = generated first second (three (codes "gen") first second c spelled) in none g.inputs g.few g.second_is

-- ---- `resume` and `release`

pub names : (word policy file : List ℕ) → (policy ≡ [] → ⊥) → (file ≡ [] → ⊥) → AreNames (word ∷ policy ∷ file ∷ []) word policy file
names word policy file some more = record { words_are = refl; named = some; filed = more }

-- names stand behind a word that begins so
named_behind : (word first second : List ℕ) → head_of word ≡ 114 → Three word first second → (first ≡ [] → ⊥) × (second ≡ [] → ⊥)
named_behind word first second begins (Three.has_slice slice is some least most text) = let same : ◌≡◌ {A = ℕ} 114 109 = sym begins ∙ ap head_of is in absurd (omega (arith, same))
named_behind word first second begins (Three.has_numbers start inputs is fits few one two) = let same : ◌≡◌ {A = ℕ} 114 103 = sym begins ∙ ap head_of is in absurd (omega (arith, same))
named_behind word first second begins (Three.has_names which some more) = (some, more)

pub no_resume_policy : (policy file : List ℕ) → policy ≡ [] → (c : Command) → ¬ Spell (codes "resume" ∷ policy ∷ file ∷ []) c
no_resume_policy policy file none c spelled = (named_behind (codes "resume") policy file refl (three (codes "resume") policy file c spelled)).0 none

pub no_resume_file : (policy file : List ℕ) → file ≡ [] → (c : Command) → ¬ Spell (codes "resume" ∷ policy ∷ file ∷ []) c
no_resume_file policy file none c spelled = (named_behind (codes "resume") policy file refl (three (codes "resume") policy file c spelled)).1 none

pub no_release_policy : (policy file : List ℕ) → policy ≡ [] → (c : Command) → ¬ Spell (codes "release" ∷ policy ∷ file ∷ []) c
no_release_policy policy file none c spelled = (named_behind (codes "release") policy file refl (three (codes "release") policy file c spelled)).0 none

pub no_release_file : (policy file : List ℕ) → file ≡ [] → (c : Command) → ¬ Spell (codes "release" ∷ policy ∷ file ∷ []) c
no_release_file policy file none c spelled = (named_behind (codes "release") policy file refl (three (codes "release") policy file c spelled)).1 none

-- ---- other words

few_words : (words : List (List ℕ)) (c : Command) → Spell words c → (length words ≡ 2) ⊎ (length words ≡ 3)
few_words words (Command.check p) spelled = inl (ap length spelled.words_are)
few_words words (Command.upgrade p) spelled = inl (ap length spelled.words_are)
few_words words (Command.plain p) spelled = inl (ap length spelled.words_are)
few_words words (Command.format p) spelled = inl (ap length spelled.words_are)
few_words words (Command.audit p) spelled = inl (ap length spelled.words_are)
few_words words (Command.travel p) spelled = inl (ap length spelled.words_are)
few_words words (Command.multi p slice) (inl usual) = inl (ap length usual.0.words_are)
few_words words (Command.multi p slice) (inr number) = inr (ap length number.words_are)
few_words words (Command.generate start inputs) spelled = inr (ap length spelled.words_are)
few_words words (Command.resume p from) spelled = inr (ap length spelled.words_are)
few_words words (Command.release p rules) spelled = inr (ap length spelled.words_are)

pub asks_other : (ws : List (String Global)) → (length ws ≡ 2 → ⊥) → (length ws ≡ 3 → ⊥) → ¬ AreCommand ws
asks_other ws no_two no_three asked =
    let long = length-map ws string_bytes in
    elim (few_words (map string_bytes ws) asked.command asked.asks.spelled) [
      | inl two ↦ no_two (sym long ∙ two)
      | inr three ↦ no_three (sym long ∙ three)
    ]
