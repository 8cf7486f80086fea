-- The reader's answer is what the grammar says: the items that are spelled, or the first fault.
use Rattle.std.proofs.Common.{◌≡◌, ◌⊎◌, ◌≤◌, ◌+◌, ℕ, suc, zero, Bool, true, false, Result, Ok, Err, IfOk, IfErr, List, [], ◌∷◌, ◌++◌, length, map, take, drop, refl, sym, ◌∙◌, ap, subst, inl, inr, arith, append_assoc, append-nil, length-append}
use Rattle.std.proofs.lemmas.List.{take-append-le, take_all}
use Rattle.ff_contract.specs.Answering.{Answers}
use Rattle.ff_text.specs.declared.items.Sexp.{Sexp}
use Rattle.ff_text.specs.declared.items.TextFault.{TextFault}
use Rattle.ff_text.specs.declared.items.TextFault.TheVariants as fault
use Rattle.ff_text.specs.declared.reader.Reader.{Reader}
use Rattle.ff_text.specs.declared.reader.Opened.{Opened}
use Rattle.ff_text.specs.declared.items.Sexp.TheVariants.{Word}
use Rattle.ff_text.specs.Notation.{span, nothing, SpellsItems}
use Rattle.ff_text.specs.Faults.{Meets, IsUnclosed, in_a_list, in_a_string, in_an_escape, NoneBelow, FirstFault, at_prefix, at_end, SingleFault, of_text, no_item, second_item, from_of}
use Rattle.ff_text.specs.Machine.{advance, step, start, finish, items_ended, verdict, verdict_of, one_of, one_in}
use Rattle.ff_text.proofs.Standing.{advance-append, advance-err, advance-none, advance-step, advance-stop, advance-more, between, wording}
use Rattle.ff_text.proofs.Complete.{verdict_from_spelled}
use Rattle.ff_text.proofs.Meeting.{meets_err, unclosed_verdict, finish_string, finish_escape}
use Rattle.ff_text.proofs.Sound.{Opens, top, unfinished_from_opens, word_whole, inside_string, inside_escape, Holds, holds_between, holds_word, holds_string, holds_escape, Outcome, goes, stops, step_sound}

take-drop : (n : ℕ) (bytes : List ℕ) → take n bytes ++ drop n bytes ≡ bytes
take-drop zero bytes = refl
take-drop (suc n) [] = refl
take-drop (suc n) (b ∷ bytes) = ap (λ bs. b ∷ bs) (take-drop n bytes)

differ : (r : Reader) (which : TextFault) (answer : Result Reader TextFault) → answer ≡ Ok r → answer ≡ Err which → ⊥
differ r which answer e k = cc

-- a prefix that stops the reader stops it for the whole
stopped_by : (bytes : List ℕ) (n : ℕ) (which : TextFault) → Meets (take n bytes) which → advance bytes (Ok start) ≡ Err which
stopped_by bytes n which meets =
    ap (λ bs. advance bs (Ok start)) (sym (take-drop n bytes)) ∙ advance-append (take n bytes) (drop n bytes) (Ok start)
    ∙ ap (advance (drop n bytes)) (meets_err (take n bytes) which meets) ∙ advance-err (drop n bytes) which

-- what is read whole has no prefix that meets a fault
none_met : (bytes : List ℕ) (r : Reader) → advance bytes (Ok start) ≡ Ok r → (n : ℕ) → NoneBelow n bytes
none_met bytes r e n k which below meets = differ r which (advance bytes (Ok start)) e (stopped_by bytes k which meets)

ok_items : (found items : List Sexp) (answer : Result (List Sexp) TextFault) → answer ≡ Ok found → answer ≡ Ok items → found ≡ items
ok_items found items answer e k = cc

not_ok : (which : TextFault) (items : List Sexp) (answer : Result (List Sexp) TextFault) → answer ≡ Err which → answer ≡ Ok items → ⊥
not_ok which items answer e k = cc

err_fault : (which other : TextFault) (answer : Result (List Sexp) TextFault) → answer ≡ Err which → answer ≡ Err other → which ≡ other
err_fault which other answer e k = cc

one_fault : (which other : TextFault) (answer : Result Sexp TextFault) → answer ≡ Err which → answer ≡ Err other → which ≡ other
one_fault which other answer e k = cc

-- how the bytes end
data Ending (bytes : List ℕ) : Result Reader TextFault → Type 0 where
  read_whole : (r : Reader) → Holds r bytes → advance bytes (Ok start) ≡ Ok r → Ending bytes (Ok r)
  stopped : (n : ℕ) (which : TextFault) → n ≤ length bytes → Meets (take n bytes) which → NoneBelow n bytes → Ending bytes (Err which)

take_front : (xs ys : List ℕ) → take (length xs) (xs ++ ys) ≡ xs
take_front xs ys = take-append-le (length xs) xs ys (omega arith) ∙ take_all (length xs) xs (omega arith)

stopped_at : (done : List ℕ) (b : ℕ) (more : List ℕ) (r : Reader) (which : TextFault) → advance done (Ok start) ≡ Ok r → Meets (done ++ b ∷ []) which → Ending (done ++ b ∷ more) (Err which)
stopped_at done b more r which e meets =
    let whole : (done ++ b ∷ []) ++ more ≡ done ++ b ∷ more = append_assoc done (b ∷ []) more in
    let front : take (length (done ++ b ∷ [])) (done ++ b ∷ more) ≡ done ++ b ∷ [] = subst (λ bs. take (length (done ++ b ∷ [])) bs ≡ done ++ b ∷ []) whole (take_front (done ++ b ∷ []) more) in
    stopped (length (done ++ b ∷ [])) which (simp length-append (omega arith)) (subst (λ bs. Meets bs which) (sym front) meets)
    (λ k w below met.
    let within : k ≤ length done = omega (arith, length-append done (b ∷ [])) in
    none_met done r e (k + 1) k w (omega arith) (subst (λ bs. Meets bs w) (take-append-le k done (b ∷ more) within) met))

-- what one byte comes to, where the bytes after it come to what they do
trace_step : (more done : List ℕ) (r : Reader) (b : ℕ) → advance done (Ok start) ≡ Ok r → ((next : Reader) → advance (done ++ b ∷ []) (Ok start) ≡ Ok next → Holds next (done ++ b ∷ []) → Ending ((done ++ b ∷ []) ++ more) (advance more (Ok next))) → (made : Result Reader TextFault) → step r b ≡ made → Outcome (done ++ b ∷ []) made → Ending (done ++ b ∷ more) (advance (b ∷ more) (Ok r))
trace_step more done r b e rest made is (goes next holds) =
    subst (Ending (done ++ b ∷ more)) (sym (advance-step b more r next is))
    (subst (λ bs. Ending bs (advance more (Ok next))) (append_assoc done (b ∷ []) more)
    (rest next (advance-more done b (Ok start) r e ∙ is) holds))
trace_step more done r b e rest made is (stops which meets) =
    subst (Ending (done ++ b ∷ more)) (sym (advance-stop b more r which is)) (stopped_at done b more r which e meets)

trace : (more done : List ℕ) (r : Reader) → advance done (Ok start) ≡ Ok r → Holds r done → Ending (done ++ more) (advance more (Ok r))
trace [] done r e h = subst (λ bs. Ending bs (advance [] (Ok r))) (sym (append-nil done)) (subst (Ending done) (sym (advance-none (Ok r))) (read_whole r h e))
trace (b ∷ more) done r e h = trace_step more done r b e (λ next ran holds. trace more (done ++ b ∷ []) next ran holds) (step r b) refl (step_sound r done h b)

begins : Holds start []
begins = holds_between [] [] false 0 [] refl (top 0 [] [] false (nothing 0 0))

ending_of : (bytes : List ℕ) → Ending bytes (advance bytes (Ok start))
ending_of bytes = trace bytes [] start (advance-none (Ok start)) begins

-- what the reader's stand says at the end
data Finishing (bytes : List ℕ) : Result (List Sexp) TextFault → Type 0 where
  whole_items : (items : List Sexp) → SpellsItems bytes items → Finishing bytes (Ok items)
  left_open : (place : ℕ) → IsUnclosed bytes place → Finishing bytes (Err (fault.Unclosed place))

opens_finish : (opened : List Opened) (items : List Sexp) (ended : Bool) (at : ℕ) (bytes : List ℕ) → Opens opened items ended at bytes → Finishing bytes (items_ended opened (between opened items at))
opens_finish [] items ended at bytes (top to' bytes' items' ended' s) = whole_items items' (record { to = to'; ended = ended'; spells = s })
opens_finish (o ∷ opened) items ended at bytes so_far =
    left_open o.from (in_a_list o.from at (map (λ (p : Opened). p.from) opened) bytes (unfinished_from_opens (o ∷ opened) items ended at bytes so_far))

finish_between : (opened : List Opened) (items : List Sexp) (at : ℕ) → finish (between opened items at) ≡ items_ended opened (between opened items at)
unfolding finish
finish_between opened items at = refl

finishing_word : (opened : List Opened) (items : List Sexp) (at from : ℕ) (word whole : List ℕ) → Opens opened (items ++ Word (span from at) word ∷ []) true at whole → Finishing whole (finish (wording opened items at from word))
unfolding finish
finishing_word opened items at from word whole so_far = opens_finish opened (items ++ Word (span from at) word ∷ []) true at whole so_far

finishing : (r : Reader) (bytes : List ℕ) → Holds r bytes → Finishing bytes (finish r)
finishing r all (holds_between opened items ended at bytes e so_far) = subst (Finishing bytes) (sym (finish_between opened items at)) (opens_finish opened items ended at bytes so_far)
finishing r all (holds_word opened items at from bytes word whole so_far w place joined) =
    finishing_word opened items at from word whole (word_whole opened items at from bytes word whole so_far w place joined)
finishing r all (holds_string opened items ended at from bytes body value whole so_far v place joined) =
    subst (Finishing whole) (sym (finish_string opened items at from value))
    (left_open from (in_a_string from at value whole (inside_string opened items ended at from bytes body value whole so_far v place joined)))
finishing r all (holds_escape opened items ended at from slash bytes body value begun whole m so_far v place is next joined) =
    subst (Finishing whole) (sym (finish_escape opened items at from slash value begun m is))
    (left_open from (in_an_escape from slash begun whole (inside_escape opened items ended from slash bytes body value begun whole m so_far v place is joined)))

-- the items that the reader answers are spelled
pub spelled_from_verdict : (bytes : List ℕ) (items : List Sexp) → verdict bytes ≡ Ok items → SpellsItems bytes items
spelled_from_verdict bytes items e = go (advance bytes (Ok start)) (ending_of bytes) e where
  at_finish : (answer : Result (List Sexp) TextFault) → Finishing bytes answer → answer ≡ Ok items → SpellsItems bytes items
  at_finish answer (whole_items found spelled) same = subst (SpellsItems bytes) (ok_items found items (Ok found) refl same) spelled
  at_finish answer (left_open place unclosed) same = absurd (not_ok (fault.Unclosed place) items (Err (fault.Unclosed place)) refl same)

  go : (made : Result Reader TextFault) → Ending bytes made → verdict_of made ≡ Ok items → SpellsItems bytes items
  go made (read_whole r h ran) same = at_finish (finish r) (finishing r bytes h) same
  go made (stopped n which within meets none) same = absurd (not_ok which items (Err which) refl same)

-- the fault that the reader answers is the first
pub fault_from_verdict : (bytes : List ℕ) (which : TextFault) → verdict bytes ≡ Err which → FirstFault bytes which
fault_from_verdict bytes which e = go (advance bytes (Ok start)) (ending_of bytes) e where
  at_finish : (r : Reader) → advance bytes (Ok start) ≡ Ok r → (answer : Result (List Sexp) TextFault) → Finishing bytes answer → answer ≡ Err which → FirstFault bytes which
  at_finish r ran answer (whole_items found spelled) same = absurd (not_ok which found (Ok found) same refl)
  at_finish r ran answer (left_open place unclosed) same = subst (FirstFault bytes) (err_fault (fault.Unclosed place) which (Err (fault.Unclosed place)) refl same) (at_end place (none_met bytes r ran (length bytes + 1)) unclosed)

  go : (made : Result Reader TextFault) → Ending bytes made → verdict_of made ≡ Err which → FirstFault bytes which
  go made (read_whole r h ran) same = at_finish r ran (finish r) (finishing r bytes h) same
  go made (stopped n other within meets none) same = subst (FirstFault bytes) (err_fault other which (Err other) refl same) (at_prefix n other within meets none)

-- the first fault is the reader's answer
pub verdict_from_fault : (bytes : List ℕ) (which : TextFault) → FirstFault bytes which → verdict bytes ≡ Err which
verdict_from_fault bytes which (at_prefix n found within meets none) = ap verdict_of (stopped_by bytes n found meets)
verdict_from_fault bytes which (at_end place none unclosed) = unclosed_verdict bytes place unclosed

-- so a text spells items or has a first fault
pub items_or_fault : (bytes : List ℕ) → ((items : List Sexp) × SpellsItems bytes items) ⊎ ((which : TextFault) × FirstFault bytes which)
items_or_fault bytes = from (verdict bytes) refl
  where
    from : (read : Result (List Sexp) TextFault) → verdict bytes ≡ read → ((items : List Sexp) × SpellsItems bytes items) ⊎ ((which : TextFault) × FirstFault bytes which)
    from (Ok items) is = inl (items, spelled_from_verdict bytes items is)
    from (Err which) is = inr (which, fault_from_verdict bytes which is)

-- the clauses of a call that answers what the reader does
pub found_items : (bytes : List ℕ) (answer : Result (List Sexp) TextFault) → Answers answer (verdict bytes) (Err fault.NoMemory) → IfOk answer (SpellsItems bytes)
found_items bytes answer (inl is) = of_answer answer is where
  of_answer : (found : Result (List Sexp) TextFault) → found ≡ verdict bytes → IfOk found (SpellsItems bytes)
  of_answer (Ok items) is = spelled_from_verdict bytes items (sym is)
  of_answer (Err which) is = tt
found_items bytes answer (inr none) = subst (λ found. IfOk found (SpellsItems bytes)) (sym none) tt

pub only_items : (bytes : List ℕ) (answer : Result (List Sexp) TextFault) → Answers answer (verdict bytes) (Err fault.NoMemory) → (items : List Sexp) → SpellsItems bytes items → Answers answer (Ok items) (Err fault.NoMemory)
only_items bytes answer same items spelled = elim same [
  | inl is ↦ inl (is ∙ verdict_from_spelled bytes items spelled)
  | inr none ↦ inr none
]

pub first_fault : (bytes : List ℕ) (answer : Result (List Sexp) TextFault) → Answers answer (verdict bytes) (Err fault.NoMemory) → IfErr answer (λ which. (which ≡ fault.NoMemory) ⊎ FirstFault bytes which)
first_fault bytes answer (inl is) = of_answer answer is where
  of_answer : (found : Result (List Sexp) TextFault) → found ≡ verdict bytes → IfErr found (λ which. (which ≡ fault.NoMemory) ⊎ FirstFault bytes which)
  of_answer (Ok items) is = tt
  of_answer (Err which) is = inr (fault_from_verdict bytes which (sym is))
first_fault bytes answer (inr none) = subst (λ found. IfErr found (λ which. (which ≡ fault.NoMemory) ⊎ FirstFault bytes which)) (sym none) (inl refl)

pub exact_fault : (bytes : List ℕ) (answer : Result (List Sexp) TextFault) → Answers answer (verdict bytes) (Err fault.NoMemory) → (which : TextFault) → FirstFault bytes which → Answers answer (Err which) (Err fault.NoMemory)
exact_fault bytes answer same which first = elim same [
  | inl is ↦ inl (is ∙ verdict_from_fault bytes which first)
  | inr none ↦ inr none
]

-- one item
item_of : (items : List Sexp) (item : Sexp) → one_of items ≡ Ok item → items ≡ item ∷ []
item_of [] item e = cc
item_of (found ∷ []) item e = cc
item_of (first ∷ second ∷ others) item e = cc

fault_of : (bytes : List ℕ) (items : List Sexp) → SpellsItems bytes items → (which : TextFault) → one_of items ≡ Err which → SingleFault bytes which
fault_of bytes [] spelled which e = subst (SingleFault bytes) (one_fault fault.Empty which (one_of []) refl e) (no_item spelled)
fault_of bytes (found ∷ []) spelled which e = cc
fault_of bytes (first ∷ second ∷ others) spelled which e = subst (SingleFault bytes) (one_fault (fault.Extra (from_of second)) which (one_of (first ∷ second ∷ others)) refl e) (second_item first second others spelled)

single_fault : (bytes : List ℕ) (which : TextFault) → SingleFault bytes which → one_in (verdict bytes) ≡ Err which
single_fault bytes which (of_text which' first) = ap one_in (verdict_from_fault bytes which' first)
single_fault bytes which (no_item spelled) = ap one_in (verdict_from_spelled bytes [] spelled)
single_fault bytes which (second_item first second others spelled) = ap one_in (verdict_from_spelled bytes (first ∷ second ∷ others) spelled)

single_item : (bytes : List ℕ) (item : Sexp) → SpellsItems bytes (item ∷ []) → one_in (verdict bytes) ≡ Ok item
single_item bytes item spelled = ap one_in (verdict_from_spelled bytes (item ∷ []) spelled)

one_item_from : (bytes : List ℕ) (item : Sexp) (answer : Result (List Sexp) TextFault) → verdict bytes ≡ answer → one_in answer ≡ Ok item → SpellsItems bytes (item ∷ [])
one_item_from bytes item (Ok items) e same = subst (SpellsItems bytes) (item_of items item same) (spelled_from_verdict bytes items e)
one_item_from bytes item (Err which) e same = cc

one_fault_from : (bytes : List ℕ) (which : TextFault) (answer : Result (List Sexp) TextFault) → verdict bytes ≡ answer → one_in answer ≡ Err which → SingleFault bytes which
one_fault_from bytes which (Ok items) e same = fault_of bytes items (spelled_from_verdict bytes items e) which same
one_fault_from bytes which (Err other) e same = subst (SingleFault bytes) (one_fault other which (one_in (Err other)) refl same) (of_text other (fault_from_verdict bytes other e))

pub found_item : (bytes : List ℕ) (answer : Result Sexp TextFault) → Answers answer (one_in (verdict bytes)) (Err fault.NoMemory) → IfOk answer (λ item. SpellsItems bytes (item ∷ []))
found_item bytes answer (inl is) = of_answer answer is where
  of_answer : (found : Result Sexp TextFault) → found ≡ one_in (verdict bytes) → IfOk found (λ item. SpellsItems bytes (item ∷ []))
  of_answer (Ok item) is = one_item_from bytes item (verdict bytes) refl (sym is)
  of_answer (Err which) is = tt
found_item bytes answer (inr none) = subst (λ found. IfOk found (λ item. SpellsItems bytes (item ∷ []))) (sym none) tt

pub only_item : (bytes : List ℕ) (answer : Result Sexp TextFault) → Answers answer (one_in (verdict bytes)) (Err fault.NoMemory) → (item : Sexp) → SpellsItems bytes (item ∷ []) → Answers answer (Ok item) (Err fault.NoMemory)
only_item bytes answer same item spelled = elim same [
  | inl is ↦ inl (is ∙ single_item bytes item spelled)
  | inr none ↦ inr none
]

pub one_first_fault : (bytes : List ℕ) (answer : Result Sexp TextFault) → Answers answer (one_in (verdict bytes)) (Err fault.NoMemory) → IfErr answer (λ which. (which ≡ fault.NoMemory) ⊎ SingleFault bytes which)
one_first_fault bytes answer (inl is) = of_answer answer is where
  of_answer : (found : Result Sexp TextFault) → found ≡ one_in (verdict bytes) → IfErr found (λ which. (which ≡ fault.NoMemory) ⊎ SingleFault bytes which)
  of_answer (Ok item) is = tt
  of_answer (Err which) is = inr (one_fault_from bytes which (verdict bytes) refl (sym is))
one_first_fault bytes answer (inr none) = subst (λ found. IfErr found (λ which. (which ≡ fault.NoMemory) ⊎ SingleFault bytes which)) (sym none) (inl refl)

pub one_exact_fault : (bytes : List ℕ) (answer : Result Sexp TextFault) → Answers answer (one_in (verdict bytes)) (Err fault.NoMemory) → (which : TextFault) → SingleFault bytes which → Answers answer (Err which) (Err fault.NoMemory)
one_exact_fault bytes answer same which first = elim same [
  | inl is ↦ inl (is ∙ single_fault bytes which first)
  | inr none ↦ inr none
]
