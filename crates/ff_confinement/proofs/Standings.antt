-- Runs of copies from anywhere: one input more, the rest of a run, and the multi-executed run as
-- the one from the start.
use Rattle.std.proofs.Common.{◌≡◌, ℕ, ◌+◌, Bool, true, false, cond, not, ◌&&◌, Option, Some, None, List, [], ◌∷◌, ◌++◌, sum, refl, sym, ap, ap₂, ◌∙◌, append_assoc, append-nil, add-one, zero-add}
use Rattle.std.specs.List.{list_all, cons_option}
use Rattle.std.specs.Option.{option_eq}
use Rattle.std.proofs.lemmas.List.Concat.{flat_map-append}
use Rattle.std.proofs.lemmas.List.Sums.{sum_by-append}
use Rattle.ff_confinement.specs.Runs.{Machine, entries, after_from, after, handle_seen}
use Rattle.ff_confinement.specs.Copies.{Levels, seen, at_level, copy_entry, multi_entry, multi}
use Rattle.ff_contract.specs.Lists.{below}
use Rattle.ff_confinement.specs.Sharing.{see_alike, is_least, copy_turns, work_entry, work}
use Rattle.ff_confinement.specs.Standings.{Standing, Offering, fresh, as_seen, once_come, given_from, given, given_alike_from, given_alike, state_after, handles, puts_own, puts_below, puts_all, run, stay_alike, leads, turns_all, work_of, standing_after}
use Rattle.ff_confinement.proofs.Lists.{entries-append, flat_map_agree_below}
use Rattle.ff_confinement.proofs.Runs.{after_from-append}
use Rattle.ff_confinement.proofs.Copies.{copy_entry_is}
use Rattle.ff_confinement.proofs.Below.{sum_agree_below}

-- entries that are alike
pub entries_agree : {I E : Type 0} (f g : List I → I → E) (front before is : List I) → ((xs : List I) (i : I) → f (front ++ xs) i ≡ g xs i) → entries f (front ++ before) is ≡ entries g before is
entries_agree f g front before [] agree = refl
entries_agree f g front before (i ∷ is) agree =
    ap₂ (λ e es. e ∷ es) (agree before i)
    (ap (λ xs. entries f xs is) (append_assoc front before (i ∷ [])) ∙ entries_agree f g front (before ++ i ∷ []) is agree)

module _ {I : Type 0} (offers : Offering I) (l : ℕ) where
  -- what is offered of more inputs
  pub given_from-append : (before is js : List I) → given_from offers l before (is ++ js) ≡ given_from offers l before is ++ given_from offers l (before ++ is) js
  given_from-append before [] js = ap (λ xs. given_from offers l xs js) (sym (append-nil before))
  given_from-append before (i ∷ is) js =
      ap (cons_option (offers before l i)) (given_from-append (before ++ i ∷ []) is js ∙ ap (λ xs. given_from offers l (before ++ i ∷ []) is ++ given_from offers l xs js) (append_assoc before (i ∷ []) is))
      ∙ onto (offers before l i)
    where
      onto : (o : Option I) → cons_option o (given_from offers l (before ++ i ∷ []) is ++ given_from offers l (before ++ i ∷ is) js) ≡ cons_option o (given_from offers l (before ++ i ∷ []) is) ++ given_from offers l (before ++ i ∷ is) js
      onto None = refl
      onto (Some x) = refl

  pub given_more : (is : List I) (i : I) → given offers l (is ++ i ∷ []) ≡ given offers l is ++ cons_option (offers is l i) []
  given_more is i = given_from-append [] is (i ∷ [])

  -- and of the rest of them
  pub given_rest : (front before is : List I) → given_from offers l (front ++ before) is ≡ given_from (once_come offers front) l before is
  given_rest front before [] = refl
  given_rest front before (i ∷ is) =
      ap (cons_option (offers (front ++ before) l i)) (ap (λ xs. given_from offers l xs is) (append_assoc front before (i ∷ [])) ∙ given_rest front (before ++ i ∷ []) is)

  pub given-append : (is js : List I) → given offers l (is ++ js) ≡ given offers l is ++ given (once_come offers is) l js
  given-append is js = given_from-append [] is js ∙ ap (λ xs. given offers l is ++ xs) (ap (λ xs. given_from offers l xs js) (sym (append-nil is)) ∙ given_rest is [] js)

module _ {I : Type 0} (same : I → I → Bool) (offers : Offering I) (k l : ℕ) where
  and_assoc : (a b c : Bool) → ((a && b) && c) ≡ (a && (b && c))
  and_assoc true b c = refl
  and_assoc false b c = refl

  pub alike_from-append : (before is js : List I) → given_alike_from same offers k l before (is ++ js) ≡ (given_alike_from same offers k l before is && given_alike_from same offers k l (before ++ is) js)
  alike_from-append before [] js = ap (λ xs. given_alike_from same offers k l xs js) (sym (append-nil before))
  alike_from-append before (i ∷ is) js =
      ap (λ b. option_eq same (offers before k i) (offers before l i) && b)
      (alike_from-append (before ++ i ∷ []) is js ∙ ap (λ xs. given_alike_from same offers k l (before ++ i ∷ []) is && given_alike_from same offers k l xs js) (append_assoc before (i ∷ []) is))
      ∙ sym (and_assoc (option_eq same (offers before k i) (offers before l i)) (given_alike_from same offers k l (before ++ i ∷ []) is) (given_alike_from same offers k l (before ++ i ∷ is) js))

  pub alike_rest : (front before is : List I) → given_alike_from same offers k l (front ++ before) is ≡ given_alike_from same (once_come offers front) k l before is
  alike_rest front before [] = refl
  alike_rest front before (i ∷ is) =
      ap (λ b. option_eq same (offers (front ++ before) k i) (offers (front ++ before) l i) && b) (ap (λ xs. given_alike_from same offers k l xs is) (append_assoc front before (i ∷ [])) ∙ alike_rest front (before ++ i ∷ []) is)

  pub alike-append : (is js : List I) → given_alike same offers k l (is ++ js) ≡ (given_alike same offers k l is && given_alike same (once_come offers is) k l js)
  alike-append is js = alike_from-append [] is js ∙ ap (λ b. given_alike same offers k l is && b) (ap (λ xs. given_alike_from same offers k l xs js) (sym (append-nil is)) ∙ alike_rest is [] js)

module _ {I O S : Type 0} (m : Machine I O S) (v : Levels I O) (offers : Offering I) (from : Standing S) where
  -- the state of a copy before all inputs, after one more, and after more
  pub state_start : (l : ℕ) → state_after m v offers from l [] ≡ from.states l
  unfolding state_after
  state_start l = refl

  pub state_more : (l : ℕ) (before : List I) (i : I) → state_after m v offers from l (before ++ i ∷ []) ≡ (handles m v offers from l before i).after
  unfolding state_after
  state_more l before i = ap (after_from m (from.states l)) (given_more offers l before i) ∙ one (offers before l i) (given offers l before)
    where
      one : (o : Option I) (xs : List I) → after_from m (from.states l) (xs ++ cons_option o []) ≡ (handle_seen m (after_from m (from.states l) xs) o).after
      one None xs = ap (after_from m (from.states l)) (append-nil xs)
      one (Some x) xs = after_from-append m (from.states l) xs (x ∷ [])

  -- the run over no input, over one more, and over more
  pub run_start : run m v offers from [] ≡ []
  unfolding run
  run_start = refl

  pub run_more : (is : List I) (i : I) → run m v offers from (is ++ i ∷ []) ≡ run m v offers from is ++ puts_all m v offers from is i ∷ []
  unfolding run
  run_more is i = entries-append (puts_all m v offers from) [] is (i ∷ [])

  -- what the levels below the next one put out
  pub puts_below_more : (before : List I) (i : I) (l : ℕ) → puts_below m v offers from before i (l + 1) ≡ puts_below m v offers from before i l ++ puts_own m v offers from l before i
  puts_below_more before i l =
      ap (λ n. puts_below m v offers from before i n) (add-one l)
      ∙ flat_map-append (λ k. puts_own m v offers from k before i) (below l) (l ∷ [])
      ∙ ap (λ os. puts_below m v offers from before i l ++ os) (append-nil (puts_own m v offers from l before i))

  module _ (same : I → I → Bool) where
    pub stay_more : (k l : ℕ) (is : List I) (i : I) → stay_alike m v offers from same k l (is ++ i ∷ []) ≡ (stay_alike m v offers from same k l is && option_eq same (offers is k i) (offers is l i))
    stay_more k l is i =
        ap (λ b. from.alike k l && b) (alike_from-append same offers k l [] is (i ∷ []) ∙ ap (λ b. given_alike same offers k l is && b) (and_end (option_eq same (offers is k i) (offers is l i))))
        ∙ sym (and_assoc same offers k l (from.alike k l) (given_alike same offers k l is) (option_eq same (offers is k i) (offers is l i)))
      where
        and_end : (b : Bool) → (b && true) ≡ b
        and_end true = refl
        and_end false = refl

    -- the work over no input, and over one more
    pub work_of_start : work_of m v offers from same [] ≡ 0
    unfolding work_of
    work_of_start = refl

    pub work_of_more : (is : List I) (i : I) → work_of m v offers from same (is ++ i ∷ []) ≡ work_of m v offers from same is + turns_all m v offers from same is i
    unfolding work_of
    work_of_more is i =
        ap sum (entries-append (turns_all m v offers from same) [] is (i ∷ []))
        ∙ sum_by-append (λ n. n) (entries (turns_all m v offers from same) [] is) (turns_all m v offers from same is i ∷ [])
        ∙ ap (λ n. work_of m v offers from same is + n) (zero-add (turns_all m v offers from same is i))

    -- the rest of a run, once some inputs have come: the same as a run from where the copies then
    -- stand
    pub states_rest : (is js : List I) (l : ℕ) → state_after m v offers from l (is ++ js) ≡ state_after m v (once_come offers is) (standing_after m v offers from same is) l js
    unfolding state_after
    states_rest is js l = ap (after_from m (from.states l)) (given-append offers l is js) ∙ after_from-append m (from.states l) (given offers l is) (given (once_come offers is) l js)

    pub alike_stays_rest : (is js : List I) (k l : ℕ) → stay_alike m v offers from same k l (is ++ js) ≡ stay_alike m v (once_come offers is) (standing_after m v offers from same is) same k l js
    alike_stays_rest is js k l =
        ap (λ b. from.alike k l && b) (alike-append same offers k l is js)
        ∙ sym (and_assoc same offers k l (from.alike k l) (given_alike same offers k l is) (given_alike same (once_come offers is) k l js))

    handles_rest : (is before : List I) (i : I) (l : ℕ) → handles m v offers from l (is ++ before) i ≡ handles m v (once_come offers is) (standing_after m v offers from same is) l before i
    handles_rest is before i l = ap (λ s. handle_seen m s (offers (is ++ before) l i)) (states_rest is before l)

    puts_rest : (is before : List I) (i : I) → puts_all m v offers from (is ++ before) i ≡ puts_all m v (once_come offers is) (standing_after m v offers from same is) before i
    puts_rest is before i = flat_map_agree_below (λ l. puts_own m v offers from l (is ++ before) i) (λ l. puts_own m v (once_come offers is) (standing_after m v offers from same is) l before i) v.count
        (λ l lt. ap (λ h. at_level v l h.outputs) (handles_rest is before i l))

    pub run_rest : (is js : List I) → run m v offers from (is ++ js) ≡ run m v offers from is ++ run m v (once_come offers is) (standing_after m v offers from same is) js
    unfolding run
    run_rest is js =
        entries-append (puts_all m v offers from) [] is js
        ∙ ap (λ es. entries (puts_all m v offers from) [] is ++ es)
        (ap (λ xs. entries (puts_all m v offers from) xs js) (sym (append-nil is))
        ∙ entries_agree (puts_all m v offers from) (puts_all m v (once_come offers is) (standing_after m v offers from same is)) is [] js (puts_rest is))

-- levels of which the same are one copy lead alike
list_all_agree : (f g : ℕ → Bool) (ks : List ℕ) → ((k : ℕ) → f k ≡ g k) → list_all f ks ≡ list_all g ks
list_all_agree f g [] agree = refl
list_all_agree f g (k ∷ ks) agree = ap₂ (λ a b. a && b) (agree k) (list_all_agree f g ks agree)

-- The multi-executed run is the run of new copies in which each level is offered what it sees.
module _ {I O S : Type 0} (m : Machine I O S) (v : Levels I O) where
  pub given_seen : (l : ℕ) (before is : List I) → given_from (as_seen v) l before is ≡ seen v l is
  given_seen l before [] = refl
  given_seen l before (i ∷ is) = ap (cons_option (v.sees l i)) (given_seen l (before ++ i ∷ []) is)

  pub state_fresh : (l : ℕ) (is : List I) → state_after m v (as_seen v) (fresh m) l is ≡ after m (seen v l is)
  unfolding state_after after
  state_fresh l is = ap (after_from m m.start) (given_seen l [] is)

  puts_own_fresh : (l : ℕ) (before : List I) (i : I) → puts_own m v (as_seen v) (fresh m) l before i ≡ copy_entry m v l before i
  puts_own_fresh l before i = ap (λ s. at_level v l (handle_seen m s (v.sees l i)).outputs) (state_fresh l before) ∙ sym (copy_entry_is m v l before i)

  pub puts_fresh : (before : List I) (i : I) → puts_all m v (as_seen v) (fresh m) before i ≡ multi_entry m v before i
  puts_fresh before i = flat_map_agree_below (λ l. puts_own m v (as_seen v) (fresh m) l before i) (λ l. copy_entry m v l before i) v.count (λ l lt. puts_own_fresh l before i)

  pub run_fresh : (is : List I) → run m v (as_seen v) (fresh m) is ≡ multi m v is
  unfolding run multi
  run_fresh is = entries_agree (puts_all m v (as_seen v) (fresh m)) (multi_entry m v) [] [] is puts_fresh

  module _ (same : I → I → Bool) where
    alike_seen : (k l : ℕ) (before is : List I) → given_alike_from same (as_seen v) k l before is ≡ see_alike m v same k l is
    alike_seen k l before [] = refl
    alike_seen k l before (i ∷ is) = ap (λ b. option_eq same (v.sees k i) (v.sees l i) && b) (alike_seen k l (before ++ i ∷ []) is)

    pub stay_fresh : (k l : ℕ) (is : List I) → stay_alike m v (as_seen v) (fresh m) same k l is ≡ see_alike m v same k l is
    stay_fresh k l is = alike_seen k l [] is

    leads_fresh : (l : ℕ) (is : List I) → leads m v (as_seen v) (fresh m) same l is ≡ is_least m v same l is
    leads_fresh l is = list_all_agree (λ k. not (stay_alike m v (as_seen v) (fresh m) same k l is)) (λ k. not (see_alike m v same k l is)) (below l) (λ k. ap not (stay_fresh k l is))

    pub turns_fresh : (before : List I) (i : I) → turns_all m v (as_seen v) (fresh m) same before i ≡ work_entry m v same before i
    turns_fresh before i = sum_agree_below
        (λ l. cond (leads m v (as_seen v) (fresh m) same l (before ++ i ∷ [])) (handles m v (as_seen v) (fresh m) l before i).turns 0)
        (λ l. cond (is_least m v same l (before ++ i ∷ [])) (copy_turns m v same l before i) 0) v.count
        (λ l lt. ap₂ (λ b n. cond b n 0) (leads_fresh l (before ++ i ∷ [])) (ap (λ s. (handle_seen m s (v.sees l i)).turns) (state_fresh l before)))

    pub work_fresh : (is : List I) → work_of m v (as_seen v) (fresh m) same is ≡ work m v same is
    unfolding work_of work
    work_fresh is = ap sum (entries_agree (turns_all m v (as_seen v) (fresh m) same) (work_entry m v same) [] [] is turns_fresh)
