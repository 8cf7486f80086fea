-- Where copies stand, inputs leave them so: levels that are one copy have one state, and one copy
-- is a relation of equals.
use Rattle.std.proofs.Common.{◌≡◌, ℕ, zero, suc, ◌<◌, Bool, true, cond, not, ◌&&◌, List, [], ◌∷◌, ◌++◌, sum, refl, sym, ap, ap₂, ◌∙◌, arith}
use Rattle.std.specs.List.{cons_option, list_all}
use Rattle.std.specs.Option.{option_eq}
use Rattle.std.proofs.lemmas.Bool.{and_parts, and_from}
use Rattle.ff_confinement.specs.Runs.{Machine, after_from, handle_seen}
use Rattle.ff_confinement.specs.Copies.{Levels}
use Rattle.ff_confinement.proofs.Classes.{IsSame, option_same, option_equal}
use Rattle.ff_confinement.specs.Standings.{Standing, StandAlike, Offering, given_from, given, given_alike_from, given_alike, state_after, handles, puts_own, puts_all, run, stay_alike, leads, turns_all, work_of, standing_after}
use Rattle.ff_confinement.specs.Copies.{at_level}
use Rattle.ff_contract.specs.Lists.{below}
use Rattle.ff_confinement.specs.Turns.{Reactor, machine_of}
use Rattle.ff_confinement.specs.Worlds.{World, levels}
use Rattle.ff_confinement.proofs.Lists.{flat_map_agree_below}
use Rattle.ff_confinement.proofs.Below.{sum_agree_below}
use Rattle.ff_confinement.specs.Rested.{IsRested, standing_of}
use Rattle.ff_confinement.proofs.Standings.{entries_agree}
use Rattle.std.proofs.lemmas.List.Folds.{list_all-append}

module _ {I : Type 0} (same : I → I → Bool) (decides : IsSame same) (offers : Offering I) where
  -- levels that were offered the same were given the same
  pub given_same : (k l : ℕ) (before is : List I) → given_alike_from same offers k l before is ≡ true → given_from offers k before is ≡ given_from offers l before is
  given_same k l before [] alike = refl
  given_same k l before (i ∷ is) alike =
      let parts = and_parts (option_eq same (offers before k i) (offers before l i)) (given_alike_from same offers k l (before ++ i ∷ []) is) alike in
      ap₂ cons_option (option_same same decides (offers before k i) (offers before l i) parts.0) (given_same k l (before ++ i ∷ []) is parts.1)

  pub alike_itself : (l : ℕ) (before is : List I) → given_alike_from same offers l l before is ≡ true
  alike_itself l before [] = refl
  alike_itself l before (i ∷ is) =
      and_from (option_eq same (offers before l i) (offers before l i)) (given_alike_from same offers l l (before ++ i ∷ []) is)
      (option_equal same decides (offers before l i) (offers before l i) refl) (alike_itself l (before ++ i ∷ []) is)

  pub alike_back : (k l : ℕ) (before is : List I) → given_alike_from same offers k l before is ≡ true → given_alike_from same offers l k before is ≡ true
  alike_back k l before [] alike = refl
  alike_back k l before (i ∷ is) alike =
      let parts = and_parts (option_eq same (offers before k i) (offers before l i)) (given_alike_from same offers k l (before ++ i ∷ []) is) alike in
      and_from (option_eq same (offers before l i) (offers before k i)) (given_alike_from same offers l k (before ++ i ∷ []) is)
      (option_equal same decides (offers before l i) (offers before k i) (sym (option_same same decides (offers before k i) (offers before l i) parts.0)))
      (alike_back k l (before ++ i ∷ []) is parts.1)

  pub alike_on : (j k l : ℕ) (before is : List I) → given_alike_from same offers j k before is ≡ true → given_alike_from same offers k l before is ≡ true → given_alike_from same offers j l before is ≡ true
  alike_on j k l before [] first second = refl
  alike_on j k l before (i ∷ is) first second =
      let one = and_parts (option_eq same (offers before j i) (offers before k i)) (given_alike_from same offers j k (before ++ i ∷ []) is) first in
      let two = and_parts (option_eq same (offers before k i) (offers before l i)) (given_alike_from same offers k l (before ++ i ∷ []) is) second in
      and_from (option_eq same (offers before j i) (offers before l i)) (given_alike_from same offers j l (before ++ i ∷ []) is)
      (option_equal same decides (offers before j i) (offers before l i) (option_same same decides (offers before j i) (offers before k i) one.0 ∙ option_same same decides (offers before k i) (offers before l i) two.0))
      (alike_on j k l (before ++ i ∷ []) is one.1 two.1)

  -- levels that are one copy have one state
  pub one_state : {O S : Type 0} (m : Machine I O S) (v : Levels I O) (from : Standing S) (k l : ℕ) (is : List I) → (from.alike k l ≡ true → from.states k ≡ from.states l)
      → stay_alike m v offers from same k l is ≡ true → state_after m v offers from k is ≡ state_after m v offers from l is
  unfolding state_after
  one_state m v from k l is at_start alike =
      let parts = and_parts (from.alike k l) (given_alike same offers k l is) alike in
      ap₂ (after_from m) (at_start parts.0) (given_same k l [] is parts.1)

-- a world at rest stands where the inputs have brought its copies
pub rested_stands : {I O S : Type 0} (r : Reactor I O S) (most : ℕ) (v : Levels I O) (offers : Offering I) (from : Standing S) (same : I → I → Bool) (w : World I O S) (is : List I) → IsRested r most v offers from same w is
    → StandAlike (levels w) (standing_of r w) (standing_after (machine_of r most) v offers from same is)
rested_stands r most v offers from same w is at = record { states = at.states; classes = at.classes }

-- tests that agree below n
pub all_agree_below : (f g : ℕ → Bool) (n : ℕ) → ((k : ℕ) → k < n → f k ≡ g k) → list_all f (below n) ≡ list_all g (below n)
all_agree_below f g zero agree = refl
all_agree_below f g (suc n) agree =
    list_all-append f (below n) (n ∷ [])
    ∙ ap₂ (λ a b. a && b) (all_agree_below f g n (λ k lt. agree k (omega arith))) (ap (λ b. b && true) (agree n (omega arith)))
    ∙ sym (list_all-append g (below n) (n ∷ []))

-- from where copies stand alike, they run alike
module _ {I O S : Type 0} (m : Machine I O S) (v : Levels I O) (offers : Offering I) (a b : Standing S) (alike : StandAlike v.count a b) where
  states_alike : (l : ℕ) (is : List I) → l < v.count → state_after m v offers a l is ≡ state_after m v offers b l is
  unfolding state_after
  states_alike l is lt = ap (λ s. after_from m s (given offers l is)) (alike.states l lt)

  handles_alike : (l : ℕ) (before : List I) (i : I) → l < v.count → handles m v offers a l before i ≡ handles m v offers b l before i
  handles_alike l before i lt = ap (λ s. handle_seen m s (offers before l i)) (states_alike l before lt)

  pub run_alike : (is : List I) → run m v offers a is ≡ run m v offers b is
  unfolding run
  run_alike is = entries_agree (puts_all m v offers a) (puts_all m v offers b) [] [] is
      (λ before i. flat_map_agree_below (λ l. puts_own m v offers a l before i) (λ l. puts_own m v offers b l before i) v.count (λ l lt. ap (λ h. at_level v l h.outputs) (handles_alike l before i lt)))

  module _ (same : I → I → Bool) where
    pub leads_alike : (l : ℕ) (is : List I) → l < v.count → leads m v offers a same l is ≡ leads m v offers b same l is
    leads_alike l is lt = all_agree_below (λ k. not (stay_alike m v offers a same k l is)) (λ k. not (stay_alike m v offers b same k l is)) l
        (λ k less. ap (λ c. not (c && given_alike same offers k l is)) (alike.classes k l (omega arith) lt))

    pub work_alike : (is : List I) → work_of m v offers a same is ≡ work_of m v offers b same is
    unfolding work_of
    work_alike is = ap sum (entries_agree (turns_all m v offers a same) (turns_all m v offers b same) [] [] is
        (λ before i. sum_agree_below
        (λ l. cond (leads m v offers a same l (before ++ i ∷ [])) (handles m v offers a l before i).turns 0)
        (λ l. cond (leads m v offers b same l (before ++ i ∷ [])) (handles m v offers b l before i).turns 0) v.count
        (λ l lt. ap₂ (λ c n. cond c n 0) (leads_alike l (before ++ i ∷ []) lt) (ap (λ h. h.turns) (handles_alike l before i lt)))))

    pub standing_alike : (is : List I) → StandAlike v.count (standing_after m v offers a same is) (standing_after m v offers b same is)
    standing_alike is = record {
      states = λ l lt. states_alike l is lt;
      classes = λ k l in_k in_l. ap (λ c. c && given_alike same offers k l is) (alike.classes k l in_k in_l);
    }
