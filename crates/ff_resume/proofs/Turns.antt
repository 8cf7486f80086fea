-- The turns of a run over some inputs and then others.
use Rattle.std.proofs.Common.{◌≡◌, ◌+◌, ℕ, Bool, cond, not, List, [], ◌∷◌, ◌++◌, sum, sym, ap, ap₂, ◌∙◌, append_assoc, append-nil}
use Rattle.std.proofs.lemmas.List.Sums.{sum_by-append}
use Rattle.ff_machine.specs.State.{State}
use Rattle.ff_policy.specs.Assignment.{Assignment}
use Rattle.ff_confinement.specs.Copies.{Levels}
use Rattle.ff_confinement.specs.Runs.{Machine, entries, handle_seen}
use Rattle.ff_confinement.specs.Standings.{Offering, Standing, handles, leads, once_come, standing_after, stay_alike, turns_all, work_of}
use Rattle.ff_confinement.proofs.Alike.{all_agree_below}
use Rattle.ff_confinement.proofs.Below.{sum_agree_below}
use Rattle.ff_confinement.proofs.Lists.{entries-append}
use Rattle.ff_confinement.proofs.Standings.{alike_stays_rest, entries_agree, states_rest}
use Rattle.ff_session.specs.Levels.{levels, machine}
use Rattle.ff_session.specs.Multi.{run_turns, seen_by, stands_after}
use Rattle.ff_value.specs.Same.{same_input}
use Rattle.ff_value.specs.declared.input.Input.{Input}

module _ {I O S : Type 0} (m : Machine I O S) (v : Levels I O) (offers : Offering I) (from : Standing S) (same : I → I → Bool) (is : List I) where
  abbrev mid : Standing S
  mid = standing_after m v offers from same is

  -- whether a level is the least of its copy, once some inputs have come
  leads_rest : (l : ℕ) (js : List I) → leads m v offers from same l (is ++ js) ≡ leads m v (once_come offers is) mid same l js
  leads_rest l js = all_agree_below (λ k. not (stay_alike m v offers from same k l (is ++ js))) (λ k. not (stay_alike m v (once_come offers is) mid same k l js)) l
      (λ k less. ap not (alike_stays_rest m v offers from same is js k l))

  -- the turns of one input after them
  turns_rest : (before : List I) (i : I) → turns_all m v offers from same (is ++ before) i ≡ turns_all m v (once_come offers is) mid same before i
  turns_rest before i = sum_agree_below
      (λ l. cond (leads m v offers from same l ((is ++ before) ++ i ∷ [])) (handles m v offers from l (is ++ before) i).turns 0)
      (λ l. cond (leads m v (once_come offers is) mid same l (before ++ i ∷ [])) (handles m v (once_come offers is) mid l before i).turns 0) v.count
      (λ l lt. ap₂ (λ c n. cond c n 0)
      (ap (leads m v offers from same l) (append_assoc is before (i ∷ [])) ∙ leads_rest l (before ++ i ∷ []))
      (ap (λ s. (handle_seen m s (offers (is ++ before) l i)).turns) (states_rest m v offers from same is before l)))

  work_rest : (js : List I) → work_of m v offers from same (is ++ js) ≡ work_of m v offers from same is + work_of m v (once_come offers is) mid same js
  unfolding work_of
  work_rest js =
      ap sum (entries-append (turns_all m v offers from same) [] is js)
      ∙ sum_by-append (λ n. n) (entries (turns_all m v offers from same) [] is) (entries (turns_all m v offers from same) is js)
      ∙ ap (λ es. work_of m v offers from same is + sum es)
      (ap (λ xs. entries (turns_all m v offers from same) xs js) (sym (append-nil is))
      ∙ entries_agree (turns_all m v offers from same) (turns_all m v (once_come offers is) mid same) is [] js turns_rest)

-- those over the first ones and then, from where the copies then stand, those over the others
pub parts_turns : (p : Assignment) (from : Standing State) (is js : List Input) → run_turns p (seen_by p) from (is ++ js) ≡ run_turns p (seen_by p) from is + run_turns p (seen_by p) (stands_after p from is) js
parts_turns p from is js = work_rest (machine p) (levels p) (seen_by p) from same_input is js
