-- Runs of copies from anywhere that are offered what their levels see: a level has what the plain
-- machine puts from where its copy stood, and its view depends on what it sees alone.
use Rattle.std.proofs.Common.{◌≡◌, ℕ, zero, suc, ◌<◌, Bool, true, false, cond, ◌==◌, ◌||◌, Option, Some, None, option_and_then, List, [], ◌∷◌, ◌++◌, filter, map, All, bytes_eq, refl, sym, ap, ap₂, ◌∙◌, ◌⊎◌, inl, inr, eqb-true}
use Rattle.std.specs.List.{cons_option}
use Rattle.std.specs.Option.{is_some}
use Rattle.std.proofs.lemmas.Bool.{cases_eq, eq-eqb, false_from_ne_true, ne_eqb}
use Rattle.std.proofs.lemmas.List.Elements.{filter-append, filter_passes, All-head, All-tail, All-weaker}
use Rattle.std.proofs.lemmas.List.Folds.{list_any-append}
use Rattle.std.proofs.lemmas.List.{map-append}
use Rattle.std.proofs.lemmas.Slice.Eq.{bytes_eq-Decides}
use Rattle.ff_confinement.specs.Copies.{Levels, seen, at_level}
use Rattle.ff_contract.specs.Lists.{below}
use Rattle.ff_confinement.specs.Given.{is_given, row_where, given_below}
use Rattle.ff_confinement.specs.Laws.{IsLawful}
use Rattle.ff_confinement.specs.Runs.{Machine, entries, joined, handle_seen, plain_from}
use Rattle.ff_confinement.specs.Standings.{Standing, as_seen, puts_all, puts_own, run, state_after}
use Rattle.ff_confinement.specs.Text.{only, text_of, text_out, view}
use Rattle.ff_confinement.specs.Worlds.{each}
use Rattle.ff_confinement.proofs.Below.{each_agree}
use Rattle.ff_confinement.proofs.Fits.{has_line}
use Rattle.ff_confinement.proofs.Given.{run_ok, secured_as_offered}
use Rattle.ff_confinement.proofs.Lists.{filter-flat_map, filter_agree_all, filter_all, filter_none, flat_map_one_below}
use Rattle.ff_confinement.proofs.Standings.{state_more, state_start}
use Rattle.ff_confinement.proofs.Text.{HasLine, pick-text_of}
use Rattle.ff_machine.specs.State.{State}
use Rattle.ff_machine.specs.Valid.{IsState}
use Rattle.ff_policy.specs.Assignment.{Assignment, IsAssignment}
use Rattle.ff_lattice.specs.Order.{size}
use Rattle.ff_trace.specs.Lines.{IsInputOf}
use Rattle.ff_value.specs.declared.input.Input.{Input}
use Rattle.ff_session.specs.Levels.{levels, machine}
use Rattle.ff_session.specs.Multi.{run_text, seen_by}
use Rattle.ff_session.proofs.Inputs.{seen_input}
use Rattle.ff_session.proofs.Lawful.{lawful}

module _ {I O S : Type 0} (m : Machine I O S) (v : Levels I O) (from : Standing S) where
  -- what a copy puts out is of its own level
  own_level : (k : ℕ) (before : List I) (i : I) → All (λ o. v.level_out o ≡ k) (puts_own m v (as_seen v) from k before i)
  own_level k before i =
      All-weaker (λ o. (v.level_out o == k) ≡ true) (λ o. v.level_out o ≡ k) (λ o e. eqb-true (v.level_out o) k e) (puts_own m v (as_seen v) from k before i)
      (filter_passes (λ o. v.level_out o == k) (handle_seen m (state_after m v (as_seen v) from k before) (v.sees k i)).outputs)

  -- so of what all put out for an input, a level has what its own copy put out
  own_of_all : (l : ℕ) (before : List I) (i : I) → l < v.count → at_level v l (puts_all m v (as_seen v) from before i) ≡ puts_own m v (as_seen v) from l before i
  own_of_all l before i lt =
      filter-flat_map (λ o. v.level_out o == l) (λ k. puts_own m v (as_seen v) from k before i) (below v.count)
      ∙ flat_map_one_below (λ k. at_level v l (puts_own m v (as_seen v) from k before i)) l v.count lt
      (λ k at_k differ. filter_none (λ o. v.level_out o == l) (puts_own m v (as_seen v) from k before i)
      (All-weaker (λ o. v.level_out o ≡ k) (λ o. (v.level_out o == l) ≡ false) (λ o e. ne_eqb (v.level_out o) l (λ same. differ (sym e ∙ same))) (puts_own m v (as_seen v) from k before i) (own_level k before i)))
      ∙ filter_all (λ o. v.level_out o == l) (puts_own m v (as_seen v) from l before i)
      (All-weaker (λ o. v.level_out o ≡ l) (λ o. (v.level_out o == l) ≡ true) (λ o e. eq-eqb (v.level_out o) l e) (puts_own m v (as_seen v) from l before i) (own_level l before i))

  own_entries : (l : ℕ) (before is : List I) → l < v.count → at_level v l (joined (entries (puts_all m v (as_seen v) from) before is)) ≡ joined (entries (puts_own m v (as_seen v) from l) before is)
  own_entries l before [] lt = refl
  own_entries l before (i ∷ is) lt =
      filter-append (λ o. v.level_out o == l) (puts_all m v (as_seen v) from before i) (joined (entries (puts_all m v (as_seen v) from) (before ++ i ∷ []) is))
      ∙ ap₂ (λ os ps. os ++ ps) (own_of_all l before i lt) (own_entries l (before ++ i ∷ []) is lt)

  -- and that is what the plain machine puts at the level, from where the copy stands
  own_plain : (l : ℕ) (before is : List I) → joined (entries (puts_own m v (as_seen v) from l) before is) ≡ at_level v l (joined (plain_from m (state_after m v (as_seen v) from l before) (seen v l is)))
  own_plain l before [] = refl
  own_plain l before (i ∷ is) =
      ap (λ os. puts_own m v (as_seen v) from l before i ++ os) (own_plain l (before ++ i ∷ []) is ∙ ap (λ s. at_level v l (joined (plain_from m s (seen v l is)))) (state_more m v (as_seen v) from l before i))
      ∙ by (v.sees l i)
    where
      at : S
      at = state_after m v (as_seen v) from l before

      by : (o : Option I) → at_level v l (handle_seen m at o).outputs ++ at_level v l (joined (plain_from m (handle_seen m at o).after (seen v l is)))
          ≡ at_level v l (joined (plain_from m at (cons_option o (seen v l is))))
      by None = refl
      by (Some x) = sym (filter-append (λ o. v.level_out o == l) (m.handle at x).outputs (joined (plain_from m (m.handle at x).after (seen v l is))))

  run_at_level : (l : ℕ) (is : List I) → l < v.count → at_level v l (joined (run m v (as_seen v) from is)) ≡ at_level v l (joined (plain_from m (from.states l) (seen v l is)))
  unfolding run
  run_at_level l is lt =
      own_entries l [] is lt ∙ own_plain l [] is ∙ ap (λ s. at_level v l (joined (plain_from m s (seen v l is)))) (state_start m v (as_seen v) from l)

-- nothing is given in a row of nothing
none_given : {I : Type 0} (f : ℕ → Option I) (n : ℕ) → ((k : ℕ) → f k ≡ None) → is_given (each f n) ≡ false
none_given f zero none = refl
none_given f (suc n) none =
    ap is_given (map-append f (below n) (n ∷ [])) ∙ list_any-append is_some (each f n) (f n ∷ [])
    ∙ ap₂ (λ a b. a || b) (none_given f n none) (ap (λ o. is_some o || false) (none n))

module _ {I O S : Type 0} {m : Machine I O S} {v : Levels I O} {InputOk : I → Type 0} {StateOk : S → Type 0} {OutputOk : O → Type 0} (law : IsLawful m v InputOk StateOk OutputOk) where
  -- an output's level has the name of a level exactly where it is that level
  pub named_so : (l : ℕ) (o : O) → l < v.count → OutputOk o → bytes_eq (v.name l) (v.name (v.level_out o)) ≡ (v.level_out o == l)
  named_so l o lt ok = by (cases_eq (v.level_out o) l)
    where
      decides : (bytes_eq (v.name l) (v.name (v.level_out o)) ≡ true → v.name l ≡ v.name (v.level_out o)) × (v.name l ≡ v.name (v.level_out o) → bytes_eq (v.name l) (v.name (v.level_out o)) ≡ true)
      decides = bytes_eq-Decides (v.name l) (v.name (v.level_out o))

      by : (v.level_out o ≡ l) ⊎ (v.level_out o ≡ l → ⊥) → bytes_eq (v.name l) (v.name (v.level_out o)) ≡ (v.level_out o == l)
      by (inl e) = decides.1 (ap v.name (sym e)) ∙ sym (eq-eqb (v.level_out o) l e)
      by (inr differ) =
          false_from_ne_true (bytes_eq (v.name l) (v.name (v.level_out o))) (λ e. differ (law.names_differ (v.level_out o) l (law.level_ok o ok) lt (sym (decides.0 e))))
          ∙ sym (ne_eqb (v.level_out o) l differ)

  -- the lines of a level in the text of outputs are those of its own
  pub only_at_level : (l : ℕ) (os : List O) → l < v.count → All OutputOk os → only v l (text_of v os) ≡ text_of v (at_level v l os)
  unfolding only
  only_at_level l os lt ok =
      pick-text_of v (bytes_eq (v.name l)) os (All-weaker OutputOk (HasLine v) (has_line law) os ok)
      ∙ ap (text_of v) (filter_agree_all (λ o. bytes_eq (v.name l) (v.name (v.level_out o))) (λ o. v.level_out o == l) os
      (All-weaker OutputOk (λ o. bytes_eq (v.name l) (v.name (v.level_out o)) ≡ (v.level_out o == l)) (λ o good. named_so l o lt good) os ok))

  -- what the levels at or below a level are offered is told by what it sees
  module _ (l : ℕ) (lt : l < v.count) where
    abbrev row_of : I → List (Option I)
    row_of x = each (λ k. cond (v.leq k l) (v.sees k x) None) v.count

    row_so : (before : List I) (i : I) → InputOk i → (o : Option I) → v.sees l i ≡ o → row_where v (as_seen v) (λ k. v.leq k l) before i ≡ each (λ k. cond (v.leq k l) (option_and_then (v.sees k) o) None) v.count
    row_so before i ok o e = each_agree (λ k. cond (v.leq k l) (v.sees k i) None) (λ k. cond (v.leq k l) (option_and_then (v.sees k) o) None) v.count (λ k at_k. by k at_k (v.leq k l) refl)
      where
        by : (k : ℕ) → k < v.count → (b : Bool) → v.leq k l ≡ b → cond b (v.sees k i) None ≡ cond b (option_and_then (v.sees k) o) None
        by k at_k true is_low = law.sees_below k l i at_k lt ok is_low ∙ ap (λ x. option_and_then (v.sees k) x) e
        by k at_k false is_low = refl

    rows_so : (before is : List I) → All InputOk is → filter is_given (entries (row_where v (as_seen v) (λ k. v.leq k l)) before is) ≡ filter is_given (map row_of (seen v l is))
    rows_so before [] ok = refl
    rows_so before (i ∷ is) ok = by (v.sees l i) refl (rows_so (before ++ i ∷ []) is (All-tail InputOk i is ok))
      where
        here : InputOk i
        here = All-head InputOk i is ok

        rest : List (List (Option I))
        rest = filter is_given (entries (row_where v (as_seen v) (λ k. v.leq k l)) (before ++ i ∷ []) is)

        nothing : (k : ℕ) (b : Bool) → cond b (option_and_then (v.sees k) None) None ≡ None
        nothing k true = refl
        nothing k false = refl

        unseen : v.sees l i ≡ None → is_given (row_where v (as_seen v) (λ k. v.leq k l) before i) ≡ false
        unseen e =
            ap is_given (row_so before i here None e)
            ∙ none_given (λ k. cond (v.leq k l) (option_and_then (v.sees k) None) None) v.count (λ k. nothing k (v.leq k l))

        by : (o : Option I) → v.sees l i ≡ o → rest ≡ filter is_given (map row_of (seen v l is))
            → cond (is_given (row_where v (as_seen v) (λ k. v.leq k l) before i)) (row_where v (as_seen v) (λ k. v.leq k l) before i ∷ rest) rest ≡ filter is_given (map row_of (cons_option o (seen v l is)))
        by None e more = ap (λ b. cond b (row_where v (as_seen v) (λ k. v.leq k l) before i ∷ rest) rest) (unseen e) ∙ more
        by (Some x) e more =
            ap (λ row. cond (is_given row) (row ∷ rest) rest) (row_so before i here (Some x) e)
            ∙ ap (λ rs. cond (is_given (row_of x)) (row_of x ∷ rs) rs) more

    pub given_as_seen : (is js : List I) → All InputOk is → All InputOk js → seen v l js ≡ seen v l is → given_below v (as_seen v) l js ≡ given_below v (as_seen v) l is
    given_as_seen is js ok ok' alike = rows_so [] js ok' ∙ ap (λ xs. filter is_given (map row_of xs)) alike ∙ sym (rows_so [] is ok)

-- the same of a policy's levels and its browser
module _ (p : Assignment) (from : Standing State) (valid : IsAssignment p) (from_ok : (l : ℕ) → IsState p.fuel (from.states l)) (l : ℕ) (within : l < size p.order) (is : List Input) (ok : All (IsInputOf p.order) is) where
  offers_ok : (before : List Input) (k : ℕ) (i x : Input) → IsInputOf p.order i → as_seen (levels p) before k i ≡ Some x → IsInputOf p.order x
  offers_ok before k i x is seen = seen_input p k i x is seen

  -- a level's own lines are what the plain browser puts at it, from where its copy stood, on what
  -- it sees
  pub own_from : only (levels p) l (run_text p (seen_by p) from is) ≡ text_of (levels p) (at_level (levels p) l (joined (plain_from (machine p) (from.states l) (seen (levels p) l is))))
  unfolding text_out
  own_from =
      only_at_level (lawful p valid) l (joined (run (machine p) (levels p) (seen_by p) from is)) within (run_ok (lawful p valid) (seen_by p) from offers_ok from_ok is ok)
      ∙ ap (text_of (levels p)) (run_at_level (machine p) (levels p) from l is within)

  -- inputs that look the same to it give it the same view
  pub view_from : (js : List Input) → All (IsInputOf p.order) js → seen (levels p) l js ≡ seen (levels p) l is → view (levels p) l (run_text p (seen_by p) from is) ≡ view (levels p) l (run_text p (seen_by p) from js)
  view_from js ok' alike =
      secured_as_offered (lawful p valid) (seen_by p) from offers_ok from_ok is (run_text p (seen_by p) from is) ok refl l js within ok'
      (given_as_seen (lawful p valid) l within is js ok ok' alike)
