-- The view of a level is made from what the levels at or below it are offered.
use Rattle.std.proofs.Common.{◌≡◌, ℕ, ◌<◌, Bool, true, false, cond, ◌==◌, Option, Some, None, List, [], ◌∷◌, ◌++◌, length, filter, flat_map, All, refl, sym, ap, ap₂, ◌∙◌, eqb-true, arith}
use Rattle.std.specs.List.{cons_option}
use Rattle.std.specs.Option.{is_some}
use Rattle.std.proofs.lemmas.Bool.{true≢false}
use Rattle.std.proofs.lemmas.List.Elements.{filter-append, filter_passes, All-nil, All-cons, All-head, All-tail, All-append, All-push, All-filter, All-weaker}
use Rattle.std.proofs.lemmas.List.Folds.{list_any_at}
use Rattle.ff_confinement.specs.Runs.{Machine, entries, joined, handle_seen}
use Rattle.ff_confinement.specs.Copies.{Levels, at_level}
use Rattle.ff_contract.specs.Lists.{below}
use Rattle.ff_confinement.specs.Text.{text_of, text_out, names_below, view}
use Rattle.ff_confinement.specs.Laws.{IsLawful}
use Rattle.ff_confinement.specs.Worlds.{offer}
use Rattle.ff_confinement.proofs.Below.{length-each, get_or-each}
use Rattle.ff_confinement.proofs.Lists.{filter-flat_map, flat_map_agree_below, flat_map_none_below, filter_all, filter_none, filter_agree_all}
use Rattle.ff_confinement.proofs.Text.{HasLine, pick-text_of}
use Rattle.ff_confinement.proofs.Fits.{All-flat_map_below, after_from_ok, has_line}
use Rattle.ff_confinement.proofs.Names.{name_below}
use Rattle.ff_confinement.specs.Standings.{Standing, Offering, given_from, state_after, handles, puts_own, puts_all, run}
use Rattle.ff_confinement.specs.Given.{is_given, row_where, given_where, given_below, IsSecureAsOffered}
use Rattle.ff_confinement.proofs.Standings.{state_start, state_more}

-- a row of which nothing is given has nothing at any place
not_given_at : {I : Type 0} (row : List (Option I)) (k : ℕ) → k < length row → is_given row ≡ false → offer row k ≡ None
not_given_at row k within none = from (offer row k) refl
  where
    from : (o : Option _) → offer row k ≡ o → offer row k ≡ None
    from None e = e
    from (Some x) e = absurd (true≢false (sym (list_any_at is_some row k None within (ap is_some e)) ∙ none))

module _ {I O S : Type 0} (m : Machine I O S) (v : Levels I O) (low : ℕ → Bool) where
  -- what the copies of the levels that pass put out for a row, from these states
  abbrev pub low_puts : (ℕ → S) → List (Option I) → List O
  low_puts states row = flat_map (λ k. cond (low k) (at_level v k (handle_seen m (states k) (offer row k)).outputs) []) (below v.count)

  -- and for one row after another
  abbrev pub low_run : (ℕ → S) → List (List (Option I)) → List O
  low_run states [] = []
  low_run states (row ∷ rows) = low_puts states row ++ low_run (λ k. (handle_seen m (states k) (offer row k)).after) rows

  -- the states of the copies of these levels alone count
  low_run_agree : (states others : ℕ → S) (rows : List (List (Option I))) → ((k : ℕ) → k < v.count → low k ≡ true → states k ≡ others k) → low_run states rows ≡ low_run others rows
  low_run_agree states others [] agree = refl
  low_run_agree states others (row ∷ rows) agree =
      ap₂ (λ os ps. os ++ ps)
      (flat_map_agree_below (λ k. cond (low k) (at_level v k (handle_seen m (states k) (offer row k)).outputs) []) (λ k. cond (low k) (at_level v k (handle_seen m (others k) (offer row k)).outputs) []) v.count (λ k at_k. from k at_k (low k) refl))
      (low_run_agree (λ k. (handle_seen m (states k) (offer row k)).after) (λ k. (handle_seen m (others k) (offer row k)).after) rows (λ k at_k is_low. ap (λ s. (handle_seen m s (offer row k)).after) (agree k at_k is_low)))
    where
      from : (k : ℕ) → k < v.count → (b : Bool) → low k ≡ b → cond b (at_level v k (handle_seen m (states k) (offer row k)).outputs) [] ≡ cond b (at_level v k (handle_seen m (others k) (offer row k)).outputs) []
      from k at_k true is_low = ap (λ s. at_level v k (handle_seen m s (offer row k)).outputs) (agree k at_k is_low)
      from k at_k false is_low = refl

  module _ (offers : Offering I) (from : Standing S) where
    row_at : (k : ℕ) (before : List I) (i : I) → k < v.count → low k ≡ true → offer (row_where v offers low before i) k ≡ offers before k i
    row_at k before i at_k is_low = get_or-each (λ n. cond (low n) (offers before n i) None) v.count k None at_k ∙ ap (λ b. cond b (offers before k i) None) is_low

    none_at : (k : ℕ) (before : List I) (i : I) → k < v.count → low k ≡ true → is_given (row_where v offers low before i) ≡ false → offers before k i ≡ None
    none_at k before i at_k is_low none =
        sym (row_at k before i at_k is_low)
        ∙ not_given_at (row_where v offers low before i) k (let long = length-each (λ n. cond (low n) (offers before n i) None) v.count in omega (arith, long, at_k)) none

    -- of what a copy puts, all or nothing is of levels that pass
    low_part : (k : ℕ) (before : List I) (i : I) → filter (λ o. low (v.level_out o)) (puts_own m v offers from k before i) ≡ cond (low k) (puts_own m v offers from k before i) []
    low_part k before i = by (low k) refl
      where
        at_k : All (λ o. (v.level_out o == k) ≡ true) (puts_own m v offers from k before i)
        at_k = filter_passes (λ o. v.level_out o == k) (handles m v offers from k before i).outputs

        by : (b : Bool) → low k ≡ b → filter (λ o. low (v.level_out o)) (puts_own m v offers from k before i) ≡ cond b (puts_own m v offers from k before i) []
        by true e = filter_all (λ o. low (v.level_out o)) (puts_own m v offers from k before i)
            (All-weaker (λ o. (v.level_out o == k) ≡ true) (λ o. low (v.level_out o) ≡ true) (λ o at. ap low (eqb-true (v.level_out o) k at) ∙ e) (puts_own m v offers from k before i) at_k)
        by false e = filter_none (λ o. low (v.level_out o)) (puts_own m v offers from k before i)
            (All-weaker (λ o. (v.level_out o == k) ≡ true) (λ o. low (v.level_out o) ≡ false) (λ o at. ap low (eqb-true (v.level_out o) k at) ∙ e) (puts_own m v offers from k before i) at_k)

    low_all : (before : List I) (i : I) → filter (λ o. low (v.level_out o)) (puts_all m v offers from before i) ≡ flat_map (λ k. cond (low k) (puts_own m v offers from k before i) []) (below v.count)
    low_all before i =
        filter-flat_map (λ o. low (v.level_out o)) (λ k. puts_own m v offers from k before i) (below v.count)
        ∙ flat_map_agree_below (λ k. filter (λ o. low (v.level_out o)) (puts_own m v offers from k before i)) (λ k. cond (low k) (puts_own m v offers from k before i) []) v.count (λ k at_k. low_part k before i)

    -- for an input of which none of these levels is offered anything, they put nothing, and
    -- their states stay
    none_put : (before : List I) (i : I) → is_given (row_where v offers low before i) ≡ false → flat_map (λ k. cond (low k) (puts_own m v offers from k before i) []) (below v.count) ≡ []
    none_put before i none = flat_map_none_below (λ k. cond (low k) (puts_own m v offers from k before i) []) v.count (λ k at_k. by k at_k (low k) refl)
      where
        by : (k : ℕ) → k < v.count → (b : Bool) → low k ≡ b → cond b (puts_own m v offers from k before i) [] ≡ []
        by k at_k true is_low = ap (λ o. at_level v k (handle_seen m (state_after m v offers from k before) o).outputs) (none_at k before i at_k is_low none)
        by k at_k false is_low = refl

    some_put : (before : List I) (i : I) → flat_map (λ k. cond (low k) (puts_own m v offers from k before i) []) (below v.count) ≡ low_puts (λ k. state_after m v offers from k before) (row_where v offers low before i)
    some_put before i =
        flat_map_agree_below (λ k. cond (low k) (puts_own m v offers from k before i) []) (λ k. cond (low k) (at_level v k (handle_seen m (state_after m v offers from k before) (offer (row_where v offers low before i) k)).outputs) []) v.count
        (λ k at_k. by k at_k (low k) refl)
      where
        by : (k : ℕ) → k < v.count → (b : Bool) → low k ≡ b → cond b (puts_own m v offers from k before i) [] ≡ cond b (at_level v k (handle_seen m (state_after m v offers from k before) (offer (row_where v offers low before i) k)).outputs) []
        by k at_k true is_low = ap (λ o. at_level v k (handle_seen m (state_after m v offers from k before) o).outputs) (sym (row_at k before i at_k is_low))
        by k at_k false is_low = refl

    low_entries : (before is : List I) → filter (λ o. low (v.level_out o)) (joined (entries (puts_all m v offers from) before is))
        ≡ low_run (λ k. state_after m v offers from k before) (filter is_given (entries (row_where v offers low) before is))
    low_entries before [] = refl
    low_entries before (i ∷ is) =
        filter-append (λ o. low (v.level_out o)) (puts_all m v offers from before i) (joined (entries (puts_all m v offers from) (before ++ i ∷ []) is))
        ∙ ap₂ (λ os ps. os ++ ps) (low_all before i) (low_entries (before ++ i ∷ []) is)
        ∙ by (is_given (row_where v offers low before i)) refl
      where
        rest : List (List (Option I))
        rest = filter is_given (entries (row_where v offers low) (before ++ i ∷ []) is)

        by : (b : Bool) → is_given (row_where v offers low before i) ≡ b
            → flat_map (λ k. cond (low k) (puts_own m v offers from k before i) []) (below v.count) ++ low_run (λ k. state_after m v offers from k (before ++ i ∷ [])) rest
            ≡ low_run (λ k. state_after m v offers from k before) (cond b (row_where v offers low before i ∷ rest) rest)
        by true e =
            ap₂ (λ os ps. os ++ ps) (some_put before i)
            (low_run_agree (λ k. state_after m v offers from k (before ++ i ∷ [])) (λ k. (handle_seen m (state_after m v offers from k before) (offer (row_where v offers low before i) k)).after) rest
            (λ k at_k is_low. state_more m v offers from k before i ∙ ap (λ o. (handle_seen m (state_after m v offers from k before) o).after) (sym (row_at k before i at_k is_low))))
        by false e =
            ap₂ (λ os ps. os ++ ps) (none_put before i e)
            (low_run_agree (λ k. state_after m v offers from k (before ++ i ∷ [])) (λ k. state_after m v offers from k before) rest
            (λ k at_k is_low. state_more m v offers from k before i ∙ ap (λ o. (handle_seen m (state_after m v offers from k before) o).after) (none_at k before i at_k is_low e)))

    -- what a run puts of levels that pass is made from what these are offered
    pub low_run_is : (is : List I) → filter (λ o. low (v.level_out o)) (joined (run m v offers from is)) ≡ low_run (λ k. from.states k) (given_where v offers low is)
    unfolding run
    low_run_is is = low_entries [] is ∙ low_run_agree (λ k. state_after m v offers from k []) (λ k. from.states k) (given_where v offers low is) (λ k at_k is_low. state_start m v offers from k)

-- so two runs in which all levels are offered the same put the same
pub same_run : {I O S : Type 0} (m : Machine I O S) (v : Levels I O) (offers others : Offering I) (from : Standing S) (is : List I) → given_where v offers (λ k. true) is ≡ given_where v others (λ k. true) is
    → joined (run m v offers from is) ≡ joined (run m v others from is)
same_run {O = O} m v offers others from is alike =
    sym (filter_true (joined (run m v offers from is))) ∙ low_run_is m v (λ k. true) offers from is ∙ ap (low_run m v (λ k. true) (λ k. from.states k)) alike
    ∙ sym (low_run_is m v (λ k. true) others from is) ∙ filter_true (joined (run m v others from is))
  where
    filter_true : (os : List O) → filter (λ o. true) os ≡ os
    filter_true [] = refl
    filter_true (o ∷ os) = ap (λ ps. o ∷ ps) (filter_true os)

module _ {I O S : Type 0} {m : Machine I O S} {v : Levels I O} {InputOk : I → Type 0} {StateOk : S → Type 0} {OutputOk : O → Type 0} (law : IsLawful m v InputOk StateOk OutputOk) (offers : Offering I) (from : Standing S)
    (offers_ok : (before : List I) (l : ℕ) (i x : I) → InputOk i → offers before l i ≡ Some x → InputOk x) (from_ok : (l : ℕ) → StateOk (from.states l)) where
  -- what is offered, the states and what is put are well formed
  given_ok : (l : ℕ) (before is : List I) → All InputOk is → All InputOk (given_from offers l before is)
  given_ok l before [] ok = All-nil InputOk
  given_ok l before (i ∷ is) ok = by (offers before l i) refl (given_ok l (before ++ i ∷ []) is (All-tail InputOk i is ok))
    where
      by : (o : Option I) → offers before l i ≡ o → All InputOk (given_from offers l (before ++ i ∷ []) is) → All InputOk (cons_option o (given_from offers l (before ++ i ∷ []) is))
      by None e rest = rest
      by (Some x) e rest = All-cons InputOk x (given_from offers l (before ++ i ∷ []) is) (offers_ok before l i x (All-head InputOk i is ok) e) rest

  state_ok : (l : ℕ) (is : List I) → All InputOk is → StateOk (state_after m v offers from l is)
  unfolding state_after
  state_ok l is ok = after_from_ok law (from.states l) (given_from offers l [] is) (from_ok l) (given_ok l [] is ok)

  own_ok : (l : ℕ) (before : List I) (i : I) → All InputOk before → InputOk i → All OutputOk (puts_own m v offers from l before i)
  own_ok l before i all here = All-filter (λ o. v.level_out o == l) OutputOk (handles m v offers from l before i).outputs (by (offers before l i) refl)
    where
      by : (o : Option I) → offers before l i ≡ o → All OutputOk (handle_seen m (state_after m v offers from l before) o).outputs
      by None e = All-nil OutputOk
      by (Some x) e = law.outputs_ok (state_after m v offers from l before) x (state_ok l before all) (offers_ok before l i x here e)

  entries_ok : (before is : List I) → All InputOk before → All InputOk is → All OutputOk (joined (entries (puts_all m v offers from) before is))
  entries_ok before [] all ok = All-nil OutputOk
  entries_ok before (i ∷ is) all ok =
      All-append OutputOk (puts_all m v offers from before i) (joined (entries (puts_all m v offers from) (before ++ i ∷ []) is))
      (All-flat_map_below OutputOk (λ l. puts_own m v offers from l before i) v.count (λ l lt. own_ok l before i all (All-head InputOk i is ok)))
      (entries_ok (before ++ i ∷ []) is (All-push InputOk before i all (All-head InputOk i is ok)) (All-tail InputOk i is ok))

  pub run_ok : (is : List I) → All InputOk is → All OutputOk (joined (run m v offers from is))
  unfolding run
  run_ok is ok = entries_ok [] is (All-nil InputOk) ok

  -- the view is a function of what the levels at or below are offered
  pub view_is : (l : ℕ) (is : List I) → All InputOk is → view v l (text_out v (run m v offers from is)) ≡ text_of v (low_run m v (λ k. v.leq k l) (λ k. from.states k) (given_below v offers l is))
  unfolding view text_out
  view_is l is ok =
      pick-text_of v (names_below v l) (joined (run m v offers from is)) (All-weaker OutputOk (HasLine v) (has_line law) (joined (run m v offers from is)) (run_ok is ok))
      ∙ ap (text_of v) (filter_agree_all (λ o. names_below v l (v.name (v.level_out o))) (λ o. v.leq (v.level_out o) l) (joined (run m v offers from is))
      (All-weaker OutputOk (λ o. names_below v l (v.name (v.level_out o)) ≡ v.leq (v.level_out o) l) (λ o good. name_below law (v.level_out o) l (law.level_ok o good)) (joined (run m v offers from is)) (run_ok is ok))
      ∙ low_run_is m v (λ k. v.leq k l) offers from is)

  -- so the text of the run has that view, whatever other inputs give the same
  pub secured_as_offered : (is : List I) (text : List ℕ) → All InputOk is → text ≡ text_out v (run m v offers from is) → IsSecureAsOffered m v offers from InputOk is text
  secured_as_offered is text ok e l js lt ok' alike =
      ap (view v l) e ∙ view_is l is ok ∙ ap (λ rows. text_of v (low_run m v (λ k. v.leq k l) (λ k. from.states k) rows)) (sym alike) ∙ sym (view_is l js ok')
