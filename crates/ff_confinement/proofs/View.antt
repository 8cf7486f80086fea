-- The view of a level is made from what the level sees.
use Rattle.std.proofs.Common.{◌≡◌, ℕ, ◌<◌, Bool, true, false, cond, Option, Some, None, List, [], ◌∷◌, ◌++◌, filter, flat_map, All, refl, sym, ap, ap₂, ◌∙◌, append-nil, option_and_then}
use Rattle.std.specs.List.{cons_option}
use Rattle.std.proofs.lemmas.List.Elements.{filter-append, All-head, All-tail, All-push, All-weaker, All-nil}
use Rattle.ff_confinement.specs.Runs.{Machine, entries, joined, after, handle_seen}
use Rattle.ff_confinement.specs.Copies.{Levels, seen, at_level, copy_entry, multi_entry, multi}
use Rattle.ff_contract.specs.Lists.{below}
use Rattle.ff_confinement.specs.Text.{text_of, text_out, names_below, view}
use Rattle.ff_confinement.specs.Laws.{IsLawful}
use Rattle.ff_confinement.proofs.Lists.{filter-flat_map, flat_map_agree_below, flat_map_none_below, filter_all, filter_none, filter_agree_all}
use Rattle.ff_confinement.proofs.Copies.{copy_entry_is, seen_more}
use Rattle.ff_confinement.proofs.Text.{pick-text_of}
use Rattle.ff_confinement.proofs.Fits.{multi_ok, all_have_lines, copy_entry_level}
use Rattle.ff_confinement.proofs.Names.{name_below}

module _ {I O S : Type 0} (m : Machine I O S) (v : Levels I O) where
  -- what the copies at or below a level put out for one input
  abbrev pub low_entry : ℕ → List I → I → List O
  low_entry l before i = flat_map (λ k. cond (v.leq k l) (copy_entry m v k before i) []) (below v.count)

  low_part : (l k : ℕ) (before : List I) (i : I) → filter (λ o. v.leq (v.level_out o) l) (copy_entry m v k before i) ≡ cond (v.leq k l) (copy_entry m v k before i) []
  low_part l k before i = from (v.leq k l) refl
    where
      from : (b : Bool) → v.leq k l ≡ b → filter (λ o. v.leq (v.level_out o) l) (copy_entry m v k before i) ≡ cond b (copy_entry m v k before i) []
      from true e = filter_all (λ o. v.leq (v.level_out o) l) (copy_entry m v k before i)
          (All-weaker (λ o. v.level_out o ≡ k) (λ o. v.leq (v.level_out o) l ≡ true) (λ o at. ap (λ n. v.leq n l) at ∙ e) (copy_entry m v k before i) (copy_entry_level m v k before i))
      from false e = filter_none (λ o. v.leq (v.level_out o) l) (copy_entry m v k before i)
          (All-weaker (λ o. v.level_out o ≡ k) (λ o. v.leq (v.level_out o) l ≡ false) (λ o at. ap (λ n. v.leq n l) at ∙ e) (copy_entry m v k before i) (copy_entry_level m v k before i))

  low-multi_entry : (l : ℕ) (before : List I) (i : I) → filter (λ o. v.leq (v.level_out o) l) (multi_entry m v before i) ≡ low_entry l before i
  low-multi_entry l before i =
      filter-flat_map (λ o. v.leq (v.level_out o) l) (λ k. copy_entry m v k before i) (below v.count)
      ∙ flat_map_agree_below (λ k. filter (λ o. v.leq (v.level_out o) l) (copy_entry m v k before i)) (λ k. cond (v.leq k l) (copy_entry m v k before i) []) v.count (λ k at_k. low_part l k before i)

  low-entries : (l : ℕ) (before is : List I) → filter (λ o. v.leq (v.level_out o) l) (joined (entries (multi_entry m v) before is)) ≡ joined (entries (low_entry l) before is)
  low-entries l before [] = refl
  low-entries l before (i ∷ is) =
      filter-append (λ o. v.leq (v.level_out o) l) (multi_entry m v before i) (joined (entries (multi_entry m v) (before ++ i ∷ []) is))
      ∙ ap₂ (λ os ps. os ++ ps) (low-multi_entry l before i) (low-entries l (before ++ i ∷ []) is)

  low-multi : (l : ℕ) (is : List I) → filter (λ o. v.leq (v.level_out o) l) (joined (multi m v is)) ≡ joined (entries (low_entry l) [] is)
  unfolding multi
  low-multi l is = low-entries l [] is

module _ {I O S : Type 0} {m : Machine I O S} {v : Levels I O} {InputOk : I → Type 0} {StateOk : S → Type 0} {OutputOk : O → Type 0} (law : IsLawful m v InputOk StateOk OutputOk) where
  -- what a lower level sees is what it sees of that which the higher level sees
  pub seen-seen : (k l : ℕ) (is : List I) → k < v.count → l < v.count → v.leq k l ≡ true → All InputOk is → seen v k is ≡ seen v k (seen v l is)
  seen-seen k l [] at_k at_l low ok = refl
  seen-seen k l (i ∷ is) at_k at_l low ok =
      ap₂ cons_option (law.sees_below k l i at_k at_l (All-head InputOk i is ok) low) (seen-seen k l is at_k at_l low (All-tail InputOk i is ok)) ∙ from (v.sees l i)
    where
      from : (o : Option I) → cons_option (option_and_then (v.sees k) o) (seen v k (seen v l is)) ≡ seen v k (cons_option o (seen v l is))
      from None = refl
      from (Some x) = refl

  -- for an input that the level doesn't see, no copy at or below it puts anything out
  low_entry_unseen : (l : ℕ) (before : List I) (i : I) → l < v.count → InputOk i → v.sees l i ≡ None → low_entry m v l before i ≡ []
  low_entry_unseen l before i at_l here unseen = flat_map_none_below (λ k. cond (v.leq k l) (copy_entry m v k before i) []) v.count (λ k at_k. from k at_k (v.leq k l) refl)
    where
      from : (k : ℕ) → k < v.count → (b : Bool) → v.leq k l ≡ b → cond b (copy_entry m v k before i) [] ≡ []
      from k at_k true low =
          copy_entry_is m v k before i
          ∙ ap (λ o. at_level v k (handle_seen m (after m (seen v k before)) o).outputs) (law.sees_below k l i at_k at_l here low ∙ ap (option_and_then (v.sees k)) unseen)
      from k at_k false low = refl

  -- for one that it sees, those copies put out what they make of what the level sees
  low_entry_seen : (l : ℕ) (before : List I) (i x : I) → l < v.count → All InputOk before → InputOk i → v.sees l i ≡ Some x → low_entry m v l before i ≡ low_entry m v l (seen v l before) x
  low_entry_seen l before i x at_l all here sees_it =
      flat_map_agree_below (λ k. cond (v.leq k l) (copy_entry m v k before i) []) (λ k. cond (v.leq k l) (copy_entry m v k (seen v l before) x) []) v.count (λ k at_k. from k at_k (v.leq k l) refl)
    where
      from : (k : ℕ) → k < v.count → (b : Bool) → v.leq k l ≡ b → cond b (copy_entry m v k before i) [] ≡ cond b (copy_entry m v k (seen v l before) x) []
      from k at_k true low =
          copy_entry_is m v k before i
          ∙ ap₂ (λ xs o. at_level v k (handle_seen m (after m xs) o).outputs) (seen-seen k l before at_k at_l low all) (law.sees_below k l i at_k at_l here low ∙ ap (option_and_then (v.sees k)) sees_it)
          ∙ sym (copy_entry_is m v k (seen v l before) x)
      from k at_k false low = refl

  low_entries_seen : (l : ℕ) (before is : List I) → l < v.count → All InputOk before → All InputOk is
      → joined (entries (low_entry m v l) before is) ≡ joined (entries (low_entry m v l) (seen v l before) (seen v l is))
  low_entries_seen l before [] at_l all ok = refl
  low_entries_seen l before (i ∷ is) at_l all ok =
      ap (λ os. low_entry m v l before i ++ os)
      (low_entries_seen l (before ++ i ∷ []) is at_l (All-push InputOk before i all (All-head InputOk i is ok)) (All-tail InputOk i is ok)
      ∙ ap (λ xs. joined (entries (low_entry m v l) xs (seen v l is))) (seen_more v l before i))
      ∙ from (v.sees l i) refl
    where
      from : (o : Option I) → v.sees l i ≡ o → low_entry m v l before i ++ joined (entries (low_entry m v l) (seen v l before ++ cons_option o []) (seen v l is))
          ≡ joined (entries (low_entry m v l) (seen v l before) (cons_option o (seen v l is)))
      from None e =
          ap₂ (λ os xs. os ++ joined (entries (low_entry m v l) xs (seen v l is))) (low_entry_unseen l before i at_l (All-head InputOk i is ok) e) (append-nil (seen v l before))
      from (Some x) e =
          ap (λ os. os ++ joined (entries (low_entry m v l) (seen v l before ++ x ∷ []) (seen v l is))) (low_entry_seen l before i x at_l all (All-head InputOk i is ok) e)

  -- the view is a function of what the level sees
  pub view_is : (l : ℕ) (is : List I) → l < v.count → All InputOk is → view v l (text_out v (multi m v is)) ≡ text_of v (joined (entries (low_entry m v l) [] (seen v l is)))
  unfolding view text_out
  view_is l is at_l ok =
      pick-text_of v (names_below v l) (joined (multi m v is)) (all_have_lines law is ok)
      ∙ ap (text_of v) (filter_agree_all (λ o. names_below v l (v.name (v.level_out o))) (λ o. v.leq (v.level_out o) l) (joined (multi m v is))
      (All-weaker OutputOk (λ o. names_below v l (v.name (v.level_out o)) ≡ v.leq (v.level_out o) l) (λ o good. name_below law (v.level_out o) l (law.level_ok o good)) (joined (multi m v is)) (multi_ok law is ok))
      ∙ low-multi m v l is ∙ low_entries_seen l [] is at_l (All-nil InputOk) ok)
