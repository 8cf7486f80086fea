-- What a level sees, what its copy puts out, and the run of all copies, as one more input comes.
use Rattle.std.proofs.Common.{◌≡◌, ℕ, suc, ◌+◌, Option, Some, None, List, [], ◌∷◌, ◌++◌, refl, ap, ◌∙◌, append-nil, add-one}
use Rattle.std.specs.List.{cons_option}
use Rattle.std.proofs.lemmas.List.Concat.{flat_map-append}
use Rattle.std.proofs.lemmas.List.Elements.{filter_map-append}
use Rattle.ff_confinement.specs.Runs.{Machine, entries, last_entry, after, plain, handle_seen}
use Rattle.ff_confinement.specs.Copies.{Levels, if_some, seen, at_level, copy_entry, entry_below, multi_entry, multi}
use Rattle.ff_contract.specs.Lists.{below}
use Rattle.ff_confinement.proofs.Lists.{last_or_push, entries-append, filter_map_push}
use Rattle.ff_confinement.proofs.Runs.{after_more, plain_more}

module _ {I O : Type 0} (v : Levels I O) where
  -- what a level sees of more inputs
  pub seen-append : (l : ℕ) (is js : List I) → seen v l (is ++ js) ≡ seen v l is ++ seen v l js
  seen-append l is js = filter_map-append (v.sees l) is js

  pub seen_more : (l : ℕ) (is : List I) (i : I) → seen v l (is ++ i ∷ []) ≡ seen v l is ++ cons_option (v.sees l i) []
  seen_more l is i = filter_map_push (v.sees l) is i

module _ {I O S : Type 0} (m : Machine I O S) (v : Levels I O) where
  -- a copy puts out, at its level, what its state makes of what it sees of the input
  pub copy_entry_is : (l : ℕ) (before : List I) (i : I) → copy_entry m v l before i ≡ at_level v l (handle_seen m (after m (seen v l before)) (v.sees l i)).outputs
  unfolding copy_entry
  copy_entry_is l before i =
      ap (λ xs. if_some (v.sees l i) (at_level v l (last_entry (plain m xs)))) (seen_more v l before i) ∙ from (v.sees l i) (seen v l before)
    where
      from : (o : Option I) (xs : List I) → if_some o (at_level v l (last_entry (plain m (xs ++ cons_option o [])))) ≡ at_level v l (handle_seen m (after m xs) o).outputs
      from None xs = refl
      from (Some x) xs = ap (at_level v l) (ap last_entry (plain_more m xs x) ∙ last_or_push [] (plain m xs) (m.handle (after m xs) x).outputs)

  -- the state of a copy after one more input
  pub copy_after_more : (l : ℕ) (before : List I) (i : I) → after m (seen v l (before ++ i ∷ [])) ≡ (handle_seen m (after m (seen v l before)) (v.sees l i)).after
  copy_after_more l before i = ap (after m) (seen_more v l before i) ∙ from (v.sees l i) (seen v l before)
    where
      from : (o : Option I) (xs : List I) → after m (xs ++ cons_option o []) ≡ (handle_seen m (after m xs) o).after
      from None xs = ap (after m) (append-nil xs)
      from (Some x) xs = after_more m xs x

  -- what the levels below the next one put out
  pub entry_below_start : (before : List I) (i : I) → entry_below m v before i 0 ≡ []
  entry_below_start before i = refl

  pub entry_below_more_suc : (before : List I) (i : I) (l : ℕ) → entry_below m v before i (suc l) ≡ entry_below m v before i l ++ copy_entry m v l before i
  entry_below_more_suc before i l =
      flat_map-append (λ k. copy_entry m v k before i) (below l) (l ∷ []) ∙ ap (λ os. entry_below m v before i l ++ os) (append-nil (copy_entry m v l before i))

  pub entry_below_more : (before : List I) (i : I) (l : ℕ) → entry_below m v before i (l + 1) ≡ entry_below m v before i l ++ copy_entry m v l before i
  entry_below_more before i l =
      ap (λ n. entry_below m v before i n) (add-one l) ∙ entry_below_more_suc before i l

  -- the multi-executed run over no input, over one more, and over more
  pub multi_start : multi m v [] ≡ []
  unfolding multi
  multi_start = refl

  pub multi_more : (is : List I) (i : I) → multi m v (is ++ i ∷ []) ≡ multi m v is ++ multi_entry m v is i ∷ []
  unfolding multi
  multi_more is i = entries-append (multi_entry m v) [] is (i ∷ [])

  pub multi-append : (is js : List I) → multi m v (is ++ js) ≡ multi m v is ++ entries (multi_entry m v) is js
  unfolding multi
  multi-append is js = entries-append (multi_entry m v) [] is js
