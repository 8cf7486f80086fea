-- A level's own lines are those of the plain machine on what the level sees.
use Rattle.std.proofs.Common.{◌≡◌, ℕ, ◌<◌, true, false, ◌==◌, Option, Some, None, List, [], ◌∷◌, ◌++◌, All, bytes_eq, refl, sym, ap, ◌∙◌}
use Rattle.std.specs.List.{cons_option}
use Rattle.std.proofs.lemmas.Bool.{eq-eqb, ne_eqb}
use Rattle.std.proofs.lemmas.List.Elements.{filter-append, All-weaker}
use Rattle.ff_confinement.specs.Runs.{Handled, Machine, entries, joined, plain_from, after, plain, handle_seen}
use Rattle.ff_confinement.specs.Copies.{Levels, seen, at_level, copy_entry, copy, multi_entry, multi}
use Rattle.ff_contract.specs.Lists.{below}
use Rattle.ff_confinement.specs.Text.{text_of, text_out, only}
use Rattle.ff_confinement.specs.Laws.{IsLawful}
use Rattle.ff_confinement.proofs.Lists.{filter-flat_map, flat_map_one_below, filter_all, filter_none, filter_agree_all}
use Rattle.ff_confinement.proofs.Copies.{copy_entry_is, copy_after_more}
use Rattle.ff_confinement.proofs.Text.{pick-text_of}
use Rattle.ff_confinement.proofs.Fits.{multi_ok, all_have_lines, copy_entry_level}
use Rattle.ff_confinement.proofs.Names.{same_name}

module _ {I O S : Type 0} (m : Machine I O S) (v : Levels I O) where
  -- of what all the copies put out for one input, a level has what its own copy put out
  pub at_level-multi_entry : (l : ℕ) (before : List I) (i : I) → l < v.count → at_level v l (multi_entry m v before i) ≡ copy_entry m v l before i
  at_level-multi_entry l before i lt =
      filter-flat_map (λ o. v.level_out o == l) (λ k. copy_entry m v k before i) (below v.count)
      ∙ flat_map_one_below (λ k. at_level v l (copy_entry m v k before i)) l v.count lt
      (λ k at_k differ. filter_none (λ o. v.level_out o == l) (copy_entry m v k before i)
      (All-weaker (λ o. v.level_out o ≡ k) (λ o. (v.level_out o == l) ≡ false) (λ o e. ne_eqb (v.level_out o) l (λ same. differ (sym e ∙ same))) (copy_entry m v k before i) (copy_entry_level m v k before i)))
      ∙ filter_all (λ o. v.level_out o == l) (copy_entry m v l before i)
      (All-weaker (λ o. v.level_out o ≡ l) (λ o. (v.level_out o == l) ≡ true) (λ o e. eq-eqb (v.level_out o) l e) (copy_entry m v l before i) (copy_entry_level m v l before i))

  at_level-entries : (l : ℕ) (before is : List I) → l < v.count → at_level v l (joined (entries (multi_entry m v) before is)) ≡ joined (entries (copy_entry m v l) before is)
  at_level-entries l before [] lt = refl
  at_level-entries l before (i ∷ is) lt =
      filter-append (λ o. v.level_out o == l) (multi_entry m v before i) (joined (entries (multi_entry m v) (before ++ i ∷ []) is))
      ∙ ap (λ os. os ++ at_level v l (joined (entries (multi_entry m v) (before ++ i ∷ []) is))) (at_level-multi_entry l before i lt)
      ∙ ap (λ os. copy_entry m v l before i ++ os) (at_level-entries l (before ++ i ∷ []) is lt)

  -- of the multi-executed run a level has the run of its own copy
  pub at_level-multi : (l : ℕ) (is : List I) → l < v.count → at_level v l (joined (multi m v is)) ≡ joined (copy m v l is)
  unfolding multi
  at_level-multi l is lt = at_level-entries l [] is lt

  copy_from : (l : ℕ) (before is : List I) → joined (entries (copy_entry m v l) before is) ≡ at_level v l (joined (plain_from m (after m (seen v l before)) (seen v l is)))
  copy_from l before [] = refl
  copy_from l before (i ∷ is) =
      ap (λ os. os ++ joined (entries (copy_entry m v l) (before ++ i ∷ []) is)) (copy_entry_is m v l before i)
      ∙ ap (λ os. at_level v l now.outputs ++ os) (copy_from l (before ++ i ∷ []) is ∙ ap (λ s. at_level v l (joined (plain_from m s (seen v l is)))) (copy_after_more m v l before i))
      ∙ from (v.sees l i)
    where
      now : Handled O S
      now = handle_seen m (after m (seen v l before)) (v.sees l i)

      from : (o : Option I) → at_level v l (handle_seen m (after m (seen v l before)) o).outputs ++ at_level v l (joined (plain_from m (handle_seen m (after m (seen v l before)) o).after (seen v l is)))
          ≡ at_level v l (joined (plain_from m (after m (seen v l before)) (cons_option o (seen v l is))))
      from None = refl
      from (Some x) =
          let s = after m (seen v l before) in
          sym (filter-append (λ o. v.level_out o == l) (m.handle s x).outputs (joined (plain_from m (m.handle s x).after (seen v l is))))

  -- the run of a copy is the plain run over what its level sees, at that level
  pub copy_is_plain : (l : ℕ) (is : List I) → joined (copy m v l is) ≡ at_level v l (joined (plain m (seen v l is)))
  unfolding plain after
  copy_is_plain l is = copy_from l [] is

module _ {I O S : Type 0} {m : Machine I O S} {v : Levels I O} {InputOk : I → Type 0} {StateOk : S → Type 0} {OutputOk : O → Type 0} (law : IsLawful m v InputOk StateOk OutputOk) where
  -- a level's own lines are the text of its copy's run
  pub only_is : (l : ℕ) (is : List I) → l < v.count → All InputOk is → only v l (text_out v (multi m v is)) ≡ text_of v (joined (copy m v l is))
  unfolding only text_out
  only_is l is lt ok =
      pick-text_of v (bytes_eq (v.name l)) (joined (multi m v is)) (all_have_lines law is ok)
      ∙ ap (text_of v) (filter_agree_all (λ o. bytes_eq (v.name l) (v.name (v.level_out o))) (λ o. v.level_out o == l) (joined (multi m v is))
      (All-weaker OutputOk (λ o. bytes_eq (v.name l) (v.name (v.level_out o)) ≡ (v.level_out o == l)) (λ o good. same_name law (v.level_out o) l (law.level_ok o good) lt) (joined (multi m v is)) (multi_ok law is ok))
      ∙ at_level-multi m v l is lt)
