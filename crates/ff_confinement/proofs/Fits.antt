-- Where the levels fit the machine, all that is met on well formed inputs is well formed.
use Rattle.std.proofs.Common.{◌≡◌, ℕ, zero, suc, ◌<◌, ◌==◌, true, Option, Some, None, List, [], ◌∷◌, ◌++◌, flat_map, All, refl, sym, subst, arith, eqb-true}
use Rattle.std.specs.List.{cons_option}
use Rattle.std.proofs.lemmas.List.Concat.{flat_map-append}
use Rattle.std.proofs.lemmas.List.Elements.{All-nil, All-cons, All-head, All-tail, All-append, All-push, All-filter, All-weaker, filter_passes}
use Rattle.ff_confinement.specs.Runs.{Machine, entries, joined, after_from, after, handle_seen}
use Rattle.ff_confinement.specs.Copies.{Levels, seen, at_level, copy_entry, entry_below, multi_entry, multi}
use Rattle.ff_contract.specs.Lists.{below}
use Rattle.ff_confinement.specs.Laws.{IsLawful}
use Rattle.ff_confinement.proofs.Copies.{copy_entry_is}
use Rattle.ff_confinement.proofs.Text.{HasLine}

-- a fact that holds of the parts below n holds of what they make together
pub All-flat_map_below : {Y : Type 0} (P : Y → Type 0) (f : ℕ → List Y) (n : ℕ) → ((k : ℕ) → k < n → All P (f k)) → All P (flat_map f (below n))
All-flat_map_below P f zero parts = All-nil P
All-flat_map_below P f (suc n) parts =
    subst (All P) (sym (flat_map-append f (below n) (n ∷ [])))
    (All-append P (flat_map f (below n)) (f n ++ []) (All-flat_map_below P f n (λ k lt. parts k (omega arith))) (All-append P (f n) [] (parts n (omega arith)) (All-nil P)))

module _ {I O S : Type 0} {m : Machine I O S} {v : Levels I O} {InputOk : I → Type 0} {StateOk : S → Type 0} {OutputOk : O → Type 0} (law : IsLawful m v InputOk StateOk OutputOk) where
  -- what a level sees
  pub seen_ok : (l : ℕ) (is : List I) → All InputOk is → All InputOk (seen v l is)
  seen_ok l [] ok = All-nil InputOk
  seen_ok l (i ∷ is) ok = from (v.sees l i) refl (seen_ok l is (All-tail InputOk i is ok))
    where
      from : (o : Option I) → v.sees l i ≡ o → All InputOk (seen v l is) → All InputOk (cons_option o (seen v l is))
      from None e rest = rest
      from (Some x) e rest = All-cons InputOk x (seen v l is) (law.sees_ok l i x (All-head InputOk i is ok) e) rest

  -- the states that are reached
  pub after_from_ok : (s : S) (is : List I) → StateOk s → All InputOk is → StateOk (after_from m s is)
  after_from_ok s [] at ok = at
  after_from_ok s (i ∷ is) at ok = after_from_ok (m.handle s i).after is (law.handle_ok s i at (All-head InputOk i is ok)) (All-tail InputOk i is ok)

  pub after_ok : (is : List I) → All InputOk is → StateOk (after m is)
  unfolding after
  after_ok is ok = after_from_ok m.start is law.start_ok ok

  -- the outputs of a copy, and of all of them
  pub copy_entry_ok : (l : ℕ) (before : List I) (i : I) → All InputOk before → InputOk i → All OutputOk (copy_entry m v l before i)
  copy_entry_ok l before i all here =
      subst (All OutputOk) (sym (copy_entry_is m v l before i))
      (All-filter (λ o. v.level_out o == l) OutputOk (handle_seen m (after m (seen v l before)) (v.sees l i)).outputs (from (v.sees l i) refl))
    where
      from : (o : Option I) → v.sees l i ≡ o → All OutputOk (handle_seen m (after m (seen v l before)) o).outputs
      from None e = All-nil OutputOk
      from (Some x) e = law.outputs_ok (after m (seen v l before)) x (after_ok (seen v l before) (seen_ok l before all)) (law.sees_ok l i x here e)

  pub entry_below_ok : (before : List I) (i : I) (n : ℕ) → All InputOk before → InputOk i → All OutputOk (entry_below m v before i n)
  entry_below_ok before i n all here = All-flat_map_below OutputOk (λ l. copy_entry m v l before i) n (λ l lt. copy_entry_ok l before i all here)

  entries_ok : (before is : List I) → All InputOk before → All InputOk is → All OutputOk (joined (entries (multi_entry m v) before is))
  entries_ok before [] all ok = All-nil OutputOk
  entries_ok before (i ∷ is) all ok =
      All-append OutputOk (multi_entry m v before i) (joined (entries (multi_entry m v) (before ++ i ∷ []) is))
      (entry_below_ok before i v.count all (All-head InputOk i is ok))
      (entries_ok (before ++ i ∷ []) is (All-push InputOk before i all (All-head InputOk i is ok)) (All-tail InputOk i is ok))

  pub multi_ok : (is : List I) → All InputOk is → All OutputOk (joined (multi m v is))
  unfolding multi
  multi_ok is ok = entries_ok [] is (All-nil InputOk) ok

  -- so each output has a line that can be read back
  pub has_line : (o : O) → OutputOk o → HasLine v o
  has_line o ok = (law.name_ok (v.level_out o) (law.level_ok o ok), law.print_ok o ok)

  pub all_have_lines : (is : List I) → All InputOk is → All (HasLine v) (joined (multi m v is))
  all_have_lines is ok = All-weaker OutputOk (HasLine v) has_line (joined (multi m v is)) (multi_ok is ok)

-- a copy puts out at its own level alone
pub copy_entry_level : {I O S : Type 0} (m : Machine I O S) (v : Levels I O) (l : ℕ) (before : List I) (i : I) → All (λ o. v.level_out o ≡ l) (copy_entry m v l before i)
copy_entry_level m v l before i =
    let os = (handle_seen m (after m (seen v l before)) (v.sees l i)).outputs in
    subst (All (λ o. v.level_out o ≡ l)) (sym (copy_entry_is m v l before i))
    (All-weaker (λ o. (v.level_out o == l) ≡ true) (λ o. v.level_out o ≡ l) (λ o e. eqb-true (v.level_out o) l e) (at_level v l os) (filter_passes (λ o. v.level_out o == l) os))
