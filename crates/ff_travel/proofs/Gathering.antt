-- The outputs of one level after another are taken from a pool, and go behind those beside it.
use Rattle.std.proofs.Common.{◌≡◌, ℕ, ◌+◌, ◌<◌, Bool, true, false, cond, ◌==◌, List, [], ◌++◌, length, set, refl, sym, ap, subst, ◌∙◌, append_assoc, arith, length-set, get_or-set_same, get_or-set_other}
use Rattle.std.proofs.lemmas.Bool.{eqb-true, eqb-false}
use Rattle.ff_machine.specs.Machine.{reactor}
use Rattle.ff_pool.specs.Pooled as pooled
use Rattle.ff_pool.specs.Pooled.{Pooled, taken, copy_of}
use Rattle.ff_confinement.specs.Worlds.{emptied}
use Rattle.ff_confinement.proofs.Worlds.{copy-take, leaders-take}
use Rattle.ff_contract.specs.Lists.{Begins}
use Rattle.ff_travel.specs.Beside.{under}
use Rattle.ff_pool.specs.Heads.{outputs_at}
use Rattle.ff_travel.proofs.Beside.{behind-take}
use Rattle.ff_value.specs.declared.output.Out.{Out}

-- Where the loop over the levels stands: the outputs of those below l were taken.
pub record IsGathering (before : Pooled) (puts_before : List (List Out)) (now : Pooled) (puts_now : List (List Out)) (l : ℕ) : Type 0 where
  pub same : under puts_now now ≡ under puts_before before
  pub taken : (k : ℕ) → k < l → k < pooled.size now → (copy_of now k).outputs ≡ []
  pub fuel : now.fuel ≡ before.fuel
  pub unspent : now.spent ≡ before.spent
  pub levels : pooled.size now ≡ pooled.size before
  pub count : length puts_now ≡ length puts_before
  pub more : (k : ℕ) → k < length puts_before → Begins (outputs_at puts_now k) (outputs_at puts_before k)

module _ (before : Pooled) (puts_before : List (List Out)) (now next : Pooled) (puts_now puts_next : List (List Out)) (l : ℕ) (outs : List Out)
    (at : IsGathering before puts_before now puts_now l) (in_it : l < pooled.size now) (counts : length puts_before ≡ pooled.size before)
    (made : next ≡ taken now l) (took : outs ≡ (copy_of now l).outputs) (laid : puts_next ≡ set puts_now l (outputs_at puts_now l ++ outs)) where
  in_puts : l < length puts_now
  in_puts = let e = at.levels in let f = at.count in omega (arith, e, f, counts, in_it)

  laid_is : puts_next ≡ set puts_now l (outputs_at puts_now l ++ (copy_of now l).outputs)
  laid_is = laid ∙ ap (λ os. set puts_now l (outputs_at puts_now l ++ os)) took

  levels_are : pooled.size next ≡ pooled.size now
  levels_are = ap pooled.size made ∙ ap length (leaders-take (reactor now.fuel) now.world l)

  empty_at : (k : ℕ) (b : Bool) → (k == l) ≡ b → k < l + 1 → k < pooled.size now → (cond b (emptied (reactor now.fuel) (copy_of now k)) (copy_of now k)).outputs ≡ []
  empty_at k true e lt below = refl
  empty_at k false e lt below = let other = eqb-false k l e in at.taken k (omega (arith, other, lt)) below

  more_at : (k : ℕ) (b : Bool) → (k == l) ≡ b → Begins (outputs_at puts_now k) (outputs_at puts_before k) → Begins (outputs_at (set puts_now l (outputs_at puts_now l ++ outs)) k) (outputs_at puts_before k)
  more_at k true e begins =
      let same = eqb-true k l e in
      let longer : outputs_at (set puts_now l (outputs_at puts_now l ++ outs)) k ≡ outputs_at puts_now k ++ outs =
      ap (λ j. outputs_at (set puts_now l (outputs_at puts_now l ++ outs)) j) same ∙ get_or-set_same puts_now l (outputs_at puts_now l ++ outs) [] in_puts ∙ ap (λ j. outputs_at puts_now j ++ outs) (sym same) in
      (begins.0 ++ outs, longer ∙ ap (λ os. os ++ outs) begins.1 ∙ append_assoc (outputs_at puts_before k) begins.0 outs)
  more_at k false e begins = (begins.0, get_or-set_other puts_now l k (outputs_at puts_now l ++ outs) [] (eqb-false k l e) ∙ begins.1)

  -- one level more
  pub gather_step : IsGathering before puts_before next puts_next (l + 1)
  gather_step = record {
    same = ap (under puts_next) made ∙ behind-take now.fuel puts_now puts_next now.world l in_puts laid_is ∙ at.same;
    taken = λ k lt below.
        let in_now : k < pooled.size now = let e = levels_are in omega (arith, e, below) in
        ap (λ q. (copy_of q k).outputs) made ∙ ap (λ c. c.outputs) (copy-take (reactor now.fuel) now.world l k in_now) ∙ empty_at k (k == l) refl lt in_now;
    fuel = ap (λ q. q.fuel) made ∙ at.fuel;
    unspent = ap (λ q. q.spent) made ∙ at.unspent;
    levels = levels_are ∙ at.levels;
    count = ap length laid ∙ length-set puts_now l (outputs_at puts_now l ++ outs) ∙ at.count;
    more = λ k lt. subst (λ ps. Begins (outputs_at ps k) (outputs_at puts_before k)) (sym laid) (more_at k (k == l) refl (at.more k lt));
  }
