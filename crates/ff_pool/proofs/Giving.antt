-- Outputs are put behind those of each level of a class, level by level.
use Rattle.std.proofs.Common.{◌≡◌, ℕ, suc, ◌<◌, ◌≤◌, Bool, true, false, cond, ◌==◌, List, [], ◌∷◌, ◌++◌, length, refl, sym, append-nil, ◌∙◌, arith}
use Rattle.std.proofs.lemmas.Bool.{eqb-true}
use Rattle.std.proofs.lemmas.List.{get_or_default}
use Rattle.ff_value.specs.declared.output.Out.{Out}
use Rattle.ff_confinement.specs.Worlds.{leader}
use Rattle.ff_confinement.proofs.Below.{each_is}
use Rattle.ff_pool.specs.Heads.{outputs_at, given}

-- the levels below k have got the outputs, where they are of the class
pub record IsGiving (first : List (List Out)) (leaders : List ℕ) (top : ℕ) (outs : List Out) (puts : List (List Out)) (k : ℕ) : Type 0 where
  pub count : length puts ≡ length leaders
  pub done : (j : ℕ) → j < k → outputs_at puts j ≡ cond (leader leaders j == top) (outputs_at first j ++ outs) (outputs_at first j)
  pub waiting : (j : ℕ) → k ≤ j → outputs_at puts j ≡ outputs_at first j

module _ {first : List (List Out)} {leaders : List ℕ} {top : ℕ} {outs : List Out} where
  pub giving_done : (puts : List (List Out)) (k : ℕ) → IsGiving first leaders top outs puts k → k ≡ length leaders → puts ≡ given first leaders top outs
  unfolding given
  giving_done puts k at all =
      each_is (λ j. cond (leader leaders j == top) (outputs_at first j ++ outs) (outputs_at first j)) puts (length leaders) at.count
      (λ j d lt. let e = at.count in get_or_default puts j d [] (omega (arith, e)) ∙ at.done j (omega arith))

-- no outputs change nothing
pub giving_none : (puts : List (List Out)) (leaders : List ℕ) (top : ℕ) (outs : List Out) → length puts ≡ length leaders → (length outs == 0) ≡ true → puts ≡ given puts leaders top outs
unfolding given
giving_none puts leaders top (out ∷ outs) count none = absurd (let no : suc (length outs) ≡ 0 = eqb-true (suc (length outs)) 0 none in omega (arith, no))
giving_none puts leaders top [] count none =
    each_is (λ j. cond (leader leaders j == top) (outputs_at puts j ++ []) (outputs_at puts j)) puts (length leaders) count
    (λ j d lt. get_or_default puts j d [] (omega (arith, count, lt)) ∙ sym (either (leader leaders j == top) j))
  where
    either : (b : Bool) (j : ℕ) → cond b (outputs_at puts j ++ []) (outputs_at puts j) ≡ outputs_at puts j
    either true j = append-nil (outputs_at puts j)
    either false j = refl
