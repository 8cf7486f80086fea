-- The laws of a multi-executed run, for every machine and all levels that fit it.
use Rattle.std.proofs.Common.{◌≡◌, ℕ, ◌<◌, List, [], All, sym, ap, ◌∙◌}
use Rattle.ff_confinement.specs.Runs.{Machine, entries, joined, plain}
use Rattle.ff_confinement.specs.Copies.{Levels, seen, at_level, multi}
use Rattle.ff_confinement.specs.Text.{text_of, text_out, view, only}
use Rattle.ff_confinement.specs.Laws.{IsLawful, IsProjection, IsSecure, IsPrecise, IsNoninterfering}
use Rattle.ff_confinement.proofs.Own.{only_is, copy_is_plain}
use Rattle.ff_confinement.proofs.View.{low_entry, view_is}

module _ {I O S : Type 0} {m : Machine I O S} {v : Levels I O} {InputOk : I → Type 0} {StateOk : S → Type 0} {OutputOk : O → Type 0} (law : IsLawful m v InputOk StateOk OutputOk) where
  -- each level's own lines are those of the plain machine's outputs at that level, on the inputs
  -- that it sees
  pub projection : (l : ℕ) (is : List I) → l < v.count → All InputOk is → only v l (text_out v (multi m v is)) ≡ text_of v (at_level v l (joined (plain m (seen v l is))))
  projection l is lt ok = only_is law l is lt ok ∙ ap (text_of v) (copy_is_plain m v l is)

  -- inputs that look the same to a level give it the same view
  pub noninterference : (l : ℕ) (is js : List I) → l < v.count → All InputOk is → All InputOk js → seen v l js ≡ seen v l is
      → view v l (text_out v (multi m v is)) ≡ view v l (text_out v (multi m v js))
  noninterference l is js lt ok ok' alike = view_is law l is lt ok ∙ ap (λ xs. text_of v (joined (low xs))) (sym alike) ∙ sym (view_is law l js lt ok')
    where
      low : List I → List (List O)
      low xs = entries (low_entry m v l) [] xs

  -- where the plain machine's outputs at a level don't depend on what the level doesn't see, its
  -- own lines are the plain ones
  pub precision : (l : ℕ) (is : List I) → l < v.count → All InputOk is
      → at_level v l (joined (plain m is)) ≡ at_level v l (joined (plain m (seen v l is)))
      → only v l (text_out v (multi m v is)) ≡ text_of v (at_level v l (joined (plain m is)))
  precision l is lt ok ignores = projection l is lt ok ∙ ap (text_of v) (sym ignores)

  -- the same of a text that is known to be that of the multi-executed run
  pub projected : (is : List I) (text : List ℕ) → All InputOk is → text ≡ text_out v (multi m v is) → IsProjection m v is text
  projected is text ok e l lt = ap (only v l) e ∙ projection l is lt ok

  pub secured : (is : List I) (text : List ℕ) → All InputOk is → text ≡ text_out v (multi m v is) → IsSecure m v InputOk is text
  secured is text ok e l js lt ok' alike = ap (view v l) e ∙ noninterference l is js lt ok ok' alike

  pub precised : (is : List I) (text : List ℕ) → All InputOk is → text ≡ text_out v (multi m v is) → IsPrecise m v is text
  precised is text ok e l lt ignores = ap (only v l) e ∙ precision l is lt ok ignores

  -- and over all pairs of lists of inputs
  pub noninterfering : IsNoninterfering m v InputOk
  noninterfering l is js lt ok ok' alike = noninterference l is js lt ok ok' alike
