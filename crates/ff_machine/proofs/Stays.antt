-- Reductions that change nothing, and weights past 64 bits.
use Rattle.std.proofs.Common.{◌≡◌, ℕ, ◌+◌, ◌≤◌, Bool, true, false, Option, Some, None, Result, Ok, Err, arith, refl, sym}
use Rattle.std.proofs.lemmas.Bool.{leb-true, le-leb}
use Rattle.ff_operators.specs.Limits.{most_mass}
use Rattle.ff_tree.specs.Weight.{capped}
use Rattle.ff_value.specs.declared.fault.Fault.{Fault}
use Rattle.ff_value.specs.declared.ids.PageId.{PageId}
use Rattle.ff_value.specs.declared.value.Val.{Val}
use Rattle.ff_term.specs.Running.{Evaluation, value_of}
use Rattle.ff_machine.specs.declared.reduced.Reduced.TheVariants as answer
use Rattle.ff_machine.specs.Stores.{Stores, may_weigh}
use Rattle.ff_machine.specs.Reduction.{Moved, Red, reduction, as_reduction, StaysAt}

done_stays_as : (s : Stores) (t : Evaluation) (o : Option Val) (red : Result Moved Fault) (v : Val) → (as_reduction s t o red).answer ≡ answer.Done v → StaysAt s t (as_reduction s t o red)
done_stays_as s t (Some w) red v e = record { running_is = refl; after_is = refl; outputs_are = refl }
done_stays_as s t None (Ok moved) v e = cc
done_stays_as s t None (Err f) v e = cc

failed_stays_as : (s : Stores) (t : Evaluation) (o : Option Val) (red : Result Moved Fault) (f : Fault) → (as_reduction s t o red).answer ≡ answer.Failed f → StaysAt s t (as_reduction s t o red)
failed_stays_as s t (Some w) red f e = cc
failed_stays_as s t None (Ok moved) f e = cc
failed_stays_as s t None (Err g) f e = record { running_is = refl; after_is = refl; outputs_are = refl }

-- a value is never reduced
pub done_stays : (s : Stores) (page : PageId) (t : Evaluation) (v : Val) → (reduction s page t).answer ≡ answer.Done v → StaysAt s t (reduction s page t)
unfolding reduction
done_stays s page t v e = done_stays_as s t (value_of t.expr) (Red s page t) v e

-- a reduction that fails changes nothing
pub failed_stays : (s : Stores) (page : PageId) (t : Evaluation) (f : Fault) → (reduction s page t).answer ≡ answer.Failed f → StaysAt s t (reduction s page t)
unfolding reduction
failed_stays s page t f e = failed_stays_as s t (value_of t.expr) (Red s page t) f e

same_bool : (a b : Bool) → (a ≡ true → b ≡ true) → (b ≡ true → a ≡ true) → a ≡ b
same_bool true true p q = refl
same_bool true false p q = sym (p refl)
same_bool false true p q = q refl
same_bool false false p q = refl

capped_within : (mass weight : ℕ) → mass + capped weight ≤ most_mass → mass + weight ≤ most_mass
capped_within mass weight h = omega (arith, h)

within_capped : (mass weight : ℕ) → mass + weight ≤ most_mass → mass + capped weight ≤ most_mass
within_capped mass weight h = omega (arith, h)

-- a weight may be capped at the greatest number of 64 bits: the mass's limit is far below
pub capped_alike : (s : Stores) (weight : ℕ) → may_weigh s (capped weight) ≡ may_weigh s weight
capped_alike s weight =
    same_bool (may_weigh s (capped weight)) (may_weigh s weight)
    (λ e. le-leb _ _ (capped_within s.mass weight (leb-true _ _ e)))
    (λ e. le-leb _ _ (within_capped s.mass weight (leb-true _ _ e)))

-- and where it may be weighed, nothing was cut off
pub capped_whole : (s : Stores) (weight : ℕ) → may_weigh s weight ≡ true → capped weight ≡ weight
capped_whole s weight e = let h = leb-true _ _ e in omega (arith, h)
