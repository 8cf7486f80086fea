use Rattle.std.proofs.Common.{◌≡◌, List, ℕ, sym, ap, ◌∙◌, subst}
use Rattle.ff_lattice.specs.declared.pair.Pair.{Pair}
use Rattle.ff_lattice.specs.Levels as levels
use Rattle.ff_policy.specs.Members.{Plan}
use Rattle.ff_policy.specs.Reading.{IsLevelsFault, no_levels}
use Rattle.ff_policy.proofs.policy.lattice_of.Goals as goal

pub returns-in-Err : goal.returns-in-Err
returns-in-Err c =
    let names : c.deref.result.now ≡ c.args.plan.now.levels = c.deref.ensures.value ∙ ap (λ (p : Plan). p.levels) c.plan.view_is in
    let pairs : c.deref-2.result.now ≡ c.args.plan.now.below = c.deref-2.ensures.value ∙ ap (λ (p : Plan). p.below) c.plan.view_is in
    record {
      found = tt;
      fault = λ other.
          let is = c.of_levels.ensures other in
          subst (IsLevelsFault c.args.plan.now) (sym is.1)
          (no_levels c.in-Err.fault
          (subst (λ (ns : List (List ℕ)). levels.IsFault ns c.args.plan.now.below c.in-Err.fault) names
          (subst (λ (ps : List Pair). levels.IsFault c.deref.result.now ps c.in-Err.fault) pairs (c.in-Err.ensures.fault is.0))));
    }
