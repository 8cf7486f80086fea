use Rattle.std.proofs.Common.{inl, inr, Err, ap, refl}
use Rattle.ff_run.specs.Policies.{IsBadPolicy}
use Rattle.ff_run.proofs.PolicyFaults.{no_fault, no_policy, one_fault}
use Rattle.ff_run.proofs.policies.PolicyFileNamed.read.Goals as goal

pub returns-in-Ok-clause-exact : goal.returns-in-Ok-clause-exact
returns-in-Ok-clause-exact g c = λ status bad. absurd (no_fault c.args.bytes.now c.read.result c.in-Ok.policy c.in-Ok.is c.read.ensures.exact status bad)

pub returns-in_default : goal.returns-in_default
returns-in_default g c = record {
  found = tt;
  bad = inr (IsBadPolicy.faulty c.in-Err.fault (c.in-Err.ensures.fault c.in_default.not-NoMemory));
  only = λ policy reads. absurd (no_policy c.args.bytes.now c.read.result c.in-Err.fault c.in-Err.is c.in_default.not-NoMemory c.read.ensures.only policy reads);
  exact = λ status bad. inl (ap (λ s. Err s) (one_fault c.args.bytes.now c.read.result c.in-Err.fault c.in-Err.is c.in_default.not-NoMemory c.read.ensures.exact status bad));
  copied = refl;
  uncopied = λ uncopied. refl;
}
