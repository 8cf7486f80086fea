use Rattle.std.proofs.Common.{inl, inr, Err, ap}
use Rattle.ff_run.specs.States.{IsBadState}
use Rattle.ff_run.proofs.StateFaults.{no_fault, no_pool, one_fault}
use Rattle.ff_run.proofs.states.StateFileNamed.read.Goals as goal

pub returns-in-Ok-clause-exact : goal.returns-in-Ok-clause-exact
returns-in-Ok-clause-exact g c = λ status bad. absurd (no_fault c.args.self.now.policy.now c.args.bytes.now c.read_saved.result c.read_saved.ensures.exact c.in-Ok.pool c.in-Ok.is status bad)

pub returns-in-Err-Fault : goal.returns-in-Err-Fault
returns-in-Err-Fault g c =
    let is = rw c.in-Err-Fault.field-0-is at c.in-Err-Fault.is in
    record {
      found = tt;
      bad = inr (IsBadState.faulty c.in-Err-Fault.fault (c.in-Err-Fault.ensures.fault c.in-Err-Fault.fault c.in-Err-Fault.field-0-is));
      only = λ pool saved. absurd (no_pool c.args.self.now.policy.now c.args.bytes.now c.read_saved.result c.read_saved.ensures.exact c.in-Err-Fault.fault is c.read_saved.ensures.only pool saved);
      exact = λ status bad. inl (ap (λ s. Err s) (one_fault c.args.self.now.policy.now c.args.bytes.now c.read_saved.result c.read_saved.ensures.exact c.in-Err-Fault.fault is status bad));
      copied = c.read_saved.ensures.later;
      uncopied = λ none. absurd none;
    }
