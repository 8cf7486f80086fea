use Rattle.std.proofs.Common.{inl, inr, Err, refl, sym, ap}
use Rattle.ff_run.specs.Rules.{AreBadRules}
use Rattle.ff_run.proofs.RulesFaults.{no_fault, no_rules, one_fault}
use Rattle.ff_run.proofs.rules.RulesFileNamed.read.Goals as goal

pub returns-in-Ok-clause-exact : goal.returns-in-Ok-clause-exact
returns-in-Ok-clause-exact g c =
    rw (sym c.lattice-lattice.ensures.value) (λ status bad. absurd (no_fault c.lattice-lattice.result.now c.args.bytes.now c.read.result c.read.ensures.exact c.in-Ok.rules c.in-Ok.is status bad))

pub returns-in-Err-Fault : goal.returns-in-Err-Fault
returns-in-Err-Fault g c =
    let is = rw c.in-Err-Fault.field-0-is at c.in-Err-Fault.is in
    rw (sym c.lattice-lattice.ensures.value) (record {
      found = tt;
      bad = inr (AreBadRules.faulty c.in-Err-Fault.fault (c.in-Err-Fault.ensures.fault c.in-Err-Fault.fault c.in-Err-Fault.field-0-is));
      only = λ rules reads. absurd (no_rules c.lattice-lattice.result.now c.args.bytes.now c.read.result c.read.ensures.exact c.in-Err-Fault.fault is c.read.ensures.only rules reads);
      exact = λ status bad. inl (ap (λ s. Err s) (one_fault c.lattice-lattice.result.now c.args.bytes.now c.read.result c.read.ensures.exact c.in-Err-Fault.fault is status bad));
      copied = refl;
      uncopied = λ uncopied. refl;
    })
