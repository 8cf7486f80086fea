use Rattle.std.proofs.Common.{inl, sym}
use Rattle.ff_trace.specs.declared.fault.LineFault.TheVariants as fault
use Rattle.ff_trace.proofs.Spelt.{domain_some, domain_none}
use Rattle.ff_trace.proofs.parts.domain_of.Goals as goal

pub returns-in-Some-clause-value : goal.returns-in-Some-clause-value
returns-in-Some-clause-value c = inl (sym (domain_some fault.Url c.args.bytes.now c.in-Some.domain c.in-Ok.answer c.in-Some.is c.in-Ok.ensures.spelled c.in-Ok.ensures.value))

pub returns-in-None-clause-value : goal.returns-in-None-clause-value
returns-in-None-clause-value c = inl (sym (domain_none fault.Url c.args.bytes.now c.in-Ok.answer c.in-None.is c.in-Ok.ensures.spelled))
