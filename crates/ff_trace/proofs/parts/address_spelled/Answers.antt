use Rattle.std.proofs.Common.{inl, sym}
use Rattle.ff_trace.specs.declared.fault.LineFault.TheVariants as fault
use Rattle.ff_trace.proofs.Spelt.{address_read, address_refused}
use Rattle.ff_trace.proofs.parts.address_spelled.Goals as goal

pub returns-in-Ok-clause-value : goal.returns-in-Ok-clause-value
returns-in-Ok-clause-value c = inl (sym (address_read fault.Url c.args.bytes.now c.in-Ok.url c.in-Ok.ensures.found))

pub returns-in_default-clause-value : goal.returns-in_default-clause-value
returns-in_default-clause-value c = inl (sym (address_refused fault.Url c.args.bytes.now c.read.result c.in-Err.fault c.in-Err.is c.in_default.not-NoMemory c.read.ensures.only))
