use Rattle.std.proofs.Common.{inl, sym, ◌∙◌, List, subst}
use Rattle.ff_text.specs.declared.items.Sexp.{Sexp}
use Rattle.ff_trace.specs.Lines.{Gives, input_in, silent}
use Rattle.ff_trace.proofs.Once.{found_items, found_fault, first_of}
use Rattle.ff_trace.proofs.reading.first_read.Goals as goal

pub returns-then-is_silent-clause-found : goal.returns-then-is_silent-clause-found
returns-then-is_silent-clause-found c = inl (silent (sym c.is_silent.ensures ∙ c.if-is_silent.true))

pub returns-in-Ok-clause-found : goal.returns-in-Ok-clause-found
returns-in-Ok-clause-found c =
    found_items c.args.lattice.now c.args.line.now c.in-Ok.items c.read_tagged-read.result (sym c.is_silent.ensures ∙ c.if-is_silent.false) c.in-Ok.ensures.found
    (subst (λ (items : List Sexp). Gives c.read_tagged-read.result (input_in c.args.lattice.now items)) c.as_slice.ensures c.read_tagged-read.ensures.value)

pub returns-in_default-clause-found : goal.returns-in_default-clause-found
returns-in_default-clause-found c =
    found_fault c.args.lattice.now c.args.line.now c.in-Err.fault (sym c.is_silent.ensures ∙ c.if-is_silent.false) (first_of c.args.line.now c.in-Err.fault c.in_default.not-NoMemory c.in-Err.ensures.fault)
