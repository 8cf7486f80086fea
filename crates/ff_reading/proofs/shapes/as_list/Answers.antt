use Rattle.std.proofs.Common.{sym, subst}
use Rattle.ff_forms.specs.declared.fault.SyntaxFault.TheVariants as fault
use Rattle.ff_reading.specs.Shapes.{IsNoList, a_word_for_a_list, a_string_for_a_list}
use Rattle.ff_reading.proofs.shapes.as_list.Goals as goal

pub returns-in-Word-clause-other : goal.returns-in-Word-clause-other
returns-in-Word-clause-other c = subst (λ i. IsNoList i (fault.Place c.in-Word.at.from)) (sym c.in-Word.is) (a_word_for_a_list c.in-Word.at c.in-Word.field-1)

pub returns-in-Str-clause-other : goal.returns-in-Str-clause-other
returns-in-Str-clause-other c = subst (λ i. IsNoList i (fault.Place c.in-Str.at.from)) (sym c.in-Str.is) (a_string_for_a_list c.in-Str.at c.in-Str.field-1)
