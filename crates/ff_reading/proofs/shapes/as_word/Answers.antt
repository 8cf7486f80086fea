use Rattle.std.proofs.Common.{sym, subst}
use Rattle.ff_forms.specs.declared.fault.SyntaxFault.TheVariants as fault
use Rattle.ff_reading.specs.Shapes.{IsNoWord, a_string_for_a_word, a_list_for_a_word}
use Rattle.ff_reading.proofs.shapes.as_word.Goals as goal

pub returns-in-Str-clause-other : goal.returns-in-Str-clause-other
returns-in-Str-clause-other c = subst (λ i. IsNoWord i (fault.Place c.in-Str.at.from)) (sym c.in-Str.is) (a_string_for_a_word c.in-Str.at c.in-Str.field-1)

pub returns-in-List-clause-other : goal.returns-in-List-clause-other
returns-in-List-clause-other c = subst (λ i. IsNoWord i (fault.Place c.in-List.at.from)) (sym c.in-List.is) (a_list_for_a_word c.in-List.at c.in-List.field-1)
