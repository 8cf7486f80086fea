use Rattle.std.proofs.Common.{rules, refl, sym, ap, subst}
use Rattle.ff_forms.specs.Grammar.{Gives, a_parameter}
use Rattle.ff_reading.proofs.Leading.{after_names}
use Rattle.ff_reading.proofs.Shaped.{word_answers, no_word_refused}
use Rattle.ff_reading.proofs.leaves.read_parameter.Goals as goal

pub returns-in_err-at : goal.returns-in_err-at
returns-in_err-at c = rw (no_word_refused c.args.part.now c.in_err-at.field-0.0 a_parameter (λ at. refl) refl refl c.in_err-at.ensures.other) (search rules)

pub returns : goal.returns
returns c =
    subst (Gives c.read_parameter_word.result) (ap (after_names c.args.before.now) (sym (word_answers c.args.part.now c.in_ok-at.at c.in_ok-at.word.now a_parameter c.in_ok-at.ensures.word)))
    c.read_parameter_word.ensures
