-- The reduction of an `if` whose test is evaluated.
use Rattle.std.proofs.Common.{◌≡◌, List, Bool, Ok, Err, refl, sym, ap, ◌∙◌, append-nil}
use Rattle.ff_value.specs.declared.output.Out.{Out}
use Rattle.ff_value.specs.declared.value.Val.{Val}
use Rattle.ff_value.specs.declared.value.Val.TheVariants as val
use Rattle.ff_operators.specs.Answers.{Gives}
use Rattle.ff_operators.specs.declared.answer.Fail.{Fail}
use Rattle.ff_operators.specs.declared.answer.Fail.TheVariants as fail
use Rattle.ff_term.specs.Running.{Evaluation, redex, rewritten_in}
use Rattle.ff_term.specs.Rows.{branch}
use Rattle.ff_term.proofs.Laws.{rewritten_at}
use Rattle.ff_machine.specs.declared.reduced.Reduced.TheVariants as answer
use Rattle.ff_machine.specs.Stores.{Stores}
use Rattle.ff_machine.specs.Answers.{Reduces}
use Rattle.ff_machine.specs.Reduction.{by_redex, choose}
use Rattle.ff_step.specs.Answered.{answered, tested}
use Rattle.ff_step.proofs.Values.{none_put}

-- with a truth value it becomes its branch
pub chosen : (s : Stores) (t t' : Evaluation) (puts : List Out) (v : Val) (b : Bool) → Gives (tested v) (Ok b) → t' ≡ rewritten_in (branch b) t
    → Reduces {E = Unit {0}} (by_redex s t (choose s v (redex t.expr))) (Ok answer.Moved) t' s puts puts
chosen s t t' puts (val.Bool c) b is e =
    (refl, e ∙ rewritten_at (branch b) t ∙ ap (λ (b : Bool). rewritten_in (λ _. branch b (redex t.expr)) t) is, refl, sym (append-nil puts))
chosen s t t' puts val.Null b is e = absurd is
chosen s t t' puts (val.Num n) b is e = absurd is
chosen s t t' puts (val.Str text) b is e = absurd is
chosen s t t' puts (val.Win window) b is e = absurd is
chosen s t t' puts (val.Node node) b is e = absurd is
chosen s t t' puts (val.Code code) b is e = absurd is

-- with any other it fails
pub not_chosen : (s : Stores) (t : Evaluation) (puts : List Out) (v : Val) (f : Fail) → Gives (tested v) (Err f) → Reduces (by_redex s t (choose s v (redex t.expr))) (answered (Err f)) t s puts puts
not_chosen s t puts v fail.NoMemory is = none_put puts (by_redex s t (choose s v (redex t.expr))).outputs
not_chosen s t puts (val.Bool b) (fail.Fault f) is = absurd is
not_chosen s t puts val.Null (fail.Fault f) is = (ap answer.Failed is, refl, refl, sym (append-nil puts))
not_chosen s t puts (val.Num n) (fail.Fault f) is = (ap answer.Failed is, refl, refl, sym (append-nil puts))
not_chosen s t puts (val.Str text) (fail.Fault f) is = (ap answer.Failed is, refl, refl, sym (append-nil puts))
not_chosen s t puts (val.Win window) (fail.Fault f) is = (ap answer.Failed is, refl, refl, sym (append-nil puts))
not_chosen s t puts (val.Node node) (fail.Fault f) is = (ap answer.Failed is, refl, refl, sym (append-nil puts))
not_chosen s t puts (val.Code code) (fail.Fault f) is = (ap answer.Failed is, refl, refl, sym (append-nil puts))
