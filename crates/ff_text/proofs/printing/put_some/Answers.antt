use Rattle.std.proofs.Common.{◌∙◌, ◌++◌, ap, sym, take}
use Rattle.ff_text.proofs.Appending.{plain_spelled}
use Rattle.ff_text.proofs.printing.put_some.Goals as goal

pub returns-clause-put : goal.returns-clause-put
returns-clause-put c = c.in_ok-put_all.ensures ∙ ap (λ bs. c.args.out.now.items ++ bs) (sym (plain_spelled (take c.plain_front-n.result c.args.left.now) c.plain_front-n.ensures.plain))
