use Rattle.std.proofs.Common.{Some, ap, sym, ◌∙◌}
use Rattle.ff_pool.proofs.Waiting.{first_older}
use Rattle.ff_pool.proofs.inbox.Inbox.take_first.Goals as goal

pub returns-then-self-len-clause-taken : goal.returns-then-self-len-clause-taken
returns-then-self-len-clause-taken c =
    sym c.self.view_is ∙ first_older c.self.inside.older c.self.inside.newer.items c.self.inside.taken c.in_ok-input-in-Some.input
    (sym c.in-Some.ensures ∙ ap (λ x. Some x) (sym (c.in_ok-input-in-Some.ensures ∙ c.input.ensures)))
