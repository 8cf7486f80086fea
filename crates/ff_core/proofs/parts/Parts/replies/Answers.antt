use Rattle.std.proofs.Common.{subst, sym}
use Rattle.ff_machine.specs.State.{State}
use Rattle.ff_machine.specs.Valid.{IsStores}
use Rattle.ff_core.proofs.Answered.{taken_valid}
use Rattle.ff_core.proofs.parts.Parts.replies.Goals as goal

pub receive-requires-clause-uri : goal.receive-requires-clause-uri
receive-requires-clause-uri g c =
    let valid = subst (λ (t : State). IsStores t.stores) (sym c.self.view_is) c.requires.stores in
    let taken = rw c.in-Some.is at c.in_ok-pending.ensures.done in
    (taken_valid c.self.inside.stores c.take_answer.new.self c.args.domain.now c.args.k c.in-Some.pending valid taken).is.uri

pub receive-requires-clause-to : goal.receive-requires-clause-to
receive-requires-clause-to g c =
    let valid = subst (λ (t : State). IsStores t.stores) (sym c.self.view_is) c.requires.stores in
    let taken = rw c.in-Some.is at c.in_ok-pending.ensures.done in
    (taken_valid c.self.inside.stores c.take_answer.new.self c.args.domain.now c.args.k c.in-Some.pending valid taken).is.dst

pub receive-requires-clause-refers : goal.receive-requires-clause-refers
receive-requires-clause-refers g c =
    let valid = subst (λ (t : State). IsStores t.stores) (sym c.self.view_is) c.requires.stores in
    let taken = rw c.in-Some.is at c.in_ok-pending.ensures.done in
    (taken_valid c.self.inside.stores c.take_answer.new.self c.args.domain.now c.args.k c.in-Some.pending valid taken).refers
