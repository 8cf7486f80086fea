use Rattle.std.proofs.Common.{◌∙◌, sym, ap}
use Rattle.ff_cow.proofs.Shared.{row, nodes-push}
use Rattle.ff_cow.proofs.branch.make_place.Goals as goal

pub returns-in_ok-push-clause-nodes : goal.returns-in_ok-push-clause-nodes
returns-in_ok-push-clause-nodes g c =
    rw c.in_ok-push.ensures.items (
    nodes-push _ _ _ _ c.args.kids.now.items c.requires.nodes c.args.room c.args.count c.requires.room c.requires.count c.requires.space c.in_ok-new.field-0
    (c.if-count-room.true ∙ c.len.ensures ∙ c.args.kids.now.ok.0)
    (rw (← c.in_ok-new.ensures.ok) at c.empty.ensures.valid)
    (ap g.T.Layer.cells c.in_ok-new.ensures.ok ∙ c.empty.ensures.cells))

pub returns-else-count-room-clause-last : goal.returns-else-count-room-clause-last
returns-else-count-room-clause-last g c =
    row _ _ _ _ c.args.kids.now.items c.requires.nodes c.args.room c.args.count c.requires.room c.requires.count c.requires.space
    (λ all. c.if-count-room.false (all ∙ sym (c.len.ensures ∙ c.args.kids.now.ok.0)))
