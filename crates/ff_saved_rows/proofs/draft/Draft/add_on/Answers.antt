use Rattle.std.proofs.Common.{Some, ap}
use Rattle.ff_saved_rows.specs.Drafted.{so_far}
use Rattle.ff_saved_rows.specs.Drafting.{and_then, with_nodes}
use Rattle.ff_saved_rows.proofs.Adding.{node_changed}
use Rattle.ff_saved_rows.proofs.Gathering.{on_more}
use Rattle.ff_saved_rows.proofs.draft.Draft.add_on.Goals as goal

pub returns-in_ok-push-in-Some-2 : goal.returns-in_ok-push-in-Some-2
returns-in_ok-push-in-Some-2 c =
    let node = c.in-Some.node in
    ap (λ o. and_then o (λ nodes. Some (with_nodes (so_far c.args.self.now) nodes)))
    (node_changed (on_more c.args.code) c.args.self.now.nodes.items c.pop.new.self.items c.push-in-Some.new.self.items node (record { shape = node.shape; on = c.push.new.self; kids = node.kids }) c.in-Some.ensures.items
    (ap (λ cs. record { shape = node.shape; on = cs; kids = node.kids }) c.in_ok-push-in-Some.ensures.items)
    c.in_ok-push-in-Some-2.ensures.items)
