use Rattle.std.proofs.Common.{Some, refl, ap}
use Rattle.ff_saved_rows.specs.Drafted.{so_far}
use Rattle.ff_saved_rows.specs.Drafting.{and_then, with_nodes}
use Rattle.ff_saved_rows.proofs.Adding.{node_changed}
use Rattle.ff_saved_rows.proofs.Gathering.{with_kids}
use Rattle.ff_saved_rows.proofs.draft.Draft.add_kids.Goals as goal

pub returns-in_ok-push-in-Some : goal.returns-in_ok-push-in-Some
returns-in_ok-push-in-Some c =
    let node = c.in-Some.node in
    ap (λ o. and_then o (λ nodes. Some (with_nodes (so_far c.args.self.now) nodes)))
    (node_changed (with_kids c.args.kids) c.args.self.now.nodes.items c.pop.new.self.items c.push.new.self.items node (record { shape = node.shape; on = node.on; kids = c.args.kids }) c.in-Some.ensures.items
    refl
    c.in_ok-push-in-Some.ensures.items)
