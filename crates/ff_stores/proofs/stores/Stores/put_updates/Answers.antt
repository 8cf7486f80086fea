use Rattle.std.proofs.Common.{◌≡◌, None, Some, slice_get, subst}
use Rattle.ff_machine.specs.Stores as stores
use Rattle.ff_stores.proofs.Updating.{updating_more, updating_all}
use Rattle.ff_stores.proofs.stores.Stores.put_updates.Goals as goal

pub loop-at-preserved : goal.loop-at-preserved
loop-at-preserved c =
    let is : slice_get c.self.inside.windows.opened c.loop-at.at ≡ Some c.in-Some.window = cc (c.at.ensures, c.in-Some.is) in
    let there = subst (λ (t : stores.Stores). slice_get t.windows.opened c.loop-at.at ≡ Some c.in-Some.window) c.self.view_is is in
    updating_more c.args.self.now c.args.outs.now.items c.loop-at.at c.loop-at.outs.items c.loop-at.invariant c.in-Some.window c.put_update.new.outs.items there c.in_ok-put_update.ensures.done

pub returns : goal.returns
returns c =
    let is : slice_get c.self.inside.windows.opened c.loop-at.at ≡ None = cc (c.at.ensures, c.in_default.is) in
    let none = subst (λ (t : stores.Stores). slice_get t.windows.opened c.loop-at.at ≡ None) c.self.view_is is in
    updating_all c.args.self.now c.args.outs.now.items c.loop-at.at c.loop-at.outs.items c.loop-at.invariant none
