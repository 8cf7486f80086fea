use Rattle.ff_cow.proofs.Shared.{some_kid_room, below, valid, within_kid, reads}
use Rattle.std.proofs.Common.{◌∙◌}
use Rattle.ff_cow.proofs.branch.BranchLayer.at.Goals as goal

pub nonzero_div-i : goal.nonzero_div-i
nonzero_div-i g c = some_kid_room _ _ _ _ c.args.self.now.kids.items c.requires.valid c.args.room c.args.i c.requires.room c.requires.within

pub index-requires : goal.index-requires
index-requires g c =
    let inside = below _ _ _ _ c.args.self.now.kids.items c.requires.valid c.args.room c.args.i c.requires.room c.requires.within in
    rw c.args.self.now.kids.ok.0 inside

pub nonzero_rem-i : goal.nonzero_rem-i
nonzero_rem-i g c = some_kid_room _ _ _ _ c.args.self.now.kids.items c.requires.valid c.args.room c.args.i c.requires.room c.requires.within

pub at-requires-clause-valid : goal.at-requires-clause-valid
at-requires-clause-valid g c =
    rw c.deref.ensures (valid _ _ _ _ c.args.self.now.kids.items c.requires.valid c.args.room c.args.i c.requires.room c.requires.within c.index.result.now c.index.ensures)

pub at-requires-clause-within : goal.at-requires-clause-within
at-requires-clause-within g c =
    rw c.deref.ensures (within_kid _ _ _ _ c.args.self.now.kids.items c.requires.valid c.args.room c.args.i c.requires.room c.requires.within c.index.result.now c.index.ensures)

pub returns : goal.returns
returns g c =
    reads _ _ _ _ c.args.self.now.kids.items c.requires.valid c.args.room c.args.i c.requires.room c.requires.within c.index.result.now c.index.ensures ∙ (rw c.deref.ensures at c.at.ensures)
