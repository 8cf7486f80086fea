use Rattle.std.proofs.Common.{ap, length, ◌∙◌}
use Rattle.ff_cow.proofs.Edits.{length-edited}
use Rattle.std.proofs.lemmas.Result.{on_ok_weaker, on_err_weaker}
use Rattle.ff_cow.proofs.Shared.{some_kid_room, below, valid, within_kid, edits, keeps, nodes-after, from_either}
use Rattle.ff_cow.proofs.branch.BranchWritable.edit.Goals as goal

pub nonzero_div-i : goal.nonzero_div-i
nonzero_div-i g c = some_kid_room _ _ _ _ c.args.self.now.kids.items c.requires.valid c.args.room c.args.i c.requires.room c.requires.within

pub index_mut-kid-requires : goal.index_mut-kid-requires
index_mut-kid-requires g c =
    rw c.args.self.now.kids.ok.0 (below _ _ _ _ c.args.self.now.kids.items c.requires.valid c.args.room c.args.i c.requires.room c.requires.within)

pub nonzero_rem-i : goal.nonzero_rem-i
nonzero_rem-i g c = some_kid_room _ _ _ _ c.args.self.now.kids.items c.requires.valid c.args.room c.args.i c.requires.room c.requires.within

pub edit_in-requires-clause-valid : goal.edit_in-requires-clause-valid
edit_in-requires-clause-valid g c =
    valid _ _ _ _ c.args.self.now.kids.items c.requires.valid c.args.room c.args.i c.requires.room c.requires.within c.index_mut-kid.result.now c.index_mut-kid.ensures.value

pub edit_in-requires-clause-within : goal.edit_in-requires-clause-within
edit_in-requires-clause-within g c =
    within_kid _ _ _ _ c.args.self.now.kids.items c.requires.valid c.args.room c.args.i c.requires.room c.requires.within c.index_mut-kid.result.now c.index_mut-kid.ensures.value

pub returns-clause-done : goal.returns-clause-done
returns-clause-done g c =
    on_ok_weaker c.edit_in.result (edits _ _ _ _ c.args.self.now.kids.items c.requires.valid c.args.room c.args.i c.requires.room c.requires.within c.index_mut-kid.result.now c.index_mut-kid.ensures.value c.edit_in.new.kid (g.E.Edit.edited c.args.edit)) c.edit_in.ensures.done

pub returns-clause-kept : goal.returns-clause-kept
returns-clause-kept g c =
    on_err_weaker c.edit_in.result (keeps _ _ _ _ c.args.self.now.kids.items c.requires.valid c.args.room c.args.i c.requires.room c.requires.within c.index_mut-kid.result.now c.index_mut-kid.ensures.value c.edit_in.new.kid) c.edit_in.ensures.kept

pub returns-clause-valid : goal.returns-clause-valid
returns-clause-valid g c =
    nodes-after _ _ _ _ c.args.self.now.kids.items c.requires.valid c.args.room c.args.i c.requires.room c.requires.within c.index_mut-kid.result.now c.index_mut-kid.ensures.value c.edit_in.new.kid c.edit_in.ensures.valid
    (from_either c.edit_in.result c.edit_in.ensures.done c.edit_in.ensures.kept (λ edited. ap length edited ∙ length-edited _ _ _ (within_kid _ _ _ _ c.args.self.now.kids.items c.requires.valid c.args.room c.args.i c.requires.room c.requires.within c.index_mut-kid.result.now c.index_mut-kid.ensures.value)) (λ same. ap length same))
