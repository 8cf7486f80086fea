use Rattle.std.proofs.Common.{◌++◌, ◌∷◌, [], take, sym, ap, ◌∙◌}
use Rattle.std.proofs.lemmas.List.{take_more}
use Rattle.std.proofs.lemmas.Option.{get_or_from_slice_get, slice_get_within}
use Rattle.ff_machine.specs.declared.records.Entry.{Entry}
use Rattle.ff_windows.proofs.queue.Queue.record.Goals as goal

pub loop-i-preserved : goal.loop-i-preserved
loop-i-preserved c =
    let queue = c.args.self.now in
    let x = c.at.result.now in
    c.in_ok-push.ensures.items
    ∙ ap (λ es. es ++ c.in_ok-copy.field-0 ∷ []) c.loop-i.invariant
    ∙ ap (λ (e : Entry). take c.loop-i.i queue ++ e ∷ []) (c.in_ok-copy.ensures ∙ sym (get_or_from_slice_get queue c.loop-i.i x x c.at.ensures))
    ∙ sym (take_more queue c.loop-i.i x (slice_get_within queue c.loop-i.i x c.at.ensures))
