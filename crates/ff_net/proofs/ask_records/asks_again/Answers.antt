use Rattle.std.proofs.Common.{◌++◌, ◌∷◌, [], take, sym, ap, ◌∙◌}
use Rattle.std.proofs.lemmas.List.{take_more}
use Rattle.std.proofs.lemmas.Option.{get_or_from_slice_get, slice_get_within}
use Rattle.ff_machine.specs.declared.records.Pending.{Pending}
use Rattle.ff_net.proofs.ask_records.asks_again.Goals as goal

pub loop-i-preserved : goal.loop-i-preserved
loop-i-preserved c =
    let asks = c.args.asks.now in
    let x = c.at.result.now in
    c.in_ok-push.ensures.items
    ∙ ap (λ ps. ps ++ c.in_ok-copy.field-0 ∷ []) c.loop-i.invariant
    ∙ ap (λ (p : Pending). take c.loop-i.i asks ++ p ∷ []) (c.in_ok-copy.ensures ∙ c.pending.ensures ∙ sym (get_or_from_slice_get asks c.loop-i.i x x c.at.ensures))
    ∙ sym (take_more asks c.loop-i.i x (slice_get_within asks c.loop-i.i x c.at.ensures))
