use Rattle.std.proofs.Common.{◌∷◌, ◌++◌, ◌+◌, [], List, ℕ, drop, sym, ap, ◌∙◌, subst, arith}
use Rattle.ff_policy.proofs.Arrays.{Gathers, text_shape, texts_stop, texts_step, texts_done}
use Rattle.ff_policy.proofs.shapes.texts_of.Goals as goal

pub returns-in-None : goal.returns-in-None
returns-in-None c = sym (texts_stop c.args.items.now c.loop-item.texts.items c.loop-item.item-index c.item-item.result c.loop-item.invariant (omega arith) c.item-item.is (sym c.in-None.ensures))

pub loop-item-preserved : goal.loop-item-preserved
loop-item-preserved c =
    subst (λ (texts : List (List ℕ)). Gathers text_shape c.args.items.now texts (drop (c.loop-item.item-index + 1) c.args.items.now))
    (ap (λ (text : List ℕ). c.loop-item.texts.items ++ text ∷ []) (sym c.in_ok-of_str-in-Some.ensures) ∙ sym c.in_ok-push-in-Some.ensures.items)
    (texts_step c.args.items.now c.loop-item.texts.items c.loop-item.item-index c.item-item.result c.in-Some.text.now c.loop-item.invariant (omega arith) c.item-item.is (sym c.in-Some.ensures))

pub returns : goal.returns
returns c = sym (texts_done c.args.items.now c.loop-item.texts.items c.loop-item.item-index c.loop-item.invariant (omega arith))
