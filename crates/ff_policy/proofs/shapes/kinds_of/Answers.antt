use Rattle.std.proofs.Common.{List, sym, ap, ◌∙◌, subst}
use Rattle.serde_json.specs.View.{view}
use Rattle.ff_policy.specs.Members.{NamedKind, kind_shape}
use Rattle.ff_policy.proofs.Arrays.{Entry, Gathers, kind_read, kinds_stop, kinds_step, kinds_done}
use Rattle.ff_policy.proofs.shapes.kinds_of.Goals as goal

pub returns-in-None-2 : goal.returns-in-None-2
returns-in-None-2 c =
    let e : Entry = (c.in-Some.key.now, c.in-Some.value.now) in
    sym (kinds_stop c.args.version c.args.members.now.entries c.loop-key.kinds.items c.loop-key.key-iterator c.loop-key.invariant c.next.new.self e c.in-Some.ensures.steps
    (ap (λ k. kind_shape c.args.version k (view c.in-Some.value.now)) (sym c.as_str.ensures.value) ∙ sym c.in_ok-kind_shape.ensures ∙ c.in-None-2.is))

pub loop-key-preserved : goal.loop-key-preserved
loop-key-preserved c =
    let e : Entry = (c.in-Some.key.now, c.in-Some.value.now) in
    subst (λ (kinds : List NamedKind). Gathers (kind_read c.args.version) c.args.members.now.entries kinds c.next.new.self) (sym c.in_ok-push-in-Some-2.ensures.items)
    (kinds_step c.args.version c.args.members.now.entries c.loop-key.kinds.items c.loop-key.key-iterator c.loop-key.invariant c.next.new.self e c.in-Some-2.kind c.in-Some.ensures.steps
    (ap (λ k. kind_shape c.args.version k (view c.in-Some.value.now)) (sym c.as_str.ensures.value) ∙ sym c.in_ok-kind_shape.ensures ∙ c.in-Some-2.is))

pub returns : goal.returns
returns c = sym (kinds_done c.args.version c.args.members.now.entries c.loop-key.kinds.items c.loop-key.key-iterator c.loop-key.invariant c.in-None.ensures.steps.0)
