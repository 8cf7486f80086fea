use Rattle.std.proofs.Common.{◌∷◌, ◌++◌, [], List, ℕ, sym, ap, ◌∙◌, subst}
use Rattle.ff_policy.specs.Members.{Named}
use Rattle.ff_policy.proofs.Sorted.{named_rising}
use Rattle.ff_policy.proofs.Arrays.{Entry, Gathers, named_shape, named_stop, named_step, named_done}
use Rattle.ff_policy.proofs.shapes.named_of.Goals as goal

pub returns-in-None-as_str-clause-found : goal.returns-in-None-as_str-clause-found
returns-in-None-as_str-clause-found c =
    let e : Entry = (c.in-Some.key.now, c.in-Some.value.now) in
    sym (named_stop c.args.members.now.entries c.loop-key.named.items c.loop-key.key-iterator c.next.new.self e c.loop-key.invariant c.in-Some.ensures.steps (sym c.in-None-as_str.ensures))

pub loop-key-preserved : goal.loop-key-preserved
loop-key-preserved c =
    let e : Entry = (c.in-Some.key.now, c.in-Some.value.now) in
    subst (λ (named : List Named). Gathers named_shape c.args.members.now.entries named c.next.new.self)
    (ap (λ (level : List ℕ). c.loop-key.named.items ++ record { key = c.in_ok-of_str-in-Some-as_str.field-0; level = level } ∷ []) (sym c.in_ok-of_str-in-Some-as_str-2.ensures) ∙ sym c.in_ok-push-in-Some-as_str.ensures.items)
    (named_step c.args.members.now.entries c.loop-key.named.items c.loop-key.key-iterator c.next.new.self e c.in_ok-of_str-in-Some-as_str.field-0 c.in-Some-as_str.level.now
    c.loop-key.invariant c.in-Some.ensures.steps (sym c.in-Some-as_str.ensures) (c.in_ok-of_str-in-Some-as_str.ensures ∙ c.as_str-in-Some-as_str.ensures.value))

pub returns-clause-found : goal.returns-clause-found
returns-clause-found c = sym (named_done c.args.members.now.entries c.loop-key.named.items c.loop-key.key-iterator c.loop-key.invariant c.in-None.ensures.steps.0)

pub returns-clause-rising : goal.returns-clause-rising
returns-clause-rising c =
    named_rising c.args.members.now.entries c.loop-key.named.items c.iter-key-items.ensures.ordered
    (named_done c.args.members.now.entries c.loop-key.named.items c.loop-key.key-iterator c.loop-key.invariant c.in-None.ensures.steps.0)
