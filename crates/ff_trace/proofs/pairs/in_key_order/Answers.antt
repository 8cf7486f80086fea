use Rattle.std.proofs.Common.{◌≡◌, ◌∙◌, rules, List, IfOk, Result, Ok, Err, subst}
use Rattle.std.specs.List.Sorted.{IsStableBy}
use Rattle.std.proofs.lemmas.List.Sorted.{answers_always}
use Rattle.ff_value.specs.declared.output.Pair.{Pair}
use Rattle.ff_trace.specs.Printed.{key_below, in_key_order}
use Rattle.ff_trace.proofs.Sorting.{key_order, ordered_by_sort}
use Rattle.ff_trace.proofs.pairs.in_key_order.Goals as goal

same_after : {E : Type 0} (answer : Result (List Pair) E) (a b : List Pair) → IfOk answer (λ it. it ≡ a) → a ≡ b → IfOk answer (λ it. it ≡ b)
same_after (Ok it) a b is e = is ∙ e
same_after (Err refused) a b is e = tt

pub returns : goal.returns
returns c =
    let rises = c.in_ok-sort_by.ensures.sorted key_below key_order (answers_always _ _ _ (λ f a r g h. search rules)) in
    let stable = c.sort_by.ensures.stable key_below key_order (answers_always _ _ _ (λ f a r g h. search rules)) in
    same_after c.from_vec.result c.sort_by.new.self.items (in_key_order c.args.pairs.now) c.from_vec.ensures
    (ordered_by_sort c.args.pairs.now c.sort_by.new.self.items rises (subst (λ (pairs : List Pair). IsStableBy key_below pairs c.sort_by.new.self.items) c.in_ok-ordered.ensures stable))
