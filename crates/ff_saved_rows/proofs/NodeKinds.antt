-- The kind of a node that a word names, whichever way it is looked for.
use Rattle.std.proofs.Common.{◌≡◌, ◌↔◌, ℕ, List, Option, Some, None, refl, sym, ap, ◌∙◌}
use Rattle.ff_name.specs.Words.{with_word}
use Rattle.ff_name.proofs.Words.{found_by_word}
use Rattle.ff_machine.specs.Kinds.{kind_word}
use Rattle.ff_machine.specs.declared.kinds.Kind.{Kind}
use Rattle.ff_saved_rows.specs.Words.{node_kinds, node_own}

pub node_kind_is : (answer : Option Kind) (text : List ℕ) → ((k : Kind) → (answer ≡ Some k) ↔ (kind_word k ≡ text)) → answer ≡ with_word kind_word node_kinds text
node_kind_is (Some k) text own = sym (node_own k) ∙ ap (with_word kind_word node_kinds) ((own k).0 refl)
node_kind_is None text own = from (with_word kind_word node_kinds text) refl
  where
    from : (found : Option Kind) → with_word kind_word node_kinds text ≡ found → None ≡ with_word kind_word node_kinds text
    from None e = sym e
    from (Some k) e = let bad : None ≡ Some k = (own k).1 ((found_by_word kind_word node_kinds node_own text k).0 e) in cc
