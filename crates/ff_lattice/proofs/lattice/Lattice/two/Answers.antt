use Rattle.std.proofs.Common.{◌≡◌, [], ◌∷◌, ◌∙◌}
use Rattle.ff_lattice.proofs.Two.{kept_from_fields, order_from_fields, low_set, high_set, both_set}
use Rattle.ff_lattice.proofs.lattice.Lattice.two.Goals as goal

pub invariant_of-result : goal.invariant_of-result
invariant_of-result c =
    let low : c.with-low.result ≡ 0 ∷ [] = c.with-low.ensures ∙ low_set c.empty.result c.empty.ensures in
    let high : c.with-high.result ≡ 1 ∷ [] = c.with-high.ensures ∙ high_set c.empty-2.result c.empty-2.ensures in
    let both : c.with-both.result ≡ 0 ∷ 1 ∷ [] = c.with-both.ensures ∙ both_set c.with-low.result low in
    kept_from_fields _ _ _ c.in_ok-names.ensures
    (c.in_ok-vec.ensures.items ∙ (λ i. both i ∷ high i ∷ []))
    (c.in_ok-vec-2.ensures.items ∙ (λ i. low i ∷ both i ∷ []))

pub returns : goal.returns
returns c =
    let low : c.with-low.result ≡ 0 ∷ [] = c.with-low.ensures ∙ low_set c.empty.result c.empty.ensures in
    let high : c.with-high.result ≡ 1 ∷ [] = c.with-high.ensures ∙ high_set c.empty-2.result c.empty-2.ensures in
    let both : c.with-both.result ≡ 0 ∷ 1 ∷ [] = c.with-both.ensures ∙ both_set c.with-low.result low in
    order_from_fields _ _ c.in_ok-names.ensures (c.in_ok-vec.ensures.items ∙ (λ i. both i ∷ high i ∷ []))
