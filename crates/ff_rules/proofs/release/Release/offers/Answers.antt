use Rattle.std.proofs.Common.{◌≡◌, ◌∙◌, ◌<◌, inl, inr, true, false, length, get_or, set, arith, sym, ap, subst}
use Rattle.std.proofs.lemmas.Bool.{cases_lt}
use Rattle.std.proofs.lemmas.List.{get_or_default}
use Rattle.std.proofs.lemmas.Result.{IfOk-weaker}
use Rattle.ff_route.specs.Offering.{is_of_use, rule_offers, one_less}
use Rattle.ff_route.specs.declared.rule.Rule.{Rule}
use Rattle.ff_route.proofs.Making.{offers_at, left_at, offers_none, left_none, whatever}
use Rattle.ff_rules.proofs.release.Release.offers.Goals as goal

pub returns-then-branch-clause-offers : goal.returns-then-branch-clause-offers
returns-then-branch-clause-offers c =
    let p = c.args.policy.now in
    let i = c.args.input.now in
    let rules = c.args.self.now in
    let place = c.loop-place.place in
    let rule = c.index-rule.result.now in
    let items = c.loop-place.invariant.0 in
    let long = ap length c.self.view_is in
    let within : place < length rules = omega (arith, long, c.loop-place-test.true, c.len-place-end.ensures) in
    let rule_is : rule ≡ get_or rules place rule = c.index-rule.ensures ∙ ap (λ rs. get_or rs place rule) items in
    let here : is_of_use p i (get_or rules place rule) ≡ true = ap (is_of_use p i) (sym rule_is) ∙ sym c.in_ok-is_of_use.ensures ∙ c.if-branch.true in
    c.in_ok-row.ensures ∙ ap (λ r. rule_offers p r i) rule_is ∙ offers_at p i rules place rule within (λ k less. c.loop-place.invariant.1 k rule less) here

pub returns-then-branch-clause-left : goal.returns-then-branch-clause-left
returns-then-branch-clause-left c =
    let p = c.args.policy.now in
    let i = c.args.input.now in
    let rules = c.args.self.now in
    let place = c.loop-place.place in
    let rule = c.index-rule.result.now in
    let changed = c.index_mut.result.now in
    let items = c.loop-place.invariant.0 in
    let long = ap length c.self.view_is in
    let within : place < length rules = omega (arith, long, c.loop-place-test.true, c.len-place-end.ensures) in
    let rule_is : rule ≡ get_or rules place rule = c.index-rule.ensures ∙ ap (λ rs. get_or rs place rule) items in
    let changed_is : changed ≡ get_or rules place changed = c.index_mut.ensures.value ∙ ap (λ rs. get_or rs place changed) items in
    let here : is_of_use p i (get_or rules place changed) ≡ true = ap (is_of_use p i) (get_or_default rules place changed rule within ∙ sym rule_is) ∙ sym c.in_ok-is_of_use.ensures ∙ c.if-branch.true in
    ap (λ rs. set rs place (one_less changed)) items ∙ ap (λ r. set rules place (one_less r)) changed_is ∙ left_at p i rules place changed within (λ k less. c.loop-place.invariant.1 k changed less) here

pub loop-place-preserved : goal.loop-place-preserved
loop-place-preserved c =
    let p = c.args.policy.now in
    let i = c.args.input.now in
    let rules = c.args.self.now in
    let place = c.loop-place.place in
    let rule = c.index-rule.result.now in
    let items = c.loop-place.invariant.0 in
    let long = ap length c.self.view_is in
    let within : place < length rules = omega (arith, long, c.loop-place-test.true, c.len-place-end.ensures) in
    let rule_is : rule ≡ get_or rules place rule = c.index-rule.ensures ∙ ap (λ rs. get_or rs place rule) items in
    let here : is_of_use p i rule ≡ false = sym c.in_ok-is_of_use.ensures ∙ c.if-branch.false in
    let one : (d : Rule) → is_of_use p i (get_or rules place d) ≡ false = λ d. ap (is_of_use p i) (get_or_default rules place d rule within ∙ sym rule_is) ∙ here in (
      items,
      λ k d less.
          elim (cases_lt k place) as (λ _. is_of_use p i (get_or rules k d) ≡ false) [
            | inl before ↦ c.loop-place.invariant.1 k d before
            | inr after ↦ let at : place ≡ k = omega (arith, less, after) in subst (λ n. is_of_use p i (get_or rules n d) ≡ false) at (one d)
          ],
    )

pub returns-clause-offers : goal.returns-clause-offers
returns-clause-offers c =
    let long = ap length c.self.view_is in
    IfOk-weaker c.offers.result _ _ (λ row is. is ∙ offers_none c.args.policy.now c.args.input.now c.args.self.now (λ k d less. c.loop-place.invariant.1 k d (omega (arith, less, long, c.loop-place-test.false, c.len-place-end.ensures)))) c.offers.ensures

pub returns-clause-left : goal.returns-clause-left
returns-clause-left c =
    let long = ap length c.self.view_is in
    whatever c.offers.result (c.loop-place.invariant.0 ∙ left_none c.args.policy.now c.args.input.now c.args.self.now (λ k d less. c.loop-place.invariant.1 k d (omega (arith, less, long, c.loop-place-test.false, c.len-place-end.ensures))))
