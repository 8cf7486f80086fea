-- Rules and copies go on together.
use Rattle.std.proofs.Common.{◌≡◌, Bool, true, false, cond, Option, Some, None, List, [], ◌∷◌, ◌++◌, All, sym, ap, subst, ◌∙◌}
use Rattle.std.proofs.lemmas.List.Elements.{All-cons, All-head, All-tail}
use Rattle.ff_confinement.specs.Worlds.{AreOffers, OfferOk}
use Rattle.ff_confinement.specs.Standings.{fresh}
use Rattle.ff_lattice.specs.Order.{size}
use Rattle.ff_value.specs.declared.input.Input.{Input}
use Rattle.ff_value.specs.Spelled.{IsWellSpelledInput}
use Rattle.ff_policy.specs.Assignment.{Assignment}
use Rattle.ff_trace.specs.Lines.{IsInputOf}
use Rattle.ff_pool.specs.Pooled.{Pooled}
use Rattle.ff_session.specs.Levels.{machine}
use Rattle.ff_route.specs.Offering.{IsRuleOf, is_of_use, one_less, released, left_then}
use Rattle.ff_route.specs.Released.{left_after, offers_after}
use Rattle.ff_route.specs.declared.rule.Rule.{Rule}
use Rattle.ff_route.proofs.Counting.{left_more}
use Rattle.ff_rules.proofs.Fitting.{released_fit}
use Rattle.ff_session.specs.Multi.{AreCopiesAt, IsOffered}
use Rattle.ff_release.specs.Releasing.{offered_by, IsReleasedAt}
use Rattle.ff_release.proofs.Released.{row_itself}

module _ (p : Assignment) where
  -- rules keep their levels
  fit_then : (i : Input) (rules : List Rule) → All (IsRuleOf p.order) rules → All (IsRuleOf p.order) (left_then p i rules)
  unfolding left_then
  fit_then i [] fit = fit
  fit_then i (rule ∷ rules) fit = from (is_of_use p i rule) (fit_then i rules (All-tail (IsRuleOf p.order) rule rules fit))
    where
      from : (b : Bool) → All (IsRuleOf p.order) (left_then p i rules) → All (IsRuleOf p.order) (cond b (one_less rule ∷ rules) (rule ∷ left_then p i rules))
      from true rest = All-cons (IsRuleOf p.order) (one_less rule) rules (All-head (IsRuleOf p.order) rule rules fit) (All-tail (IsRuleOf p.order) rule rules fit)
      from false rest = All-cons (IsRuleOf p.order) rule (left_then p i rules) (All-head (IsRuleOf p.order) rule rules fit) rest

  fit_after : (rules : List Rule) (is : List Input) → All (IsRuleOf p.order) rules → All (IsRuleOf p.order) (left_after p rules is)
  unfolding left_after
  fit_after rules [] fit = fit
  fit_after rules (i ∷ is) fit = fit_after (left_then p i rules) is (fit_then i rules fit)

  pub left_fit : (rules : List Rule) (pool : Pooled) (left : List Rule) (is : List Input) → IsReleasedAt p rules pool left is → All (IsRuleOf p.order) left
  left_fit rules pool left is at = subst (All (IsRuleOf p.order)) (sym at.left_is) (fit_after rules is at.fit)

  -- what is offered is well spelled
  spelled_offer : (o : Option Input) → OfferOk (IsInputOf p.order) o → OfferOk IsWellSpelledInput o
  spelled_offer None ok = tt
  spelled_offer (Some x) ok = ok.spelled

  pub offers_fit : (left : List Rule) (i : Input) (row : List (Option Input)) → IsInputOf p.order i → row ≡ released p left i → AreOffers IsWellSpelledInput (size p.order) row
  offers_fit left i row input is = subst (AreOffers IsWellSpelledInput (size p.order)) (sym is)
      (let are = released_fit p i input left in record { count = are.count; ok = λ k d lt. spelled_offer _ (are.ok k d lt) })

  -- it is what the rules that are left offer
  pub offered_so : (rules : List Rule) (pool : Pooled) (left : List Rule) (is : List Input) (i : Input) (row : List (Option Input)) → IsReleasedAt p rules pool left is → IsInputOf p.order i → row ≡ released p left i
      → IsOffered p (offered_by p rules) is i row
  offered_so rules pool left is i row at input row_is =
      let same = row_is ∙ ap (λ rs. released p rs i) at.left_is in
      same ∙ sym (row_itself (offers_after p rules is i) (size p.order) (released_fit p i input (left_after p rules is)).count)

  pub goes_on : (rules : List Rule) (pool next : Pooled) (left less : List Rule) (is : List Input) (i : Input) → IsReleasedAt p rules pool left is → less ≡ left_then p i left
      → AreCopiesAt p (offered_by p rules) (fresh (machine p)) next (is ++ i ∷ []) → IsReleasedAt p rules next less (is ++ i ∷ [])
  goes_on rules pool next left less is i at less_is copies = record {
    fit = at.fit;
    copies = copies;
    left_is = less_is ∙ ap (left_then p i) at.left_is ∙ sym (left_more p rules is i);
  }
