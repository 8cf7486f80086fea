-- What is offered of an input fits the levels.
use Rattle.std.proofs.Common.{◌≡◌, ℕ, Bool, true, false, cond, Option, Some, None, List, [], ◌∷◌, map, refl, sym, subst, arith}
use Rattle.ff_contract.specs.Lists.{below}
use Rattle.ff_confinement.specs.Worlds.{AreOffers, OfferOk}
use Rattle.ff_confinement.proofs.Below.{length-each, get_or-each}
use Rattle.ff_lattice.specs.Order.{size, leq}
use Rattle.ff_value.specs.declared.input.Input.{Input}
use Rattle.ff_policy.specs.Assignment.{Assignment}
use Rattle.ff_route.specs.Route.{mask, sees}
use Rattle.ff_route.proofs.Fits.{sees_spelled, sees_tagged}
use Rattle.ff_route.proofs.Masks.{masked_spelled}
use Rattle.ff_trace.specs.Lines.{IsInputOf}
use Rattle.ff_route.specs.Offering.{or_mask, rule_offer, rule_offers, is_of_use, released}
use Rattle.ff_route.specs.declared.rule.Rule.{Rule}

module _ (p : Assignment) (i : Input) (is : IsInputOf p.order i) where
  seen_fits : (l : ℕ) (o : Option Input) → sees p l i ≡ o → OfferOk (IsInputOf p.order) o
  seen_fits l None e = tt
  seen_fits l (Some x) e = record { tag = sees_tagged p l i x is.tag e; spelled = sees_spelled p l i x is.spelled e }

  masked_fits : IsInputOf p.order (mask i)
  masked_fits = record { tag = is.tag; spelled = masked_spelled i is.spelled }

  offer_fits : (rule : Rule) (l : ℕ) → OfferOk (IsInputOf p.order) (rule_offer p rule i l)
  offer_fits rule l = from (leq p.order rule.level.0 l) rule.whole
    where
      masked : (o : Option Input) → sees p l i ≡ o → OfferOk (IsInputOf p.order) (or_mask o i)
      masked None e = masked_fits
      masked (Some x) e = seen_fits l (Some x) e

      from : (b whole : Bool) → OfferOk (IsInputOf p.order) (cond b (cond whole (Some i) (or_mask (sees p l i) i)) (sees p l i))
      from true true = is
      from true false = masked (sees p l i) refl
      from false whole = seen_fits l (sees p l i) refl

  each_fits : (offer : ℕ → Option Input) → ((l : ℕ) → OfferOk (IsInputOf p.order) (offer l)) → AreOffers (IsInputOf p.order) (size p.order) (map offer (below (size p.order)))
  each_fits offer fits = record {
    count = length-each offer (size p.order);
    ok = λ k d lt.
        let long = length-each offer (size p.order) in
        subst (OfferOk (IsInputOf p.order)) (sym (get_or-each offer (size p.order) k d (omega (arith, long, lt)))) (fits k);
  }

  pub released_fit : (rules : List Rule) → AreOffers (IsInputOf p.order) (size p.order) (released p rules i)
  unfolding released
  released_fit [] = each_fits (λ l. sees p l i) (λ l. seen_fits l (sees p l i) refl)
  released_fit (rule ∷ rules) = from (is_of_use p i rule) (released_fit rules)
    where
      from : (b : Bool) → AreOffers (IsInputOf p.order) (size p.order) (released p rules i) → AreOffers (IsInputOf p.order) (size p.order) (cond b (rule_offers p rule i) (released p rules i))
      from true rest = each_fits (rule_offer p rule i) (offer_fits rule)
      from false rest = rest
