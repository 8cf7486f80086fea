-- What the text of a released run tells.
use Rattle.std.proofs.Common.{◌≡◌, ℕ, ◌<◌, ◌≤◌, true, Option, Some, None, List, [], ◌∷◌, ◌++◌, length, map, filter, All, refl, sym, ap, ap₂, subst, ◌∙◌, ◌⊎◌, inl, inr, arith}
use Rattle.std.proofs.lemmas.Bool.{cases_lt}
use Rattle.std.proofs.lemmas.Option.{none-some}
use Rattle.std.proofs.lemmas.List.{get_or_past, get_or_default}
use Rattle.std.proofs.lemmas.List.Elements.{All-head, All-tail}
use Rattle.ff_confinement.specs.Runs.{entries, joined}
use Rattle.ff_confinement.specs.Text.{text_of, text_out}
use Rattle.ff_confinement.specs.Worlds.{each, offer, AreOffers, OfferOk}
use Rattle.ff_confinement.proofs.Below.{each_is}
use Rattle.ff_confinement.specs.Standings.{fresh, as_seen}
use Rattle.ff_confinement.specs.Given.{is_given, row_where, given_where}
use Rattle.ff_confinement.proofs.Standings.{run_fresh}
use Rattle.ff_confinement.proofs.Given.{same_run, secured_as_offered}
use Rattle.ff_lattice.specs.Order.{size}
use Rattle.ff_value.specs.declared.input.Input.{Input}
use Rattle.ff_policy.specs.Assignment.{Assignment, IsAssignment}
use Rattle.ff_route.specs.Route.{offers}
use Rattle.ff_trace.specs.Lines.{IsInputOf}
use Rattle.ff_session.specs.Levels.{levels, machine}
use Rattle.ff_session.proofs.Lawful.{lawful}
use Rattle.ff_route.specs.Released.{left_after, offers_after, all_offers}
use Rattle.ff_route.specs.declared.rule.Rule.{Rule}
use Rattle.ff_route.proofs.Counting.{within_quota, unused}
use Rattle.ff_rules.proofs.Fitting.{released_fit}
use Rattle.ff_release.specs.Releasing.{offered_by, release_text, IsReleased}

-- an offer of a row of well formed offers
offer_ok : {I : Type 0} (InputOk : I → Type 0) (n l : ℕ) (row : List (Option I)) (x : I) → AreOffers InputOk n row → offer row l ≡ Some x → InputOk x
offer_ok InputOk n l row x are e = from (cases_lt l (length row))
  where
    from : (l < length row) ⊎ (length row ≤ l) → InputOk x
    from (inl lt) = subst (OfferOk InputOk) e (are.ok l None lt)
    from (inr past) = absurd (none-some x (sym (get_or_past row l None past) ∙ e))

-- a row is its offers
pub row_itself : {I : Type 0} (row : List (Option I)) (n : ℕ) → length row ≡ n → each (λ k. offer row k) n ≡ row
row_itself row n long = sym (each_is (λ k. offer row k) row n long (λ k d lt. get_or_default row k d None (omega (arith, long, lt))))

-- the same for each input
entries_map : {I E : Type 0} (g : I → E) (before is : List I) → entries (λ b i. g i) before is ≡ map g is
entries_map g before [] = refl
entries_map g before (i ∷ is) = ap (λ es. g i ∷ es) (entries_map g (before ++ i ∷ []) is)

module _ (p : Assignment) (rules : List Rule) where
  fits : (before : List Input) (i : Input) → IsInputOf p.order i → AreOffers (IsInputOf p.order) (size p.order) (offers_after p rules before i)
  fits before i is = released_fit p i is (left_after p rules before)

  -- the rows of all levels are the offers
  rows_are : (before is : List Input) → All (IsInputOf p.order) is → entries (row_where (levels p) (offered_by p rules) (λ k. true)) before is ≡ entries (offers_after p rules) before is
  rows_are before [] ok = refl
  rows_are before (i ∷ is) ok =
      ap₂ (λ row rows. row ∷ rows)
      (row_itself (offers_after p rules before i) (size p.order) (fits before i (All-head (IsInputOf p.order) i is ok)).count)
      (rows_are (before ++ i ∷ []) is (All-tail (IsInputOf p.order) i is ok))

  same_given : (is : List Input) → All (IsInputOf p.order) is → all_offers p rules is ≡ map (offers p) is
      → given_where (levels p) (offered_by p rules) (λ k. true) is ≡ given_where (levels p) (as_seen (levels p)) (λ k. true) is
  unfolding all_offers
  same_given is ok seen = ap (filter is_given) (rows_are [] is ok ∙ seen ∙ sym (entries_map (offers p) [] is))

  pub is_released : (is : List Input) → IsAssignment p → All (IsInputOf p.order) is → IsReleased p rules is (release_text p rules is)
  unfolding text_out
  is_released is valid ok = record {
    secure = secured_as_offered (lawful p valid) (offered_by p rules) (fresh (machine p))
        (λ before l i x input e. offer_ok (IsInputOf p.order) (size p.order) l (offers_after p rules before i) x (fits before i input) e)
        (λ l. (lawful p valid).start_ok) is (release_text p rules is) ok refl;
    within = λ j lt. within_quota p rules j is lt;
    unreleased = λ none.
        ap (text_of (levels p))
        (same_run (machine p) (levels p) (offered_by p rules) (as_seen (levels p)) (fresh (machine p)) is (same_given is ok (unused p rules is none))
        ∙ ap joined (run_fresh (machine p) (levels p) is));
  }
