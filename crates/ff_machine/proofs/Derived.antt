-- Runs put together from what each input and each turn gives.
use Rattle.std.proofs.Common.{◌≡◌, ℕ, zero, suc, true, false, cond, List, [], ◌∷◌, ◌++◌, refl, ap, ◌∙◌}
use Rattle.ff_confinement.specs.Runs.{Machine, Handled, plain_from}
use Rattle.ff_confinement.specs.Turns.{Stepped, Reactor, settle, machine_of}

module _ {I O S : Type 0} (r : Reactor I O S) where
  -- a quiet state makes no turn
  pub rest : (most : ℕ) (s : S) → r.quiet s ≡ true → settle r most s ≡ record { outputs = []; after = s; turns = 0 }
  rest zero s quiet = refl
  rest (suc most) s quiet = ap (λ b. cond b (record { outputs = []; after = s; turns = 0 }) (record { outputs = (r.turn s).outputs ++ (settle r most (r.turn s).after).outputs; after = (settle r most (r.turn s).after).after; turns = suc (settle r most (r.turn s).after).turns })) quiet

  -- one turn of a state that isn't, and then the others
  pub turned : (most : ℕ) (s t u : S) (first others : List O) (k : ℕ) → r.quiet s ≡ false → r.turn s ≡ record { outputs = first; after = t }
      → settle r most t ≡ record { outputs = others; after = u; turns = k } → settle r (suc most) s ≡ record { outputs = first ++ others; after = u; turns = suc k }
  turned most s t u first others k busy turn later =
      ap (λ b. cond b (record { outputs = []; after = s; turns = 0 }) (record { outputs = (r.turn s).outputs ++ (settle r most (r.turn s).after).outputs; after = (settle r most (r.turn s).after).after; turns = suc (settle r most (r.turn s).after).turns })) busy
      ∙ ap (λ (step : Stepped O S). let h : Handled O S = record { outputs = step.outputs ++ (settle r most step.after).outputs; after = (settle r most step.after).after; turns = suc (settle r most step.after).turns } in h) turn
      ∙ ap (λ (h : Handled O S). let g : Handled O S = record { outputs = first ++ h.outputs; after = h.after; turns = suc h.turns } in g) later

  -- an input, and then the turns
  pub handled : (most : ℕ) (s t u : S) (i : I) (first others : List O) (k : ℕ) → r.begin s i ≡ record { outputs = first; after = t }
      → settle r most t ≡ record { outputs = others; after = u; turns = k } → (machine_of r most).handle s i ≡ record { outputs = first ++ others; after = u; turns = k }
  handled most s t u i first others k begin later =
      ap (λ (step : Stepped O S). let h : Handled O S = record { outputs = step.outputs ++ (settle r most step.after).outputs; after = (settle r most step.after).after; turns = (settle r most step.after).turns } in h) begin
      ∙ ap (λ (h : Handled O S). let g : Handled O S = record { outputs = first ++ h.outputs; after = h.after; turns = h.turns } in g) later

-- one input, and then the others
pub ran : {I O S : Type 0} (m : Machine I O S) (s t : S) (i : I) (is : List I) (first : List O) (others : List (List O)) (k : ℕ)
    → m.handle s i ≡ record { outputs = first; after = t; turns = k } → plain_from m t is ≡ others → plain_from m s (i ∷ is) ≡ first ∷ others
ran {O = O} {S = S} m s t i is first others k handle later =
    ap (λ (h : Handled O S). h.outputs ∷ plain_from m h.after is) handle ∙ ap (λ os. first ∷ os) later
