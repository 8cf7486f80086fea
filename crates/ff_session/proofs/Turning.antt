-- A browser takes an input and makes one turn after another until it is quiet.
use Rattle.std.proofs.Common.{◌≡◌, ℕ, suc, ◌+◌, ◌-◌, ◌<◌, ◌≤◌, true, false, List, [], ◌∷◌, ◌++◌, sym, ap, subst, ◌∙◌, arith}
use Rattle.ff_confinement.specs.Turns.{settle, turns_left, IsSettling}
use Rattle.ff_confinement.proofs.Runs.{after_more, after_start}
use Rattle.ff_confinement.proofs.Turns.{settle_turn, settle_enough, settling_start, settling_turn, settling_room, handling_done, turns_left_falls}
use Rattle.ff_value.specs.declared.input.Input.{Input}
use Rattle.ff_value.specs.declared.output.Out.{Out}
use Rattle.ff_machine.specs.State.{State, empty}
use Rattle.ff_machine.specs.Valid.{IsState}
use Rattle.ff_machine.specs.Machine.{reactor, browser}
use Rattle.ff_machine.specs.Inputs.{begin}
use Rattle.ff_machine.specs.Turns.{turn}
use Rattle.ff_pool.proofs.OneBrowser.Keeping.{keeps, fuelled}
use Rattle.ff_policy.specs.Assignment.{Assignment}
use Rattle.ff_session.specs.Levels.{machine}
use Rattle.ff_session.specs.Handling.{IsReady, handled}
use Rattle.ff_session.specs.Plain.{IsPlainAt}

-- Where the loop over the turns of an input stands that the state s took: `turns` were counted from
-- `before` on.
pub record IsHandling (s : State) (i : Input) (before : ℕ) (now : State) (outs : List Out) (turns : ℕ) : Type 0 where
  pub made : ℕ
  pub counted : turns ≡ before + made
  pub valid : IsState s.budget now
  pub ends : (settle (reactor s.budget) (s.budget + 1) (begin s i).after).after.quiet ≡ true
  pub settling : IsSettling (reactor s.budget) (s.budget + 1) (begin s i).after (begin s i).outputs now outs made

-- the input was taken
pub handling_start : (s : State) (i : Input) (before : ℕ) (now : State) (outs : List Out) → now ≡ (begin s i).after → outs ≡ (begin s i).outputs → IsState s.budget now
    → IsHandling s i before now outs before
handling_start s i before now outs now_is outs_is valid =
    let begun = begin s i in
    let at : IsSettling (reactor s.budget) (s.budget + 1) begun.after begun.outputs begun.after begun.outputs 0 = settling_start (reactor s.budget) (s.budget + 1) begun.after begun.outputs in
    record {
      made = 0;
      counted = omega arith;
      valid = valid;
      ends = sym (ap (λ t. (settle (reactor s.budget) (s.budget + 1) t).after.quiet) now_is) ∙ settle_enough (keeps s.budget) (fuelled s.budget) s.budget now valid valid.within;
      settling = subst (λ t. IsSettling (reactor s.budget) (s.budget + 1) begun.after begun.outputs t outs 0) (sym now_is)
          (subst (λ os. IsSettling (reactor s.budget) (s.budget + 1) begun.after begun.outputs begun.after os 0) (sym outs_is) at);
    }

module _ (s : State) (i : Input) (before : ℕ) (now : State) (outs : List Out) (turns : ℕ) (at : IsHandling s i before now outs turns) where
  -- a turn that is due has room
  room : now.quiet ≡ false → at.made < s.budget + 1
  room busy = settling_room (reactor s.budget) (s.budget + 1) (begin s i).after (begin s i).outputs now outs at.made at.settling at.ends busy

  -- one turn more
  pub handling_turn : (next : State) (longer : List Out) (more : ℕ) → now.quiet ≡ false → next ≡ (turn now).after → longer ≡ outs ++ (turn now).outputs → more ≡ turns + 1
      → IsState s.budget next → IsHandling s i before next longer more
  handling_turn next longer more busy next_is longer_is counted valid =
      let begun = begin s i in
      let turned : IsSettling (reactor s.budget) (s.budget + 1) begun.after begun.outputs (turn now).after (outs ++ (turn now).outputs) (at.made + 1)
      = settling_turn (reactor s.budget) (s.budget + 1) begun.after begun.outputs now outs at.made at.settling busy (room busy) in
      record {
        made = at.made + 1;
        counted = let so_far : turns ≡ before + at.made = at.counted in omega arith;
        valid = valid;
        ends = at.ends;
        settling = subst (λ t. IsSettling (reactor s.budget) (s.budget + 1) begun.after begun.outputs t longer (at.made + 1)) (sym next_is)
            (subst (λ os. IsSettling (reactor s.budget) (s.budget + 1) begun.after begun.outputs (turn now).after os (at.made + 1)) (sym longer_is) turned);
      }

  -- a turn that is due is one of those that the input takes
  pub handling_within : (more : ℕ) → now.quiet ≡ false → more ≡ turns + 1 → more ≤ before + (handled s i).turns
  handling_within more busy counted =
      let left = s.budget + 1 - (at.made + 1) in
      let within = room busy in
      let fewer : s.budget + 1 - at.made ≡ suc left = omega arith in
      let one = ap (λ h. h.turns) (ap (λ n. settle (reactor s.budget) n now) fewer ∙ settle_turn (reactor s.budget) left now busy) in
      let some : 0 < (settle (reactor s.budget) (s.budget + 1 - at.made) now).turns = omega (arith, one) in
      let all : (handled s i).turns ≡ at.made + (settle (reactor s.budget) (s.budget + 1 - at.made) now).turns = at.settling.turns_so_far in
      let so_far : turns ≡ before + at.made = at.counted in
      omega arith

  -- a quiet state is the end
  pub handling_ends : now.quiet ≡ true → (outs ≡ (handled s i).outputs) × (now ≡ (handled s i).after)
  handling_ends quiet = let done = handling_done (reactor s.budget) (s.budget + 1) s i [] now outs at.made at.settling quiet in (done.0, done.1)

  -- and each turn brings it nearer
  pub handling_falls : now.quiet ≡ false → turns_left (reactor s.budget) (λ t. t.fuel) (turn now).after < turns_left (reactor s.budget) (λ t. t.fuel) now
  handling_falls busy = turns_left_falls (keeps s.budget) (fuelled s.budget) now at.valid busy

-- with the fuel of the policy this is the machine of the policy
pub handled_is : (p : Assignment) (s : State) (i : Input) → IsReady p.fuel s → handled s i ≡ (machine p).handle s i
handled_is p s i ready = ap (λ fuel. (browser fuel).handle s i) ready.budget_is

-- one browser took an input
pub plain_taken : (p : Assignment) (s now : State) (i : Input) (is : List Input) → IsPlainAt p s is → IsReady s.budget now → now ≡ (handled s i).after → IsPlainAt p now (is ++ i ∷ [])
plain_taken p s now i is at ready made = record {
  ready = record { budget_is = ready.budget_is ∙ at.ready.budget_is; quiet = ready.quiet };
  at = made ∙ ap (λ h. h.after) (handled_is p s i at.ready) ∙ ap (λ t. ((machine p).handle t i).after) at.at ∙ sym (after_more (machine p) is i);
}

-- a new browser
pub fresh_plain : (p : Assignment) (s : State) (fuel : ℕ) → fuel ≡ p.fuel → s ≡ empty fuel → IsPlainAt p s []
fresh_plain p s fuel same fresh =
    let started : s ≡ empty p.fuel = fresh ∙ ap empty same in
    record {
      ready = record { budget_is = ap (λ t. t.budget) started; quiet = ap (λ t. t.quiet) started };
      at = started ∙ sym (after_start (machine p));
    }
