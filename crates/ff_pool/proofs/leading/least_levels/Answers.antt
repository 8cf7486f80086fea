use Rattle.std.proofs.Common.{◌≡◌, ◌∙◌, ◌+◌, ◌∷◌, [], refl, ap, get_or, length, arith, inl, inr}
use Rattle.std.proofs.lemmas.Bool.{cases_lt}
use Rattle.std.proofs.lemmas.List.{same_lists, length_push, get_or_push, get_or_append_left, get_or_default}
use Rattle.ff_confinement.specs.Worlds.{leader}
use Rattle.ff_pool.proofs.Leaders.{led_some, led_least}
use Rattle.ff_pool.proofs.leading.least_levels.Goals as goal

pub returns-in-None : goal.returns-in-None
returns-in-None c = λ leaders are. led_some c.requires are c.loop-l.l c.loop-l-test.true (c.in-None.ensures.none refl)

pub loop-l-preserved : goal.loop-l-preserved
loop-l-preserved c =
    let found = c.loop-l.leaders.items in
    let l = c.loop-l.l in
    record {
      count = ap length c.in_ok-push-in-Some.ensures.items ∙ length_push found c.from.result ∙ ap (λ k. k + 1) c.loop-l.invariant.count;
      only = λ leaders are j d less. ap (λ xs. get_or xs j d) c.in_ok-push-in-Some.ensures.items ∙ elim (cases_lt j l) [
        | inl before ↦ get_or_append_left found (c.from.result ∷ []) d j (omega (arith, before, c.loop-l.invariant.count)) ∙ c.loop-l.invariant.only leaders are j d before
        | inr past ↦
            let e : l ≡ j = omega (arith, less, past) in
            get_or_push found c.from.result d j (c.loop-l.invariant.count ∙ e) ∙ c.from.ensures
            ∙ led_least c.requires are l c.in-Some.least.0 c.loop-l-test.true c.in-Some.ensures.found ∙ ap (leader leaders) e
      ];
    }

pub returns : goal.returns
returns c = (
  ap length c.from_vec.ensures ∙ c.loop-l.invariant.count ∙ omega arith,
  λ leaders are. c.from_vec.ensures ∙ same_lists c.loop-l.leaders.items leaders (c.loop-l.invariant.count ∙ omega (arith, are.levels)) (λ k d less. c.loop-l.invariant.only leaders are k d (omega (arith, less, c.loop-l.invariant.count)) ∙ get_or_default leaders k 0 d (omega (arith, less, c.loop-l.invariant.count, are.levels))),
)
