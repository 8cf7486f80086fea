-- New copies are those of a pool at rest, and stand where the multi-executed run begins.
use Rattle.std.proofs.Common.{◌≡◌, List, [], refl, ap, ◌∙◌}
use Rattle.ff_lattice.specs.Order.{size}
use Rattle.ff_policy.specs.Assignment.{Assignment}
use Rattle.ff_pool.specs.Restored.{IsResting}
use Rattle.ff_confinement.specs.Standings.{StandAlike, fresh}
use Rattle.ff_confinement.specs.Text.{text_out}
use Rattle.ff_confinement.proofs.Alike.{run_alike, work_alike}
use Rattle.ff_confinement.proofs.Standings.{run_fresh, state_start, work_fresh}
use Rattle.ff_session.specs.Levels.{levels, machine}
use Rattle.ff_session.specs.Multi.{AreCopiesAt, multi_text, multi_turns, run_text, run_turns, seen_by}
use Rattle.ff_session.proofs.Feeding.{fresh_copies}
use Rattle.ff_value.specs.Same.{same_input}
use Rattle.ff_value.specs.declared.input.Input.{Input}
use Rattle.ff_resume.specs.Resumed.{new_copies, stand_of}
use Rattle.ff_resume.proofs.Resting.{rests_again, stands_there}

module _ (p : Assignment) where
  at_start : AreCopiesAt p (seen_by p) (fresh (machine p)) (new_copies p) []
  at_start = fresh_copies p (seen_by p) (new_copies p) (size p.order) p.fuel refl refl refl

  pub new_rests : IsResting (size p.order) p.fuel (new_copies p)
  new_rests = rests_again p (new_copies p) (fresh (machine p)) [] at_start

  new_stands : StandAlike (size p.order) (stand_of (new_copies p)) (fresh (machine p))
  new_stands =
      let there = stands_there p (new_copies p) (fresh (machine p)) [] at_start in
      record {
        states = λ l inside. there.states l inside ∙ state_start (machine p) (levels p) (seen_by p) (fresh (machine p)) l;
        classes = there.classes;
      }

  pub new_text : (is : List Input) → run_text p (seen_by p) (stand_of (new_copies p)) is ≡ multi_text p is
  new_text is = ap (text_out (levels p)) (run_alike (machine p) (levels p) (seen_by p) (stand_of (new_copies p)) (fresh (machine p)) new_stands is ∙ run_fresh (machine p) (levels p) is)

  pub new_turns : (is : List Input) → run_turns p (seen_by p) (stand_of (new_copies p)) is ≡ multi_turns p is
  new_turns is = work_alike (machine p) (levels p) (seen_by p) (stand_of (new_copies p)) (fresh (machine p)) new_stands same_input is ∙ work_fresh (machine p) (levels p) same_input is
