-- The text and the turns of a released run are those of one input after another.
use Rattle.std.proofs.Common.{◌≡◌, List, ap, ◌∙◌}
use Rattle.ff_confinement.specs.Text.{text_out}
use Rattle.ff_confinement.proofs.Text.{text_out_none, text_out_push}
use Rattle.ff_confinement.specs.Standings.{fresh, run, puts_all}
use Rattle.ff_confinement.proofs.Standings.{run_start, run_more, work_of_start, work_of_more}
use Rattle.ff_value.specs.Same.{same_input}
use Rattle.ff_value.specs.declared.input.Input.{Input}
use Rattle.ff_policy.specs.Assignment.{Assignment}
use Rattle.ff_session.specs.Levels.{levels, machine}
use Rattle.ff_stream.specs.Owed as owed
use Rattle.ff_stream.proofs.Owing.{text_by_steps, turns_by_steps}
use Rattle.ff_route.specs.declared.rule.Rule.{Rule}
use Rattle.ff_release.specs.Releasing.{offered_by, release_text, release_turns, release_entry, entry_turns}

pub same_text : (p : Assignment) (rules : List Rule) (is : List Input) → owed.text_of (release_entry p rules) is ≡ release_text p rules is
same_text p rules is = text_by_steps (release_entry p rules) (release_text p rules)
    (ap (text_out (levels p)) (run_start (machine p) (levels p) (offered_by p rules) (fresh (machine p))) ∙ text_out_none (levels p))
    (λ js i. ap (text_out (levels p)) (run_more (machine p) (levels p) (offered_by p rules) (fresh (machine p)) js i)
    ∙ text_out_push (levels p) (run (machine p) (levels p) (offered_by p rules) (fresh (machine p)) js) (puts_all (machine p) (levels p) (offered_by p rules) (fresh (machine p)) js i)) is

pub same_turns : (p : Assignment) (rules : List Rule) (is : List Input) → owed.turns_of (entry_turns p rules) is ≡ release_turns p rules is
same_turns p rules is = turns_by_steps (entry_turns p rules) (release_turns p rules)
    (work_of_start (machine p) (levels p) (offered_by p rules) (fresh (machine p)) same_input)
    (work_of_more (machine p) (levels p) (offered_by p rules) (fresh (machine p)) same_input) is
