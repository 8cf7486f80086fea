-- The pool that is read from what a run was saved as goes on as that run.
use Rattle.std.proofs.Common.{◌≡◌, List, ◌++◌, sym, ap, subst, ◌∙◌}
use Rattle.ff_lattice.specs.Order.{size}
use Rattle.ff_machine.specs.State.{State}
use Rattle.ff_policy.specs.Assignment.{Assignment, IsAssignment}
use Rattle.ff_pool.specs.Pooled.{Pooled}
use Rattle.ff_confinement.specs.Standings.{Standing, StandAlike, run}
use Rattle.ff_confinement.specs.Text.{text_out}
use Rattle.ff_confinement.proofs.Alike.{run_alike, work_alike, standing_alike}
use Rattle.ff_confinement.proofs.Standings.{run_rest}
use Rattle.ff_confinement.proofs.Text.{text_out-append}
use Rattle.ff_save.specs.Saved.{saved_text}
use Rattle.ff_save.proofs.Verdicts.{one_saved}
use Rattle.ff_session.specs.Levels.{levels, machine}
use Rattle.ff_session.specs.Multi.{seen_by, run_text, run_turns, stands_after}
use Rattle.ff_value.specs.Same.{same_input}
use Rattle.ff_value.specs.declared.input.Input.{Input}
use Rattle.ff_resume.specs.Resumed.{EndsAtRest, WasSaved, stand_of, standing_text}
use Rattle.ff_resume.proofs.Ending.{ends_at_rest}
use Rattle.ff_resume.proofs.Stood.{parts_stand, pool_stands, text_agrees}

-- the text over some inputs and then others is that over the first ones and then that over the rest
pub parts_text : (p : Assignment) (from : Standing State) (is js : List Input) → run_text p (seen_by p) from (is ++ js) ≡ run_text p (seen_by p) from is ++ run_text p (seen_by p) (stands_after p from is) js
parts_text p from is js =
    ap (text_out (levels p)) (run_rest (machine p) (levels p) (seen_by p) from same_input is js)
    ∙ text_out-append (levels p) (run (machine p) (levels p) (seen_by p) from is) (run (machine p) (levels p) (seen_by p) (stands_after p from is) js)

-- the copies are saved in the end as after the whole run
pub parts_saved : (p : Assignment) (from : Standing State) (is js : List Input) → standing_text p (stands_after p (stands_after p from is) js) ≡ standing_text p (stands_after p from (is ++ js))
parts_saved p from is js = text_agrees p (stands_after p (stands_after p from is) js) (stands_after p from (is ++ js)) (parts_stand p from is js)

module _ (p : Assignment) (from : Pooled) (is : List Input) (read : Pooled) (valid : IsAssignment p) (was : WasSaved p from is read) where
  end : EndsAtRest p from is
  end = ends_at_rest p from is was.rests was.inputs

  -- the pool whose copies stand there is the one that was read
  same_pool : read ≡ end.there
  same_pool =
      one_saved p (standing_text p (stands_after p (stand_of from) is)) read end.there valid was.saved end.rests
      (sym (text_agrees p (stand_of end.there) (stands_after p (stand_of from) is) end.stands) ∙ ap (saved_text p) (pool_stands end.there end.rests))

  -- so its copies stand where the inputs have brought them
  stands : StandAlike (size p.order) (stand_of read) (stands_after p (stand_of from) is)
  stands = subst (λ pool. StandAlike (size p.order) (stand_of pool) (stands_after p (stand_of from) is)) (sym same_pool) end.stands

  module _ (js : List Input) where
    pub goes_on_text : run_text p (seen_by p) (stand_of from) (is ++ js) ≡ run_text p (seen_by p) (stand_of from) is ++ run_text p (seen_by p) (stand_of read) js
    goes_on_text =
        parts_text p (stand_of from) is js
        ∙ ap (λ rest. run_text p (seen_by p) (stand_of from) is ++ text_out (levels p) rest) (sym (run_alike (machine p) (levels p) (seen_by p) (stand_of read) (stands_after p (stand_of from) is) stands js))

    pub goes_on_turns : run_turns p (seen_by p) (stand_of read) js ≡ run_turns p (seen_by p) (stands_after p (stand_of from) is) js
    goes_on_turns = work_alike (machine p) (levels p) (seen_by p) (stand_of read) (stands_after p (stand_of from) is) stands same_input js

    pub goes_on_saved : standing_text p (stands_after p (stand_of read) js) ≡ standing_text p (stands_after p (stand_of from) (is ++ js))
    goes_on_saved =
        text_agrees p (stands_after p (stand_of read) js) (stands_after p (stands_after p (stand_of from) is) js)
        (standing_alike (machine p) (levels p) (seen_by p) (stand_of read) (stands_after p (stand_of from) is) stands same_input js)
        ∙ parts_saved p (stand_of from) is js
