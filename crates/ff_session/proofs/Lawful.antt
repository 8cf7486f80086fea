-- The levels of every policy fit the browser with the policy's fuel.
use Rattle.std.proofs.Common.{ℕ}
use Rattle.ff_confinement.specs.Turns.{KeepsOk}
use Rattle.ff_confinement.specs.Laws.{IsLawful, IsNoninterfering}
use Rattle.ff_confinement.proofs.Laws.{noninterfering}
use Rattle.ff_confinement.proofs.Turns.{machine_handle_ok, machine_outputs_ok}
use Rattle.ff_lattice.specs.Order.{Order}
use Rattle.ff_value.specs.Spelled.{IsWellSpelledOut}
use Rattle.ff_machine.specs.Valid.{IsState}
use Rattle.ff_machine.specs.Machine.{reactor}
use Rattle.ff_pool.proofs.OneBrowser.Keeping as core
use Rattle.ff_policy.specs.Assignment.{Assignment, IsAssignment}
use Rattle.ff_route.proofs.Fits.{sees_below, level_ok, name_ok, names_differ}
use Rattle.ff_trace.proofs.Fitting.{out_one_line}
use Rattle.ff_session.proofs.Inputs.{seen_input}
use Rattle.ff_session.specs.Levels.{levels, machine}
use Rattle.ff_trace.specs.Lines.{IsInputOf}

keeps : (order : Order) (fuel : ℕ) → KeepsOk (reactor fuel) (IsInputOf order) (IsState fuel) IsWellSpelledOut
keeps order fuel =
    let kept = core.keeps fuel in
    record {
      start_ok = kept.start_ok;
      begin_ok = λ s i ok input. kept.begin_ok s i ok input.spelled;
      begin_outputs = λ s i ok input. kept.begin_outputs s i ok input.spelled;
      turn_ok = kept.turn_ok;
      turn_outputs = kept.turn_outputs;
    }

pub lawful : (p : Assignment) → IsAssignment p → IsLawful (machine p) (levels p) (IsInputOf p.order) (IsState p.fuel) IsWellSpelledOut
lawful p valid = record {
  start_ok = (keeps p.order p.fuel).start_ok;
  handle_ok = λ s i ok input. machine_handle_ok (keeps p.order p.fuel) _ s i ok input;
  outputs_ok = λ s i ok input. machine_outputs_ok (keeps p.order p.fuel) _ s i ok input;
  sees_ok = λ l i x input seen. seen_input p l i x input seen;
  sees_below = λ k l i k_is l_is input ordered. sees_below p k l i valid ordered;
  level_ok = λ o is. level_ok p o valid;
  print_ok = λ o is. out_one_line o is;
  name_ok = λ l within. name_ok p l valid within;
  names_differ = λ k l k_is l_is same. names_differ p k l valid k_is l_is same;
}

-- lists of inputs that look the same to a level give it the same view
pub multi_is_noninterfering : (p : Assignment) → IsAssignment p → IsNoninterfering (machine p) (levels p) (IsInputOf p.order)
multi_is_noninterfering p valid = noninterfering (lawful p valid)
