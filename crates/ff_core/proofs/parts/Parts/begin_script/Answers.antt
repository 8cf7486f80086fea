use Rattle.std.proofs.Common.{◌≡◌, List, [], ◌∷◌, ◌++◌, Some, ap, ◌∙◌}
use Rattle.ff_value.specs.declared.ids.ActId.{ActId}
use Rattle.ff_term.specs.Whole.{whole}
use Rattle.ff_machine.specs.State.{State, Task}
use Rattle.ff_machine.specs.Stores as stores
use Rattle.ff_machine.specs.Windows.{Windows, page_at}
use Rattle.ff_core.specs.Views.{state_of}
use Rattle.ff_core.proofs.Turning.{begins_at}
use Rattle.ff_core.proofs.parts.Parts.begin_script.Goals as goal

pub returns-in_ok-push_back-in-Some-clause-step : goal.returns-in_ok-push_back-in-Some-clause-step
returns-in_ok-push_back-in-Some-clause-step g c = λ puts.
    let s : State = state_of c.self.inside in
    let taken : stores.take_ready s.stores ≡ Some ((c.in-Some.page, c.in-Some.body), c.take_ready.new.self) = rw c.in-Some.is at c.in_ok-page.ensures.done in
    let act = c.act_of-act.ensures ∙ ap (λ (w : Windows). (page_at w c.in-Some.page).act) c.windows.ensures.value in
    let is = c.in_ok-task-in-Some.ensures ∙ ap (λ (a : ActId). let task : Task = record { page = c.in-Some.page; running = record { base = a; expr = whole c.in-Some.body } } in task) act in
    let none : s.tasks ≡ [] = ap (λ (t : State). t.tasks) c.self.view_is ∙ c.requires in
    let one = c.in_ok-push_back-in-Some.ensures.items ∙ ap (λ (ts : List Task). ts ++ c.in_ok-task-in-Some.task ∷ []) none in
    begins_at s c.args.self.now c.take_ready.new.self c.in-Some.page c.in-Some.body c.in_ok-task-in-Some.task c.push_back.new.self.items puts c.self.view_is taken is one
