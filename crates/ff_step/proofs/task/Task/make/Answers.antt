use Rattle.std.proofs.Common.{Some, ◌≡◌, ◌<◌, sym, ◌∙◌, refl, ap, subst, length, append-nil, List, [], ◌++◌, true, rules}
use Rattle.std.proofs.lemmas.Result.{err_from_is_err_and}
use Rattle.ff_value.specs.declared.output.Out.{Out}
use Rattle.ff_term.specs.Running.{Evaluation}
use Rattle.ff_machine.specs.Stores as stores
use Rattle.ff_machine.specs.State.{Task}
use Rattle.ff_machine.specs.Windows.{is_live}
use Rattle.ff_machine.specs.Turns as turns
use Rattle.ff_machine.specs.Valid.{IsTask}
use Rattle.ff_machine.proofs.Stays.{failed_stays}
use Rattle.ff_step.proofs.Works.{base_lives, works_by, work_front, value_gone}
use Rattle.ff_step.proofs.task.Task.make.Goals.{in-Ok, in-Err-Fault+in_ok-put_error-in-Err-Fault, in-Err-NoMemory}
use Rattle.ff_step.proofs.task.Task.make.Goals as goal

pub reduce_redex-requires-clause-act : goal.reduce_redex-requires-clause-act
reduce_redex-requires-clause-act g c =
    let task : Task = record { page = c.self.inside.page; running = c.self.inside.control } in
    let is : IsTask c.args.stores.now task = subst (λ (t : Task). IsTask c.args.stores.now t) (sym c.self.view_is) c.requires in
    base_lives c.args.stores.now task c.lives.ensures.valid is

pub returns-in-Some-clause-works : goal.returns-in-Some-clause-works
returns-in-Some-clause-works g c =
    let task : Task = record { page = c.self.inside.page; running = c.self.inside.control } in
    let lives : c.lives.result ≡ true = search (rules, c.if-not-lives.false) in
    let live : is_live c.args.stores.now.windows task.page ≡ true = sym c.lives.ensures.value ∙ lives in
    rw (sym c.self.view_is) (value_gone c.args.stores.now task c.in-Some._value.now c.args.outs.now.items live c.in-Some.ensures)

pub put_error-requires : goal.put_error-requires
put_error-requires g c =
    let task : Task = record { page = c.self.inside.page; running = c.self.inside.control } in
    let is : IsTask c.args.stores.now task = subst (λ (t : Task). IsTask c.args.stores.now t) (sym c.self.view_is) c.requires in
    let h = rw (c.in-Err-Fault.is, c.in-Err-Fault.field-0-is) at c.reduce_redex.ensures.reduces in
    let stays = failed_stays c.args.stores.now task.page task.running c.in-Err-Fault.fault (sym h.0) in
    subst (λ (t : stores.Stores). task.page.0 < length t.windows.pages) (sym (h.2 ∙ stays.after_is)) is.page

pub returns-clause-works : goal.returns-clause-works
returns-clause-works g c =
    let task : Task = record { page = c.self.inside.page; running = c.self.inside.control } in
    let lives : c.lives.result ≡ true = search (rules, c.if-not-lives.false) in
    let live : is_live c.args.stores.now.windows task.page ≡ true = sym c.lives.ensures.value ∙ lives in
    elim c.match-reduce_redex.branch [
      | in-Ok w ↦
          let h = rw w.in-Ok.is at c.reduce_redex.ensures.reduces in
          rw (w.result-is, w.outs-is, sym c.self.view_is, works_by c.args.stores.now task _ live h.0)
          (ap (λ (t : Evaluation). let goes : Task = record { page = task.page; running = t } in Some goes) h.1, h.2, h.3)
      | in-Err-Fault+in_ok-put_error-in-Err-Fault w ↦
          let h = rw (w.in-Err-Fault.is, w.in-Err-Fault.field-0-is) at c.reduce_redex.ensures.reduces in
          let stays = failed_stays c.args.stores.now task.page task.running w.in-Err-Fault.fault (sym h.0) in
          let after = h.2 ∙ stays.after_is in
          let puts : c.reduce_redex.new.outs.items ≡ c.args.outs.now.items = h.3 ∙ ap (λ (os : List Out). c.args.outs.now.items ++ os) stays.outputs_are ∙ append-nil c.args.outs.now.items in
          let error = rw (after, puts) at w.in_ok-put_error-in-Err-Fault.ensures.done in
          rw (w.result-is, w.outs-is, sym c.self.view_is, works_by c.args.stores.now task _ live h.0) (refl, after, error)
      | in-Err-NoMemory w ↦
          let h = rw (w.in-Err-NoMemory.is, w.in-Err-NoMemory.field-0-is) at c.reduce_redex.ensures.reduces in
          rw (w.result-is, w.outs-is, sym c.self.view_is) (work_front c.args.stores.now task c.args.outs.now.items c.reduce_redex.new.outs.items live h)
    ]

pub returns-in_err-put_error-in-Err-Fault-clause-works : goal.returns-in_err-put_error-in-Err-Fault-clause-works
returns-in_err-put_error-in-Err-Fault-clause-works g c =
    let task : Task = record { page = c.self.inside.page; running = c.self.inside.control } in
    let h = rw (c.in-Err-Fault.is, c.in-Err-Fault.field-0-is) at c.reduce_redex.ensures.reduces in
    let stays = failed_stays c.args.stores.now task.page task.running c.in-Err-Fault.fault (sym h.0) in
    let puts : c.reduce_redex.new.outs.items ≡ c.args.outs.now.items = h.3 ∙ ap (λ (os : List Out). c.args.outs.now.items ++ os) stays.outputs_are ∙ append-nil c.args.outs.now.items in
    let p = err_from_is_err_and c.from_residual.result c.from_residual.ensures.1 in
    rw (sym c.self.view_is, p.1) (record { front = []; rest = (turns.work c.args.stores.now task).outputs; cut = refl; appended = c.in_err-put_error-in-Err-Fault.ensures.kept ∙ puts ∙ sym (append-nil c.args.outs.now.items) })
