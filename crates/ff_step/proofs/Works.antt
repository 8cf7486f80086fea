-- What one fuel makes of a task, by what its reduction answers.
use Rattle.std.proofs.Common.{◌≡◌, ◌<◌, List, [], ◌∷◌, ◌++◌, Bool, true, cond, refl, sym, ap, subst, ◌∙◌, append-nil, length, Ok, None}
use Rattle.ff_contract.specs.Appending.{AppendsFront}
use Rattle.ff_value.specs.declared.ids.ActId.{ActId}
use Rattle.ff_value.specs.declared.output.Out.{Out}
use Rattle.ff_value.specs.declared.value.Val.{Val}
use Rattle.ff_term.specs.Running.{Done}
use Rattle.ff_machine.specs.declared.reduced.Reduced.{Reduced}
use Rattle.ff_machine.specs.declared.reduced.Reduced.TheVariants as answer
use Rattle.ff_machine.specs.Alone.{IsPage}
use Rattle.ff_machine.specs.Answers.{Works}
use Rattle.ff_machine.specs.Windows.{is_live, no_page, page_at}
use Rattle.ff_machine.specs.Stores.{Stores}
use Rattle.ff_machine.specs.Reduction.{Reduction, reduction}
use Rattle.ff_machine.specs.State.{Task}
use Rattle.ff_machine.specs.Turns.{work, go_on, gone, error_at}
use Rattle.ff_machine.specs.Valid.{IsStores, IsTask}
use Rattle.ff_machine.proofs.Stays.{done_stays, failed_stays}
use Rattle.ff_step.proofs.Reductions.{done_reduction}

-- a valid task runs in an activation that was made
pub base_lives : (s : Stores) (task : Task) → IsStores s → IsTask s task → task.running.base.0 < length s.windows.acts
base_lives s task valid is =
    let page : IsPage (length s.windows.acts) (page_at s.windows task.page) = valid.windows.pages.each task.page.0 no_page is.page in
    subst (λ (a : ActId). a.0 < length s.windows.acts) (sym is.act) page.act

-- a task of a live page goes on as the answer says
pub works_by : (s : Stores) (task : Task) (a : Reduced) → is_live s.windows task.page ≡ true → a ≡ (reduction s task.page task.running).answer
    → work s task ≡ go_on s task (reduction s task.page task.running) a
works_by s task a live is =
    ap (λ (b : Bool). cond b (go_on s task (reduction s task.page task.running) (reduction s task.page task.running).answer) (gone s [])) live
    ∙ ap (λ (x : Reduced). go_on s task (reduction s task.page task.running) x) (sym is)

-- a task of a live page that is a value is gone
pub value_gone : (s : Stores) (task : Task) (v : Val) (puts : List Out) → is_live s.windows task.page ≡ true → task.running.expr ≡ Done v → Works {E = Unit {0}} (work s task) (Ok None) s puts puts
value_gone s task v puts live is =
    let done = ap (λ (r : Reduction). r.answer) (done_reduction s task.page task.running v is) in
    rw (works_by s task (answer.Done v) live (sym done)) (refl, refl, sym (append-nil puts))

-- a front of nothing is a front of anything
front_of_any : {X : Type 0} (old new xs ys : List X) → xs ≡ [] → AppendsFront old new xs → AppendsFront old new ys
front_of_any old new xs ys none f = record { front = []; rest = ys; cut = refl; appended = f.appended ∙ ap (λ zs. old ++ zs) (empty f.front f.rest (sym f.cut ∙ none)) } where
  empty : {X : Type 0} (xs bs : List X) → xs ++ bs ≡ [] → xs ≡ []
  empty [] bs e = refl
  empty (a ∷ xs) bs e = cc

-- a front of what a reduction puts is a front of what its task puts
pub work_front : (s : Stores) (task : Task) (puts puts' : List Out) → is_live s.windows task.page ≡ true
    → AppendsFront puts puts' (reduction s task.page task.running).outputs → AppendsFront puts puts' (work s task).outputs
work_front s task puts puts' live f =
    rw (works_by s task (reduction s task.page task.running).answer live refl) (by (reduction s task.page task.running).answer refl) where
      by : (a : Reduced) → a ≡ (reduction s task.page task.running).answer → AppendsFront puts puts' (go_on s task (reduction s task.page task.running) a).outputs
      by answer.Moved e = f
      by (answer.Done v) e = front_of_any puts puts' _ [] (done_stays s task.page task.running v (sym e)).outputs_are f
      by (answer.Failed g) e = front_of_any puts puts' _ (error_at s task.page g ∷ []) (failed_stays s task.page task.running g (sym e)).outputs_are f
