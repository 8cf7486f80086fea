use Rattle.std.proofs.Common.{◌≡◌, ◌+◌, ◌<◌, length, get_or, set, List, sym, ap, subst, ◌∙◌, arith, length-set}
use Rattle.std.proofs.lemmas.Option.{slice_get-get_or}
use Rattle.ff_machine.specs.Windows.{Page, no_page}
use Rattle.ff_windows.specs.Queues.{one_if}
use Rattle.ff_windows.proofs.Counted.{one_more, count_changed}
use Rattle.ff_windows.proofs.pages.Pages.edit.Goals as goal

pub is_ready_at-requires : goal.is_ready_at-requires
is_ready_at-requires g c =
    let old : List Page = c.self.inside.cells in
    let lives : c.args.i < length old = subst (λ (l : List Page). c.args.i < length l) (sym c.self.view_is) c.requires in
    let new = c.in-Ok.ensures.done (get_or old c.args.i no_page) (slice_get-get_or old c.args.i no_page lives) in
    subst (λ (l : List Page). c.args.i < length l) (sym new) (omega (arith, lives, length-set {A = Page}))

pub counted-self-inside-requires-clause-few : goal.counted-self-inside-requires-clause-few
counted-self-inside-requires-clause-few g c = one_more c.self.inside.cells c.self.inside.ready c.len-known.result c.self.invariant (omega (arith, c.len-known.ensures.value)) (omega (arith, c.len-known.ensures.bound))

pub invariant_of-self-2 : goal.invariant_of-self-2
invariant_of-self-2 g c =
    let old : List Page = c.self.inside.cells in
    let at : Page = get_or old c.args.i no_page in
    let lives : c.args.i < length old = subst (λ (l : List Page). c.args.i < length l) (sym c.self.view_is) c.requires in
    let new = c.in-Ok.ensures.done at (slice_get-get_or old c.args.i no_page lives) in
    count_changed old c.edit.new.self c.args.i (g.E.Edit.edited c.args.edit at) c.self.inside.ready c.counted-self-inside.result lives new c.self.invariant
    (ap (λ b. c.counted-self-inside.result + one_if b) (sym c.is_ready_at-was.ensures) ∙ c.counted-self-inside.ensures ∙ ap (λ b. c.self.inside.ready + one_if b) c.is_ready_at.ensures)

pub returns-clause-done : goal.returns-clause-done
returns-clause-done g c =
    let old : List Page = c.self.inside.cells in
    let lives : c.args.i < length old = subst (λ (l : List Page). c.args.i < length l) (sym c.self.view_is) c.requires in
    let new = c.in-Ok.ensures.done (get_or old c.args.i no_page) (slice_get-get_or old c.args.i no_page lives) in
    subst (λ (l : List Page). c.edit.new.self ≡ set l c.args.i (g.E.Edit.edited c.args.edit (get_or l c.args.i no_page))) c.self.view_is new
