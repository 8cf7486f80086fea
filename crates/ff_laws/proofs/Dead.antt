-- A page that isn't live doesn't run, and no input's tag changes what is made of it.
use Rattle.std.proofs.Common.{◌≡◌, ℕ, Bool, true, false, cond, ◌==◌, Option, Some, None, List, [], ◌∷◌, ◌++◌, map, find, refl, ap, ◌∙◌, eq-eqb}
use Rattle.std.proofs.lemmas.Bool.{or_left, or_right}
use Rattle.std.specs.List.{list_any}
use Rattle.ff_confinement.specs.Runs.{Handled, plain, plain_from}
use Rattle.ff_confinement.specs.Turns.{settle, machine_of}
use Rattle.ff_tree.specs.declared.tree.Expr.{Expr}
use Rattle.ff_value.specs.declared.ids.PageId.{PageId}
use Rattle.ff_value.specs.declared.ids.WinId.{WinId}
use Rattle.ff_value.specs.declared.input.Input.{Input}
use Rattle.ff_value.specs.declared.output.Out.{Out}
use Rattle.ff_value.specs.declared.reply.Resp.{Resp}
use Rattle.ff_value.specs.declared.value.Code.{Code}
use Rattle.ff_machine.specs.Windows.{is_live, page_at, window_at, first_ready, ready, popped}
use Rattle.ff_machine.specs.Stores as stores
use Rattle.ff_machine.specs.Stores.{Stores, take_ready}
use Rattle.ff_machine.specs.Reduction.{reduction}
use Rattle.ff_machine.specs.State.{State, Step, Task, nothing, with_stores, with_calls}
use Rattle.ff_machine.specs.Inputs.{fill_reply, call_reply, slot_body, call_value, perform, begin}
use Rattle.ff_machine.specs.Turns.{work, go_on, gone}
use Rattle.ff_machine.specs.Machine.{reactor}

-- a task of such a page is dropped, and nothing changes
pub dropped : (s : Stores) (task : Task) → is_live s.windows task.page ≡ false → work s task ≡ gone s []
dropped s task dead = ap (λ (b : Bool). cond b (go_on s task (reduction s task.page task.running) (reduction s task.page task.running).answer) (gone s [])) dead

found_one : (b : Bool) (f : WinId → PageId) (x : WinId) (rest : Option PageId) (p : PageId) (xs : List WinId) → cond b (Some (f x)) rest ≡ Some p
    → (rest ≡ Some p → list_any (λ n. (f n).0 == p.0) xs ≡ true) → list_any (λ n. (f n).0 == p.0) (x ∷ xs) ≡ true
found_one true f x rest p xs e h = let same : f x ≡ p = cc in or_left ((f x).0 == p.0) (list_any (λ n. (f n).0 == p.0) xs) (eq-eqb (f x).0 p.0 (ap (λ (q : PageId). q.0) same))
found_one false f x rest p xs e h = or_right ((f x).0 == p.0) (list_any (λ n. (f n).0 == p.0) xs) (h e)

found_live : (test : PageId → Bool) (f : WinId → PageId) (xs : List WinId) (p : PageId) → find test (map f xs) ≡ Some p → list_any (λ n. (f n).0 == p.0) xs ≡ true
found_live test f [] p e = cc
found_live test f (x ∷ xs) p e = found_one (test (f x)) f x (find test (map f xs)) p xs e (λ h. found_live test f xs p h)

popped_page : (s : Stores) (page : PageId) (body : Option Expr) (taken : (PageId × Expr) × Stores) → stores.popped_script s page body ≡ Some taken → taken.0.0 ≡ page
popped_page s page None taken e = cc
popped_page s page (Some body) taken e =
    let same : taken ≡ ((page, body), record s { windows = popped s.windows page }) = cc in
    ap (λ (t : (PageId × Expr) × Stores). t.0.0) same

taken_live_of : (s : Stores) (page : Option PageId) (taken : (PageId × Expr) × Stores) → ((p : PageId) → page ≡ Some p → is_live s.windows p ≡ true) → stores.popped_of s page ≡ Some taken
    → is_live s.windows taken.0.0 ≡ true
taken_live_of s None taken h e = cc
taken_live_of s (Some page) taken h e = ap (is_live s.windows) (popped_page s page (first_ready (page_at s.windows page).queue) taken e) ∙ h page refl

-- a script is taken out of the queue of a live page only
pub taken_live : (s : Stores) (taken : (PageId × Expr) × Stores) → take_ready s ≡ Some taken → is_live s.windows taken.0.0 ≡ true
taken_live s taken e = taken_live_of s (ready s.windows) taken (λ p found. found_live _ (λ n. (window_at s.windows n).page) s.windows.opened p found) e

-- a slot of such a page isn't filled
pub not_filled : (s : State) (page : PageId) (slot : ℕ) (reply : Option Resp) → is_live s.stores.windows page ≡ false → fill_reply s page slot reply ≡ nothing s
not_filled s page slot reply dead = ap (λ (b : Bool). cond b (nothing (with_stores s (stores.fill_slot s.stores page slot (slot_body reply)))) (nothing s)) dead

-- a callback of such a page isn't called
pub not_called : (s : State) (page : PageId) (code : Code) (reply : Option Resp) → is_live s.stores.windows page ≡ false → call_reply s page code reply ≡ nothing s
not_called s page code reply dead = ap (λ (b : Bool). cond b (nothing (with_calls s page (code ∷ []) (call_value reply))) (nothing s)) dead

-- Tags.

begin_alike : (s : State) (i j : Input) → i.act ≡ j.act → begin s i ≡ begin s j
unfolding begin
begin_alike s i j e = ap (perform (record s { fuel = s.budget; quiet = false })) e

-- inputs of the same act are handled alike
pub handled_alike : (budget most : ℕ) (s : State) (i j : Input) → i.act ≡ j.act → (machine_of (reactor budget) most).handle s i ≡ (machine_of (reactor budget) most).handle s j
handled_alike budget most s i j e =
    ap
    (λ (begun : Step). let rest = settle (reactor budget) most begun.after in
    let h : Handled Out State = record { outputs = begun.outputs ++ rest.outputs; after = rest.after; turns = rest.turns } in h)
    (begin_alike s i j e)

runs_alike_from : (budget most : ℕ) (is js : List Input) (s : State) → map (λ i. i.act) is ≡ map (λ i. i.act) js
    → plain_from (machine_of (reactor budget) most) s is ≡ plain_from (machine_of (reactor budget) most) s js
runs_alike_from budget most [] [] s e = refl
runs_alike_from budget most [] (j ∷ js) s e = cc
runs_alike_from budget most (i ∷ is) [] s e = cc
runs_alike_from budget most (i ∷ is) (j ∷ js) s e =
    let m = machine_of (reactor budget) most in
    let first : i.act ≡ j.act = cc in
    let others : map (λ i. i.act) is ≡ map (λ i. i.act) js = cc in
    ap (λ (h : Handled Out State). h.outputs ∷ plain_from m h.after is) (handled_alike budget most s i j first)
    ∙ ap (λ (puts : List (List Out)). (m.handle s j).outputs ∷ puts) (runs_alike_from budget most is js (m.handle s j).after others)

-- runs over the same acts put the same
pub runs_alike : (budget most : ℕ) (is js : List Input) → map (λ i. i.act) is ≡ map (λ i. i.act) js
    → plain (machine_of (reactor budget) most) is ≡ plain (machine_of (reactor budget) most) js
unfolding plain
runs_alike budget most is js e = runs_alike_from budget most is js (machine_of (reactor budget) most).start e
