-- What each call makes of valid windows is valid.
use Rattle.std.proofs.Common.{◌≡◌, ℕ, suc, ◌<◌, ◌≤◌, false, Option, Some, None, List, [], ◌∷◌, ◌++◌, length, drop, map, sum_by, All, sym, ap, ◌∙◌, arith, length-append, length-drop, length-set}
use Rattle.std.proofs.lemmas.List.{length-map, set-get_or}
use Rattle.ff_tree.specs.Spelled.{IsVar, AreParams, IsWellSpelledExpr}
use Rattle.ff_tree.specs.declared.tree.Expr.{Expr}
use Rattle.ff_value.specs.Spelled.{IsWellSpelledVal}
use Rattle.ff_value.specs.declared.ids.ActId.{ActId}
use Rattle.ff_value.specs.declared.ids.PageId.{PageId}
use Rattle.ff_value.specs.declared.value.Val.{Val}
use Rattle.ff_machine.specs.declared.limits.TheConstants.{MOST_ENTRIES, MOST_SLOTS}
use Rattle.ff_machine.specs.declared.records.Entry.{Entry}
use Rattle.ff_machine.specs.declared.records.Entry.TheVariants.{Ready, Wait}
use Rattle.ff_machine.specs.Windows as windows
use Rattle.ff_machine.specs.Windows.{Windows, Page, Activation, no_page, page_at, fill_entry}
use Rattle.ff_machine.specs.Alone.{IsPage, AreWindows}
use Rattle.ff_machine.proofs.Queues.{with_ready, with_wait, with_filled, without_first}
use Rattle.ff_machine.proofs.ActChanges.{acts_declared, acts_assigned, acts_called}
use Rattle.ff_machine.proofs.WindowChanges.{queue_set, acts_set}
use Rattle.ff_windows.proofs.Halves.{none_filled}

-- the page of a number is one
abbrev old_page : (w : Windows) (p : PageId) → AreWindows w → p.0 < length w.pages → IsPage (length w.acts) (page_at w p)
old_page w p valid lives = valid.pages.each p.0 no_page lives

-- a script more
pub ready_kept : (w : Windows) (p : PageId) (body : Expr) → AreWindows w → p.0 < length w.pages → sum_by (λ x. length x.queue) w.pages < MOST_ENTRIES → IsWellSpelledExpr body
    → AreWindows (windows.with_entry w p (Ready body))
ready_kept w p body valid lives room spelled =
    let old = page_at w p in
    let was = old_page w p valid lives in
    queue_set w p old.next (old.queue ++ Ready body ∷ []) valid lives (with_ready old.next old.queue body was.queue spelled) was.few_slots (omega (arith, room, length-append old.queue (Ready body ∷ [])))

-- a slot more
pub slot_kept : (w : Windows) (p : PageId) → AreWindows w → p.0 < length w.pages → sum_by (λ x. length x.queue) w.pages < MOST_ENTRIES → (page_at w p).next < MOST_SLOTS → AreWindows (windows.with_slot w p)
slot_kept w p valid lives room slots =
    let old = page_at w p in
    let was = old_page w p valid lives in
    queue_set w p (suc old.next) (old.queue ++ Wait old.next ∷ []) valid lives (with_wait old.next old.queue was.queue) (omega (arith, slots)) (omega (arith, room, length-append old.queue (Wait old.next ∷ [])))

-- a slot that is filled
pub fill_kept : (w : Windows) (p : PageId) (slot : ℕ) (body : Expr) → AreWindows w → p.0 < length w.pages → IsWellSpelledExpr body → AreWindows (windows.filled w p slot body)
fill_kept w p slot body valid lives spelled =
    let old = page_at w p in
    let was = old_page w p valid lives in
    queue_set w p old.next (map (fill_entry slot body) old.queue) valid lives (with_filled old.next slot old.queue body was.queue spelled) was.few_slots (omega (arith, valid.pages.few_entries, length-map old.queue (fill_entry slot body)))

-- where the slot doesn't wait, nothing changes
pub not_filled : (w : Windows) (p : PageId) (slot : ℕ) (body : Expr) → windows.waits w p slot ≡ false → w ≡ windows.filled w p slot body
not_filled w p slot body none =
    sym
    (ap (λ (q : List Entry). windows.set_page w p (record (page_at w p) { queue = q })) (none_filled slot body (page_at w p).queue none)
    ∙ ap (λ (pages : List Page). let v : Windows = record w { pages = pages } in v) (set-get_or w.pages p.0 no_page))

-- an entry less
pub pop_kept : (w : Windows) (p : PageId) → AreWindows w → p.0 < length w.pages → AreWindows (windows.popped w p)
pop_kept w p valid lives =
    let old = page_at w p in
    let was = old_page w p valid lives in
    queue_set w p old.next (drop 1 old.queue) valid lives (without_first old.next old.queue was.queue) was.few_slots (omega (arith, valid.pages.few_entries, length-drop 1 old.queue))

-- a variable that is declared
pub declared_kept : (w : Windows) (a : ActId) (x : List ℕ) (v : Val) → AreWindows w → a.0 < length w.acts → IsVar x → IsWellSpelledVal v → windows.declare_fault w.acts a x ≡ None
    → AreWindows (windows.with_acts w (windows.set_var w.acts a x v))
declared_kept w a x v valid lives is_var spelled room =
    acts_set w (windows.set_var w.acts a x v) valid (long w.acts a x v) (acts_declared w.acts a x v valid.acts lives is_var spelled room) where
      long : (acts : List Activation) (a : ActId) (x : List ℕ) (v : Val) → length acts ≤ length (windows.set_var acts a x v)
      long acts a x v = omega (arith, length-set {A = Activation})

assigned_long : (acts : List Activation) (o : Option ActId) (x : List ℕ) (v : Val) → length acts ≤ length (windows.assigned acts o x v)
assigned_long acts None x v = omega arith
assigned_long acts (Some a) x v = omega (arith, length-set {A = Activation})

-- a variable that is assigned
pub assigned_kept : (w : Windows) (a : ActId) (x : List ℕ) (v : Val) → AreWindows w → IsWellSpelledVal v → AreWindows (windows.with_acts w (windows.assigned w.acts (windows.holder w.acts a x) x v))
assigned_kept w a x v valid spelled =
    acts_set w (windows.assigned w.acts (windows.holder w.acts a x) x v) valid (assigned_long w.acts (windows.holder w.acts a x) x v) (acts_assigned w.acts a x v valid.acts spelled)

-- an activation more, for a call
pub called_kept : (w : Windows) (parent : ActId) (params : List (List ℕ)) (args : List Val) → AreWindows w → parent.0 < length w.acts → AreParams params → All IsWellSpelledVal args
    → windows.call_fault w.acts (length params) ≡ None → AreWindows (windows.with_acts w (windows.with_act w.acts parent params args))
called_kept w parent params args valid lives names values room =
    acts_set w (windows.with_act w.acts parent params args) valid (omega (arith, length-append {A = Activation})) (acts_called w.acts parent params args valid.acts lives names values room)
