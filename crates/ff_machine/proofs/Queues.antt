-- The queue of a page stays one: scripts and slots that come, slots that are filled, and entries
-- that go.
use Rattle.std.proofs.Common.{◌≡◌, ℕ, suc, ◌<◌, Bool, true, false, cond, ◌==◌, eqb, List, [], ◌∷◌, ◌++◌, drop, map, filter_map, All, refl, sym, ap, subst, arith}
use Rattle.std.specs.Prelude.{nat_eq}
use Rattle.std.specs.List.{IsDistinct, AllByRecursion, list_any}
use Rattle.std.proofs.lemmas.Bool.{ne_eqb, or_from}
use Rattle.std.proofs.lemmas.Map.Keys.{IsDistinct-push}
use Rattle.std.proofs.lemmas.List.Elements.{All-nil, All-weaker, All-map, All-drop, All-push, All-head, All-tail}
use Rattle.std.specs.Cmp.{nat_eq_equiv}
use Rattle.ff_tree.specs.declared.tree.Expr.{Expr}
use Rattle.ff_tree.specs.Spelled.{IsWellSpelledExpr}
use Rattle.ff_machine.specs.declared.records.Entry.{Entry}
use Rattle.ff_machine.specs.declared.records.Entry.TheVariants.{Ready, Wait}
use Rattle.ff_machine.specs.Windows.{fill_entry}
use Rattle.ff_machine.specs.Alone.{IsEntry, waiting, IsQueue}

-- Coming.

unused : (slot : ℕ) (queue : List Entry) → All (IsEntry slot) queue → list_any (nat_eq slot) (filter_map waiting queue) ≡ false
unused slot [] h = refl
unused slot (Ready body ∷ queue) h = unused slot queue (All-tail (IsEntry slot) (Ready body) queue h)
unused slot (Wait k ∷ queue) h =
    let less : k < slot = All-head (IsEntry slot) (Wait k) queue h in
    or_from (eqb slot k) (list_any (nat_eq slot) (filter_map waiting queue)) (ne_eqb slot k (λ e. omega (arith, e, less))) (unused slot queue (All-tail (IsEntry slot) (Wait k) queue h))

waiting_pushed : (queue : List Entry) (slot : ℕ) → filter_map waiting (queue ++ Wait slot ∷ []) ≡ filter_map waiting queue ++ slot ∷ []
waiting_pushed [] slot = refl
waiting_pushed (Ready body ∷ queue) slot = waiting_pushed queue slot
waiting_pushed (Wait k ∷ queue) slot = ap (λ (ks : List ℕ). k ∷ ks) (waiting_pushed queue slot)

ready_pushed : (queue : List Entry) (body : Expr) → filter_map waiting (queue ++ Ready body ∷ []) ≡ filter_map waiting queue
ready_pushed [] body = refl
ready_pushed (Ready b ∷ queue) body = ready_pushed queue body
ready_pushed (Wait k ∷ queue) body = ap (λ (ks : List ℕ). k ∷ ks) (ready_pushed queue body)

entry_later : (next : ℕ) (entry : Entry) → IsEntry next entry → IsEntry (suc next) entry
entry_later next (Ready body) h = h
entry_later next (Wait slot) h = omega (arith, h)

-- a script more, which may run
pub with_ready : (next : ℕ) (queue : List Entry) (body : Expr) → IsQueue next queue → IsWellSpelledExpr body → IsQueue next (queue ++ Ready body ∷ [])
with_ready next queue body is spelled = record {
  entries = All-push (IsEntry next) queue (Ready body) is.entries spelled;
  differ = subst (IsDistinct nat_eq) (sym (ready_pushed queue body)) is.differ;
}

-- a waiting slot more, of the next number
pub with_wait : (next : ℕ) (queue : List Entry) → IsQueue next queue → IsQueue (suc next) (queue ++ Wait next ∷ [])
with_wait next queue is = record {
  entries = All-push (IsEntry (suc next)) queue (Wait next) (All-weaker (IsEntry next) (IsEntry (suc next)) (entry_later next) queue is.entries) (omega arith);
  differ = subst (IsDistinct nat_eq) (sym (waiting_pushed queue next)) (IsDistinct-push nat_eq_equiv (filter_map waiting queue) next is.differ (unused next queue is.entries));
}

-- Filling.

filled_entry : (next slot : ℕ) (body : Expr) → IsWellSpelledExpr body → (entry : Entry) → IsEntry next entry → IsEntry next (fill_entry slot body entry)
filled_entry next slot body spelled (Ready b) h = h
filled_entry next slot body spelled (Wait k) h = by (k == slot) where
  by : (b : Bool) → IsEntry next (cond b (Ready body) (Wait k))
  by true = spelled
  by false = h

chosen_apart : (b : Bool) (x k : ℕ) (body : Expr) (queue : List Entry) → nat_eq x k ≡ false → AllByRecursion (λ y. nat_eq x y ≡ false) (filter_map waiting queue)
    → AllByRecursion (λ y. nat_eq x y ≡ false) (filter_map waiting (cond b (Ready body) (Wait k) ∷ queue))
chosen_apart true x k body queue e h = h
chosen_apart false x k body queue e h = (e, h)

chosen_distinct : (b : Bool) (k : ℕ) (body : Expr) (queue : List Entry) → AllByRecursion (λ y. nat_eq k y ≡ false) (filter_map waiting queue) → IsDistinct nat_eq (filter_map waiting queue)
    → IsDistinct nat_eq (filter_map waiting (cond b (Ready body) (Wait k) ∷ queue))
unfolding IsDistinct
chosen_distinct true k body queue e h = h
chosen_distinct false k body queue e h = (e, h)

-- the slots that wait are some of those before
apart_filled : (slot x : ℕ) (body : Expr) (queue : List Entry) → AllByRecursion (λ y. nat_eq x y ≡ false) (filter_map waiting queue)
    → AllByRecursion (λ y. nat_eq x y ≡ false) (filter_map waiting (map (fill_entry slot body) queue))
apart_filled slot x body [] h = h
apart_filled slot x body (Ready b ∷ queue) h = apart_filled slot x body queue h
apart_filled slot x body (Wait k ∷ queue) h = chosen_apart (k == slot) x k body (map (fill_entry slot body) queue) h.0 (apart_filled slot x body queue h.1)

distinct_filled : (slot : ℕ) (body : Expr) (queue : List Entry) → IsDistinct nat_eq (filter_map waiting queue) → IsDistinct nat_eq (filter_map waiting (map (fill_entry slot body) queue))
unfolding IsDistinct
distinct_filled slot body [] h = h
distinct_filled slot body (Ready b ∷ queue) h = distinct_filled slot body queue h
distinct_filled slot body (Wait k ∷ queue) h =
    chosen_distinct (k == slot) k body (map (fill_entry slot body) queue) (apart_filled slot k body queue h.0) (distinct_filled slot body queue h.1)

-- a script in the place of a waiting slot
pub with_filled : (next slot : ℕ) (queue : List Entry) (body : Expr) → IsQueue next queue → IsWellSpelledExpr body → IsQueue next (map (fill_entry slot body) queue)
with_filled next slot queue body is spelled = record {
  entries = All-map (IsEntry next) (fill_entry slot body) queue (All-weaker (IsEntry next) (λ e. IsEntry next (fill_entry slot body e)) (filled_entry next slot body spelled) queue is.entries);
  differ = distinct_filled slot body queue is.differ;
}

-- Going.

first_gone : (queue : List Entry) → IsDistinct nat_eq (filter_map waiting queue) → IsDistinct nat_eq (filter_map waiting (drop 1 queue))
unfolding IsDistinct
first_gone [] h = h
first_gone (Ready body ∷ queue) h = h
first_gone (Wait k ∷ queue) h = h.1

-- an entry less, the first one
pub without_first : (next : ℕ) (queue : List Entry) → IsQueue next queue → IsQueue next (drop 1 queue)
without_first next queue is = record { entries = All-drop (IsEntry next) 1 queue is.entries; differ = first_gone queue is.differ }

-- the queue of a page at its beginning
pub no_queue : IsQueue 0 []
unfolding IsDistinct
no_queue = record { entries = All-nil (IsEntry 0); differ = tt }
