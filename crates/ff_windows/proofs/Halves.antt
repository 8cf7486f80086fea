-- The two lists of a queue: what is written, and what is taken out.
use Rattle.std.proofs.Common.{◌≡◌, ℕ, zero, suc, ◌+◌, ◌-◌, ◌<◌, ◌≤◌, Bool, true, false, cond, List, [], ◌∷◌, ◌++◌, length, get_or, drop, map, set, filter_map, refl, sym, ap, ◌∙◌, ⊎_elim, arith, length-drop}
use Rattle.std.specs.Prelude.{nat_eq, ◌==◌}
use Rattle.std.specs.List.{IsDistinct, AllByRecursion, list_any}
use Rattle.std.proofs.lemmas.Bool.{cases_lt, or_parts, or_from, ne_eqb, eqb-true, eqb-false}
use Rattle.std.proofs.lemmas.List.{drop-set-add, set-append_left, set-append_right, drop-append-le, drop-drop, drop_all}
use Rattle.ff_tree.specs.declared.tree.Expr.{Expr}
use Rattle.ff_machine.specs.declared.records.Entry.{Entry}
use Rattle.ff_machine.specs.declared.records.Entry.TheVariants.{Ready, Wait}
use Rattle.ff_machine.specs.Alone.{waiting}
use Rattle.ff_machine.specs.Windows.{is_slot, fill_entry}
use Rattle.ff_windows.specs.Queues.{AreHalves}

-- an entry that is written in the first list
pub set_in_front : (first i : ℕ) (front back : List Entry) (e : Entry) → first + i < length front → drop first (set front (first + i) e) ++ back ≡ set (drop first front ++ back) i e
set_in_front first i front back e h =
    ap (λ (l : List Entry). l ++ back) (drop-set-add first front i e)
    ∙ sym (set-append_left (drop first front) back i e (omega (arith, h, length-drop first front)))

-- and one in the second
pub set_in_back : (first i : ℕ) (front back : List Entry) (e : Entry) → length front - first ≤ i → drop first front ++ set back (i - (length front - first)) e ≡ set (drop first front ++ back) i e
set_in_back first i front back e h = sym (set-append_right (drop first front) back (length front - first) i e (length-drop first front) h)

-- where the first list is empty, so is the queue
pub all_empty : (first : ℕ) (front back : List Entry) → AreHalves first front back → length front ≡ 0 → drop first front ++ back ≡ []
all_empty first [] [] are none = ap (λ (l : List Entry). l ++ []) (drop_all first [] (omega arith))
all_empty first [] (e ∷ back) are none = absurd (omega (arith, (are.none_left (omega (arith, are.within))).1))
all_empty first (e ∷ front) back are none = absurd (omega (arith, none))

-- where it isn't, something is left of it
pub some_left : (first : ℕ) (front back : List Entry) → AreHalves first front back → (length front ≡ 0 → ⊥) → first < length front
some_left first front back are some =
    ⊎_elim (λ l. l) (λ l. absurd (some (are.none_left (omega (arith, l, are.within))).0)) (cases_lt first (length front))

-- the first entry is taken out
pub without_first : (first : ℕ) (front back : List Entry) → first < length front → drop (first + 1) front ++ back ≡ drop 1 (drop first front ++ back)
without_first first front back h =
    ap (λ (l : List Entry). l ++ back) (sym (drop-drop 1 first front))
    ∙ sym (drop-append-le 1 (drop first front) back (omega (arith, h, length-drop first front)))

-- which is the last of the first list
pub without_last : (first : ℕ) (front back : List Entry) → first + 1 ≡ length front → back ≡ drop 1 (drop first front ++ back)
without_last first front back e =
    ap (λ (l : List Entry). l ++ back) (sym (drop_all (first + 1) front (omega (arith, e))))
    ∙ without_first first front back (omega (arith, e))

-- Slots.

-- where the slot doesn't wait, it isn't filled
pub none_filled : (slot : ℕ) (body : Expr) (queue : List Entry) → list_any (is_slot slot) queue ≡ false → map (fill_entry slot body) queue ≡ queue
none_filled slot body [] h = refl
none_filled slot body (Ready b ∷ queue) h = ap (λ (l : List Entry). Ready b ∷ l) (none_filled slot body queue h)
none_filled slot body (Wait k ∷ queue) h =
    let parts = or_parts (k == slot) (list_any (is_slot slot) queue) h in
    ap (λ (b : Bool). cond b (Ready body) (Wait k) ∷ map (fill_entry slot body) queue) parts.0 ∙ ap (λ (l : List Entry). Wait k ∷ l) (none_filled slot body queue parts.1)

apart : (slot k : ℕ) → (k == slot) ≡ true → (queue : List Entry) → AllByRecursion (λ y. nat_eq k y ≡ false) (filter_map waiting queue) → list_any (is_slot slot) queue ≡ false
apart slot k e [] h = refl
apart slot k e (Ready b ∷ queue) h = apart slot k e queue h
apart slot k e (Wait j ∷ queue) h =
    let same : k ≡ slot = eqb-true k slot e in
    or_from (j == slot) (list_any (is_slot slot) queue) (ne_eqb j slot (λ q. eqb-false k j h.0 (same ∙ sym q))) (apart slot k e queue h.1)

-- the first slot of that number is filled, which is the only one
pub first_filled : (slot : ℕ) (body : Expr) (queue : List Entry) (i : ℕ) → IsDistinct nat_eq (filter_map waiting queue) → i < length queue
    → ((k : ℕ) → k < i → is_slot slot (get_or queue k (Wait 0)) ≡ false) → is_slot slot (get_or queue i (Wait 0)) ≡ true → set queue i (Ready body) ≡ map (fill_entry slot body) queue
unfolding IsDistinct
first_filled slot body [] i d l before here = absurd (omega (arith, l))
first_filled slot body (Ready b ∷ queue) zero d l before here = cc
first_filled slot body (Ready b ∷ queue) (suc i) d l before here =
    ap (λ (l : List Entry). Ready b ∷ l) (first_filled slot body queue i d (omega (arith, l)) (λ k lt. before (suc k) (omega (arith, lt))) here)
first_filled slot body (Wait k ∷ queue) zero d l before here =
    ap (λ (l : List Entry). Ready body ∷ l) (sym (none_filled slot body queue (apart slot k here queue d.0)))
    ∙ ap (λ (b : Bool). cond b (Ready body) (Wait k) ∷ map (fill_entry slot body) queue) (sym here)
first_filled slot body (Wait k ∷ queue) (suc i) d l before here =
    ap (λ (l : List Entry). Wait k ∷ l) (first_filled slot body queue i d.1 (omega (arith, l)) (λ j lt. before (suc j) (omega (arith, lt))) here)
    ∙ ap (λ (b : Bool). cond b (Ready body) (Wait k) ∷ map (fill_entry slot body) queue) (sym (before 0 (omega arith)))
