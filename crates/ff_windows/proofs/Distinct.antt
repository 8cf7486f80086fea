-- Numbers that differ, one after another: the slots that wait in a queue, and open windows.
use Rattle.std.proofs.Common.{◌≡◌, ℕ, ◌+◌, ◌<◌, Bool, true, false, T, not, cond, ◌||◌, nat_eq, List, [], ◌∷◌, ◌++◌, All, map, filter_map, take, drop, length, get_or, refl, sym, ap, subst, ◌∙◌}
use Rattle.std.specs.Bool.{one_answer}
use Rattle.std.specs.List.{AllByRecursion, IsDistinct, list_any}
use Rattle.std.specs.Ordering.{nat_cmp, is_eq}
use Rattle.std.specs.Cmp.{Equal-is, eq_by_cmp_equiv, nat_cmp_total, nat_eq_equiv, unsigned_Decides}
use Rattle.std.specs.BTreeSet.{BTreeSet, contains, Updates}
use Rattle.std.specs.FinMap as finmap
use Rattle.std.proofs.lemmas.List.{append-nil, drop_more, take_more, take-append-drop, map-append}
use Rattle.std.proofs.lemmas.List.Elements.{All-push, filter_map-append}
use Rattle.std.proofs.lemmas.List.Folds.{list_any-append}
use Rattle.std.proofs.lemmas.Map.Keys.{IsDistinct-push}
use Rattle.ff_tree.specs.declared.tree.Expr.{Expr}
use Rattle.ff_value.specs.declared.ids.WinId.{WinId}
use Rattle.ff_machine.specs.declared.records.Entry.{Entry}
use Rattle.ff_machine.specs.declared.records.Entry.TheVariants.{Ready, Wait}
use Rattle.ff_machine.specs.Alone.{IsEntry, waiting}

not_both : false ≡ true → ⊥
not_both e = subst T (sym e) tt

-- Numbers.

pub none_distinct : IsDistinct nat_eq []
unfolding IsDistinct
none_distinct = tt

at_seam : {X : Type 0} (P : X → Type 0) (xs : List X) (y : X) (ys : List X) → AllByRecursion P (xs ++ y ∷ ys) → P y
at_seam P [] y ys all = all.0
at_seam P (x ∷ xs) y ys all = at_seam P xs y ys all.1

either_none : (a b : Bool) → a ≡ false → b ≡ false → (a || b) ≡ false
either_none true b e f = absurd (not_both (sym e))
either_none false b e f = f

other_way : (x y : ℕ) (b : Bool) → nat_eq y x ≡ b → nat_eq x y ≡ false → b ≡ false
other_way x y true e other = absurd (not_both (sym other ∙ (unsigned_Decides x y).1 (sym ((unsigned_Decides y x).0 e))))
other_way x y false e other = refl

-- none before it is the same
pub distinct_here : (xs : List ℕ) (y : ℕ) (ys : List ℕ) → IsDistinct nat_eq (xs ++ y ∷ ys) → list_any (nat_eq y) xs ≡ false
unfolding IsDistinct
distinct_here [] y ys h = refl
distinct_here (x ∷ xs) y ys h = either_none (nat_eq y x) (list_any (nat_eq y) xs) (other_way x y (nat_eq y x) refl (at_seam (λ z. nat_eq x z ≡ false) xs y ys h.0)) (distinct_here xs y ys h.1)

tie : (s t : ℕ) → is_eq (nat_cmp s t) ≡ nat_eq t s
tie s t = one_answer (is_eq (nat_cmp s t)) (nat_eq t s)
    (λ e. finmap.nat_cmp-IsAntisymmetric s t ((Equal-is (nat_cmp s t)).0 e), λ e. subst (λ u. is_eq (nat_cmp s u) ≡ true) e ((eq_by_cmp_equiv nat_cmp_total).refl s))
    (λ e. sym ((unsigned_Decides t s).0 e), λ e. (unsigned_Decides t s).1 (sym e))

-- a set that has the numbers of a list
abbrev pub Has : BTreeSet ℕ → List ℕ → Type 0
Has set ns = (n : ℕ) → contains nat_cmp set n ≡ list_any (nat_eq n) ns

or_last : (a b : Bool) → cond a true b ≡ (b || (a || false))
or_last true true = refl
or_last true false = refl
or_last false true = refl
or_last false false = refl

pub has_none : (set : BTreeSet ℕ) → set.keys ≡ [] → Has set []
has_none set none = λ n. ap (list_any (λ k. is_eq (nat_cmp n k))) none

pub has_more : (set new : BTreeSet ℕ) (ns : List ℕ) (m : ℕ) → Has set ns → Updates nat_cmp set new m true → Has new (ns ++ m ∷ [])
has_more set new ns m has updates = λ n.
    updates.0 n
    ∙ ap (λ b. cond b true (contains nat_cmp set n)) (tie m n)
    ∙ ap (λ b. cond (nat_eq n m) true b) (has n)
    ∙ or_last (nat_eq n m) (list_any (nat_eq n) ns)
    ∙ sym (list_any-append (nat_eq n) ns (m ∷ []))

is_none : (b : Bool) → true ≡ not b → b ≡ false
is_none true e = absurd (not_both (sym e))
is_none false e = refl

is_one : (b : Bool) → false ≡ not b → b ≡ true
is_one true e = refl
is_one false e = absurd (not_both e)

pub new_one : (set : BTreeSet ℕ) (ns : List ℕ) (m : ℕ) → Has set ns → true ≡ not (contains nat_cmp set m) → list_any (nat_eq m) ns ≡ false
new_one set ns m has added = sym (has m) ∙ is_none (contains nat_cmp set m) added

pub old_one : (set : BTreeSet ℕ) (ns : List ℕ) (m : ℕ) → Has set ns → false ≡ not (contains nat_cmp set m) → list_any (nat_eq m) ns ≡ false → ⊥
old_one set ns m has added none = not_both (sym none ∙ sym (has m) ∙ is_one (contains nat_cmp set m) added)

-- The entries of a queue.

waiting_pushed : (queue : List Entry) (slot : ℕ) → filter_map waiting (queue ++ Wait slot ∷ []) ≡ filter_map waiting queue ++ slot ∷ []
waiting_pushed queue slot = filter_map-append waiting queue (Wait slot ∷ [])

module _ (queue : List Entry) (i : ℕ) (x : Entry) (within : i < length queue) (is : x ≡ get_or queue i x) where
  more : take (i + 1) queue ≡ take i queue ++ x ∷ []
  more = take_more queue i x within ∙ ap (λ y. take i queue ++ y ∷ []) (sym is)

  whole : queue ≡ take i queue ++ x ∷ drop (i + 1) queue
  whole = sym (take-append-drop i queue) ∙ ap (λ (ys : List Entry). take i queue ++ ys) (drop_more queue i x within ∙ ap (λ y. y ∷ drop (i + 1) queue) (sym is))

  pub entry_more : (next : ℕ) → All (IsEntry next) (take i queue) → IsEntry next x → All (IsEntry next) (take (i + 1) queue)
  entry_more next so_far here = subst (All (IsEntry next)) (sym more) (All-push (IsEntry next) (take i queue) x so_far here)

  pub no_slot_more : (body : Expr) → x ≡ Ready body → filter_map waiting (take (i + 1) queue) ≡ filter_map waiting (take i queue)
  no_slot_more body ready =
      ap (filter_map waiting) more
      ∙ ap (λ y. filter_map waiting (take i queue ++ y ∷ [])) ready
      ∙ filter_map-append waiting (take i queue) (Ready body ∷ [])
      ∙ append-nil (filter_map waiting (take i queue))

  pub slot_more : (slot : ℕ) → x ≡ Wait slot → filter_map waiting (take (i + 1) queue) ≡ filter_map waiting (take i queue) ++ slot ∷ []
  slot_more slot waits = ap (filter_map waiting) more ∙ ap (λ y. filter_map waiting (take i queue ++ y ∷ [])) waits ∙ waiting_pushed (take i queue) slot

  pub slot_new : (slot : ℕ) → x ≡ Wait slot → IsDistinct nat_eq (filter_map waiting queue) → list_any (nat_eq slot) (filter_map waiting (take i queue)) ≡ false
  slot_new slot waits differ =
      let parts = ap (filter_map waiting) whole ∙ ap (λ y. filter_map waiting (take i queue ++ y ∷ drop (i + 1) queue)) waits ∙ filter_map-append waiting (take i queue) (Wait slot ∷ drop (i + 1) queue) in
      distinct_here (filter_map waiting (take i queue)) slot (filter_map waiting (drop (i + 1) queue)) (subst (IsDistinct nat_eq) parts differ)

-- The numbers of open windows.

abbrev numbers : List WinId → List ℕ
numbers ws = map (λ w. w.0) ws

module _ (opened : List WinId) (i : ℕ) (x d : WinId) (within : i < length opened) (is : x ≡ get_or opened i d) where
  whole_opened : numbers opened ≡ numbers (take i opened) ++ x.0 ∷ numbers (drop (i + 1) opened)
  whole_opened =
      ap numbers (sym (take-append-drop i opened) ∙ ap (λ (ws : List WinId). take i opened ++ ws) (drop_more opened i d within ∙ ap (λ y. y ∷ drop (i + 1) opened) (sym is)))
      ∙ map-append (λ (w : WinId). w.0) (take i opened) (x ∷ drop (i + 1) opened)

  pub number_new : IsDistinct nat_eq (numbers opened) → list_any (nat_eq x.0) (numbers (take i opened)) ≡ false
  number_new differ = distinct_here (numbers (take i opened)) x.0 (numbers (drop (i + 1) opened)) (subst (IsDistinct nat_eq) whole_opened differ)

  pub number_more : IsDistinct nat_eq (numbers (take i opened)) → list_any (nat_eq x.0) (numbers (take i opened)) ≡ false → IsDistinct nat_eq (numbers (take (i + 1) opened))
  number_more differ none =
      subst (IsDistinct nat_eq)
      (sym (ap numbers (take_more opened i d within ∙ ap (λ y. take i opened ++ y ∷ []) (sym is)) ∙ map-append (λ (w : WinId). w.0) (take i opened) (x ∷ [])))
      (IsDistinct-push nat_eq_equiv (numbers (take i opened)) x.0 differ none)

-- one of these has the number
or_true : (a : Bool) → (a || true) ≡ true
or_true true = refl
or_true false = refl

any_at : (p : ℕ → Bool) (xs : List ℕ) (y : ℕ) (ys : List ℕ) → p y ≡ true → list_any p (xs ++ y ∷ ys) ≡ true
any_at p [] y ys e = ap (λ b. b || list_any p ys) e
any_at p (x ∷ xs) y ys e = ap (λ b. p x || b) (any_at p xs y ys e) ∙ or_true (p x)

pub among : (others : List WinId) (i : ℕ) (x d : WinId) → i < length others → x ≡ get_or others i d → (n : ℕ) → n ≡ x.0 → list_any (nat_eq n) (map (λ w. w.0) others) ≡ true
among others i x d within is n e = ap (list_any (nat_eq n)) (whole_opened others i x d within is) ∙ any_at (nat_eq n) (numbers (take i others)) x.0 (numbers (drop (i + 1) others)) ((unsigned_Decides n x.0).1 e)
