-- What the user sees of the open windows, put one after another.
use Rattle.std.proofs.Common.{◌≡◌, ℕ, ◌+◌, ◌≤◌, Bool, true, false, cond, Some, None, List, [], ◌∷◌, ◌++◌, length, drop, get_or, slice_get, refl, sym, ap, ◌∙◌, append-nil, append_assoc, arith, add-one, drop-cons, ⊎_elim}
use Rattle.std.specs.FinSet as finset
use Rattle.std.specs.Ordering.{nat_cmp}
use Rattle.std.proofs.lemmas.Bool.{cases_lt}
use Rattle.std.proofs.lemmas.Option.{get_or_from_slice_get, slice_get-get_or, slice_get_within}
use Rattle.std.proofs.lemmas.List.{drop_all}
use Rattle.ff_value.specs.declared.ids.WinId.{WinId}
use Rattle.ff_value.specs.declared.output.Out.{Out}
use Rattle.ff_value.specs.declared.output.Out.TheVariants as out
use Rattle.ff_machine.specs.Nodes as nodes
use Rattle.ff_machine.specs.Windows.{page_at, window_at}
use Rattle.ff_machine.specs.Stores.{Stores, updates_from}

-- what is put of one window at a place
abbrev pub update : Stores → ℕ → WinId → List Out
update s at w = cond (finset.contains s.touched (window_at s.windows w).page.0) (out.Updated at (nodes.shown s.nodes (page_at s.windows (window_at s.windows w).page).root) ∷ []) []

one_more : (b : Bool) (x : Out) (xs : List Out) → cond b (x ∷ xs) xs ≡ cond b (x ∷ []) [] ++ xs
one_more true x xs = refl
one_more false x xs = refl

-- a loop has put what there is of the first i open windows
pub record IsUpdating (s : Stores) (puts : List Out) (i : ℕ) (so_far : List Out) : Type 0 where
  pub done : List Out
  pub so_far_is : so_far ≡ puts ++ done
  pub total_is : updates_from s 0 s.windows.opened ≡ done ++ updates_from s i (drop i s.windows.opened)
  pub within : i ≤ length s.windows.opened

module _ (s : Stores) (puts : List Out) (i : ℕ) (so_far : List Out) (so : IsUpdating s puts i so_far) where
  -- one window more
  pub updating_more : (w : WinId) (more : List Out) → slice_get s.windows.opened i ≡ Some w → more ≡ so_far ++ update s i w → IsUpdating s puts (i + 1) more
  updating_more w more is put =
      let lt = slice_get_within s.windows.opened i w is in
      let here = get_or_from_slice_get s.windows.opened i w w is in
      let left : drop i s.windows.opened ≡ w ∷ drop (i + 1) s.windows.opened = rw (add-one, ← here) (drop-cons s.windows.opened i w lt) in
      let total = rw left at so.total_is in
      record {
        done = so.done ++ update s i w;
        so_far_is = put ∙ ap (λ os. os ++ update s i w) so.so_far_is ∙ append_assoc puts so.done (update s i w);
        total_is = total
            ∙ ap (λ os. so.done ++ os) (one_more (finset.contains s.touched (window_at s.windows w).page.0) (out.Updated i (nodes.shown s.nodes (page_at s.windows (window_at s.windows w).page).root)) (updates_from s (i + 1) (drop (i + 1) s.windows.opened)))
            ∙ sym (append_assoc so.done (update s i w) (updates_from s (i + 1) (drop (i + 1) s.windows.opened)));
        within = omega (arith, lt);
      }

  -- all were put
  pub updating_all : slice_get s.windows.opened i ≡ None → so_far ≡ puts ++ updates_from s 0 s.windows.opened
  updating_all none =
      let past : length s.windows.opened ≤ i = ⊎_elim (λ l. absurd (is_none (get_or s.windows.opened i (record { 0 = 0 })) (sym (slice_get-get_or s.windows.opened i (record { 0 = 0 }) l) ∙ none))) (λ l. l) (cases_lt i (length s.windows.opened)) in
      let left : drop i s.windows.opened ≡ [] = drop_all i s.windows.opened past in
      let total = rw left at so.total_is in
      so.so_far_is ∙ ap (λ os. puts ++ os) (sym (total ∙ append-nil so.done)) where
        is_none : (w : WinId) → Some w ≡ None → ⊥
        is_none w e = cc

-- where nothing was changed nothing is put
pub none_updated : (s : Stores) → s.touched ≡ finset.empty → (at : ℕ) (ws : List WinId) → updates_from s at ws ≡ []
none_updated s none at [] = refl
none_updated s none at (w ∷ ws) =
    let page = (window_at s.windows w).page in
    let rest = updates_from s (at + 1) ws in
    let unchanged : finset.contains s.touched page.0 ≡ false = ap (λ t. finset.contains t page.0) none ∙ finset.contains-empty nat_cmp page.0 in
    ap (λ (b : Bool). cond b (out.Updated at (nodes.shown s.nodes (page_at s.windows page).root) ∷ rest) rest) unchanged ∙ none_updated s none (at + 1) ws
