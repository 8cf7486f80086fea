-- Rows that are put one after another into a sorted map, the last row first.
use Rattle.std.proofs.Common.{◌≡◌, ℕ, ◌+◌, Some, List, [], ◌∷◌, drop, length, refl, sym, ap, ◌∙◌, arith}
use Rattle.std.specs.declared.cmp.Ordering.{Ordering}
use Rattle.std.specs.declared.cmp.Ordering.TheVariants.{Less, Equal, Greater}
use Rattle.std.specs.Ordering.{match_ordering}
use Rattle.std.specs.Cmp.{IsTotalOrder}
use Rattle.std.specs.List.{slice_get}
use Rattle.std.specs.BTreeMap.{insert_entry}
use Rattle.std.specs.FinMap as finmap
use Rattle.std.specs.FinMap.Entries.{by_order}
use Rattle.std.proofs.lemmas.List.{drop_all, drop_more}
use Rattle.std.proofs.lemmas.Option.{get_or_from_slice_get, slice_get_within}
use Rattle.ff_machine.proofs.Maps.{entries-empty}

module _ {K X : Type 0} (R : K → K → Ordering) where
  -- to insert into a sorted map is to put into a finite map
  inserted : (es : List (K × X)) (k : K) (v : X) → insert_entry R es k v ≡ finmap.put R k v es
  inserted [] k v = refl
  inserted (e ∷ es) k v =
      elim (R k e.0) as (λ r. match_ordering r ((k, v) ∷ e ∷ es) ((e.0, v) ∷ es) (e ∷ insert_entry R es k v) ≡ by_order r ((k, v) ∷ e ∷ es) ((e.0, v) ∷ es) (e ∷ finmap.put R k v es)) [
        | Less ↦ refl
        | Equal ↦ refl
        | Greater ↦ ap (λ rest. e ∷ rest) (inserted es k v)
      ]

  pub sorted_insert : IsTotalOrder R → (m : finmap.FinMap R X) (es : List (K × X)) (k : K) (v : X) → es ≡ finmap.entries m → insert_entry R es k v ≡ finmap.entries (finmap.insert m k v)
  sorted_insert o m es k v e = ap (λ (fs : List (K × X)). insert_entry R fs k v) e ∙ inserted (finmap.entries m) k v ∙ sym (finmap.entries-insert o m k v)

  -- no rows
  pub sorted_none : (rows : List (K × X)) (i : ℕ) → i ≡ length rows → [] ≡ finmap.entries (finmap.from_entries {R = R} (drop i rows))
  sorted_none rows i e = sym (ap (λ (es : List (K × X)). finmap.entries (finmap.from_entries {R = R} es)) (drop_all i rows (omega (arith, e))) ∙ entries-empty R)

  -- one row more
  pub sorted_more : IsTotalOrder R → (rows : List (K × X)) (i j : ℕ) → i + 1 ≡ j → (x : K × X) → slice_get rows i ≡ Some x
      → insert_entry R (finmap.entries (finmap.from_entries {R = R} (drop j rows))) x.0 x.1 ≡ finmap.entries (finmap.from_entries {R = R} (drop i rows))
  sorted_more o rows i j next x is =
      inserted (finmap.entries (finmap.from_entries {R = R} (drop j rows))) x.0 x.1
      ∙ sym (finmap.entries-insert o (finmap.from_entries {R = R} (drop j rows)) x.0 x.1)
      ∙ sym (ap (λ (es : List (K × X)). finmap.entries (finmap.from_entries {R = R} es)) (
      drop_more rows i x (slice_get_within rows i x is)
      ∙ ap (λ y. y ∷ drop (i + 1) rows) (get_or_from_slice_get rows i x x is)
      ∙ ap (λ k. x ∷ drop k rows) next))
