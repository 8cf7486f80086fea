-- The entries of a finite map from which a key was removed.
use Rattle.std.proofs.Common.{◌≡◌, Bool, true, false, cond, not, Option, None, refl, sym, ap, ◌∙◌}
use Rattle.std.specs.declared.cmp.Ordering.{Ordering}
use Rattle.std.specs.Ordering.{eq_by_cmp}
use Rattle.std.specs.Cmp.{IsTotalOrder}
use Rattle.std.specs.FinMap as finmap
use Rattle.std.specs.FinMap.{FinMap, IsAntisymmetric}
use Rattle.std.specs.FinMap.Entries.{where_key, is_sorted-where_key, find-where_key}

turned : {X : Type 0} (b : Bool) (o : Option X) → cond b None o ≡ cond (not b) o None
turned true o = refl
turned false o = refl

module _ {K X : Type 0} {R : K → K → Ordering} (o : IsTotalOrder R) (a : IsAntisymmetric R) (m : FinMap R X) (k : K) where
  -- every key but one
  abbrev pub others : K → Bool
  others x = not (eq_by_cmp R x k)

  same_get : (q : K) → finmap.get (finmap.remove m k) q ≡ finmap.get (finmap.from_sorted {R = R} (where_key R others (finmap.entries m))) q
  same_get q =
      finmap.get-remove o m k q
      ∙ turned (eq_by_cmp R q k) (finmap.get m q)
      ∙ ap (λ v. cond (others q) v None) (finmap.get-entries m q)
      ∙ sym (find-where_key R others q (λ x e. ap others (sym (a q x e))) (finmap.entries m))
      ∙ sym (finmap.get-from_sorted R (where_key R others (finmap.entries m)) q (is_sorted-where_key R others (finmap.entries m) (finmap.entries_sorted m)))

  -- the entries are those of every other key
  pub entries-removed : finmap.entries (finmap.remove m k) ≡ where_key R others (finmap.entries m)
  entries-removed =
      ap finmap.entries (finmap.same_map o a (finmap.remove m k) (finmap.from_sorted (where_key R others (finmap.entries m))) same_get)
      ∙ finmap.entries-from_sorted R (where_key R others (finmap.entries m)) (is_sorted-where_key R others (finmap.entries m) (finmap.entries_sorted m))
