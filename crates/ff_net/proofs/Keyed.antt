-- Entries in no order, and the place of a key among them: what the map has at the key, and what is
-- written, put or taken out there.
use Rattle.std.proofs.Common.{◌≡◌, ℕ, ◌<◌, ◌≤◌, Bool, true, Some, None, List, [], ◌∷◌, ◌++◌, length, get_or, set, sym, ap, subst, ◌∙◌}
use Rattle.std.specs.declared.cmp.Ordering.{Ordering}
use Rattle.std.specs.Ordering.{eq_by_cmp}
use Rattle.std.specs.Cmp.{IsTotalOrder}
use Rattle.std.specs.List.{slice_get, swap_remove, position_or_len}
use Rattle.std.specs.Option.{option_map}
use Rattle.std.specs.FinMap as finmap
use Rattle.std.proofs.lemmas.Option.{slice_get_past}
use Rattle.std.proofs.lemmas.List.{get_or_default}
use Rattle.std.proofs.lemmas.List.Sums.{passes_at_first}
use Rattle.ff_net.specs.Entries.{AreApart}
use Rattle.ff_net.proofs.Finding.{found, remove_none, apart_pushed, map_pushed, apart_set, map_set, apart_removed, map_removed}

-- the first place at which a test passes that finds the key, or the length
pub record IsPlace {K X : Type 0} (R : K → K → Ordering) (rows : List (K × X)) (key : K) (i : ℕ) : Type 0 where
  pub test : K × X → Bool
  pub tests : (e : K × X) → test e ≡ eq_by_cmp R key e.0
  pub first : i ≡ position_or_len test rows

module _ {K X : Type 0} {R : K → K → Ordering} (o : IsTotalOrder R) (exact : finmap.IsAntisymmetric R) (rows : List (K × X)) (key : K) (i : ℕ) (place : IsPlace R rows key i) where
  value_is : finmap.get (finmap.from_entries {R = R} rows) key ≡ option_map (λ (e : K × X). e.1) (slice_get rows i)
  value_is = found o place.test key place.tests rows ∙ ap (λ k. option_map (λ (e : K × X). e.1) (slice_get rows k)) (sym place.first)

  -- the value there
  pub value_there : (x : K × X) → slice_get rows i ≡ Some x → finmap.get (finmap.from_entries {R = R} rows) key ≡ Some x.1
  value_there x is = value_is ∙ ap (option_map (λ (e : K × X). e.1)) is

  -- past the rows there is none
  pub no_value : length rows ≤ i → finmap.get (finmap.from_entries {R = R} rows) key ≡ None
  no_value past = value_is ∙ ap (option_map (λ (e : K × X). e.1)) (slice_get_past rows i past)

  -- taking out what isn't there changes nothing
  pub nothing_removed : length rows ≤ i → finmap.from_entries {R = R} rows ≡ finmap.remove (finmap.from_entries rows) key
  nothing_removed past = remove_none o exact (finmap.from_entries rows) key (no_value past)

  module _ (apart : AreApart R rows) where
    -- a row more
    pub apart_more : length rows ≤ i → (value : X) → AreApart R (rows ++ (key, value) ∷ [])
    apart_more past value = apart_pushed o exact rows apart key value (no_value past)

    pub put_more : length rows ≤ i → (value : X) → finmap.from_entries {R = R} (rows ++ (key, value) ∷ []) ≡ finmap.insert (finmap.from_entries rows) key value
    put_more past value = map_pushed o exact rows apart key value (no_value past)

    module _ (d : K × X) (within : i < length rows) where
      here : K × X
      here = get_or rows i d

      here_is : here ≡ get_or rows i here
      unfolding here
      here_is = get_or_default rows i d here within

      passes : eq_by_cmp R key here.0 ≡ true
      unfolding here
      passes = sym (place.tests here) ∙ rw place.first (passes_at_first place.test rows d (rw place.first at within))

      -- a row written over one of its key
      pub apart_over : (value : X) → AreApart R (set rows i (key, value))
      apart_over value = apart_set o exact rows apart i here within here_is key value passes

      pub put_over : (value : X) → finmap.from_entries {R = R} (set rows i (key, value)) ≡ finmap.insert (finmap.from_entries rows) key value
      put_over value = map_set o exact rows apart i here within here_is key value passes

      -- a row taken out
      pub apart_out : (new : List (K × X)) → ((e : K × X) → new ≡ swap_remove rows i e) → AreApart R new
      apart_out new is = subst (AreApart R) (sym (is here)) (apart_removed o exact rows apart i here within here_is)

      pub taken_out : (new : List (K × X)) → ((e : K × X) → new ≡ swap_remove rows i e) → finmap.from_entries {R = R} new ≡ finmap.remove (finmap.from_entries rows) key
      taken_out new is = ap (finmap.from_entries {R = R}) (is here) ∙ map_removed o exact rows apart i here within here_is key passes
