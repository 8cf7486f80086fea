-- The first fault that the members are read with is the first one in the table's order.
use Rattle.std.proofs.Common.{◌≡◌, ℕ, ◌+◌, ◌<◌, Bool, true, false, List, [], length, codes, Option, Some, None, option_map, option_and_then, is_some, Result, Ok, Err, refl, sym, ap, subst, ◌∙◌, ◌⊎◌, inl, inr, arith, below_none, below_more}
use Rattle.std.specs.Option.{ok_or, option_or}
use Rattle.std.proofs.lemmas.Bool.{true≢false, cases_lt}
use Rattle.serde_json.specs.Data.{Data}
use Rattle.serde_json.specs.Find.{get, as_str}
use Rattle.ff_policy.specs.declared.fault.PolicyFault.{PolicyFault}
use Rattle.ff_policy.specs.declared.fault.PolicyFault.TheVariants.{BadVersion, UnknownField, BadShape}
use Rattle.ff_policy.specs.declared.limits.TheConstants.{USUAL_FUEL}
use Rattle.ff_policy.specs.declared.version.Version.{Version}
use Rattle.ff_policy.specs.Members.{Plan, ◌>>=◌, texts, pairs, named, kinds, whole, member_names, first_other, version_in, other_kind, unknown_side, in_kinds, unknown_field, no_field, required, shape_or, optional, known, shaped, plan_of, plan_in}
use Rattle.ff_policy.proofs.Drafts.{step_ok}
use Rattle.ff_policy.specs.Table.{table, row_at, must, may, fits_at, IsFirstMisfit, HasMembers, HasKinds, IsKnown, IsMemberFault, bad_version, no_member, no_kind, no_side, misfit}

fault_or : {X : Type 0} → PolicyFault → Result X PolicyFault → PolicyFault
fault_or fault (Ok x) = fault
fault_or fault (Err other) = other

err_same : {X : Type 0} (a b : PolicyFault) → ◌≡◌ {A = Result X PolicyFault} (Err a) (Err b) → a ≡ b
unfolding fault_or
err_same {X} a b e = ap (fault_or a) e

-- a step that refused, or one before it that did
bound : {X Y : Type 0} (r : Result X PolicyFault) (step : X → Result Y PolicyFault) (fault : PolicyFault) → (r >>= step) ≡ Err fault → (r ≡ Err fault) ⊎ ((x : X) × (r ≡ Ok x) × (step x ≡ Err fault))
bound (Ok x) step fault e = inr (x, refl, e)
bound {X} {Y} (Err other) step fault e = inl (ap Err (err_same {X = Y} other fault e))

-- what an answer says of the shape: it fits, or it is this member's fault
Tells : {X : Type 0} → List ℕ → Bool → Result X PolicyFault → Type 0
Tells {X} name fits answer = ((x : X) → answer ≡ Ok x → fits ≡ true) × ((fault : PolicyFault) → answer ≡ Err fault → (fits ≡ false) × (fault ≡ BadShape name))

by_shape : {X : Type 0} (name : List ℕ) (found : Option X) → Tells name (is_some found) (ok_or found (BadShape name))
unfolding Tells
by_shape {X} name None = (λ x e. absurd (let no : ◌≡◌ {A = Result X PolicyFault} (Err (BadShape name)) (Ok x) = e in cc), λ fault e. (refl, sym (err_same {X = X} (BadShape name) fault e)))
by_shape {X} name (Some x) = (λ y e. refl, λ fault e. absurd (let no : ◌≡◌ {A = Result X PolicyFault} (Ok x) (Err fault) = e in cc))

required_tells : {X : Type 0} (shape : Data → Option X) (name : List ℕ) (value : Data) → Tells name (must shape (get name value)) (required shape name value)
required_tells {X} shape name value = go (get name value)
  where
    go : (found : Option Data) → Tells name (must shape found) (ok_or (option_and_then shape found) (BadShape name))
    go None = by_shape {X = X} name None
    go (Some one) = by_shape name (shape one)

optional_tells : {X : Type 0} (absent : X) (shape : Data → Option X) (name : List ℕ) (value : Data) → Tells name (may shape (get name value)) (optional absent shape name value)
optional_tells {X} absent shape name value = go (get name value)
  where
    go : (found : Option Data) → Tells name (may shape found) (ok_or (shape_or absent shape found) (BadShape name))
    go None = by_shape name (Some absent)
    go (Some one) = by_shape name (shape one)

module _ (version : Version) (value : Data) where
  AllFit : ℕ → Type 0
  AllFit n = (k : ℕ) → k < n → fits_at version value k ≡ true

  Misfits : PolicyFault → Type 0
  Misfits fault = (name : List ℕ) × (fault ≡ BadShape name) × IsFirstMisfit version value name

  -- the row at which a step refuses, where those before it fit
  at_row : {X Y : Type 0} (n : ℕ) → n < length (table version) → (r : Result X PolicyFault) (step : X → Result Y PolicyFault) (fault : PolicyFault) → Tells (row_at version n).name (fits_at version value n) r → AllFit n
      → ((x : X) → AllFit (n + 1) → step x ≡ Err fault → Misfits fault) → (r >>= step) ≡ Err fault → Misfits fault
  unfolding Tells AllFit Misfits
  at_row {X} n inside r step fault tells before after e = go (bound r step fault e)
    where
      go : (r ≡ Err fault) ⊎ ((x : X) × (r ≡ Ok x) × (step x ≡ Err fault)) → Misfits fault
      go (inl stopped) = let shown = tells.1 fault stopped in ((row_at version n).name, shown.1, record { place = n; within = inside; before = before; misfit = shown.0; is = refl })
      go (inr (x, made, rest)) = after x (below_more (λ k. fits_at version value k ≡ true) n before (tells.0 x made)) rest

  -- and where it doesn't, the row fits too
  past_row : {X Y : Type 0} (n : ℕ) (r : Result X PolicyFault) (step : X → Result Y PolicyFault) (y : Y) → Tells (row_at version n).name (fits_at version value n) r → AllFit n
      → ((x : X) → AllFit (n + 1) → step x ≡ Ok y → AllFit 7) → (r >>= step) ≡ Ok y → AllFit 7
  unfolding Tells AllFit
  past_row n r step y tells before after e = let made = step_ok r step y e in after made.0 (below_more (λ k. fits_at version value k ≡ true) n before (tells.0 made.0 made.1)) made.2

  none_before : AllFit 0
  unfolding AllFit
  none_before = below_none (λ k. fits_at version value k ≡ true)

  shaped_misfit : (fault : PolicyFault) → shaped version value ≡ Err fault → Misfits fault
  unfolding shaped
  shaped_misfit fault =
      at_row 0 (omega arith) (required texts (codes "levels") value) _ fault (required_tells texts (codes "levels") value) none_before (λ levels one.
      at_row 1 (omega arith) (optional [] pairs (codes "below") value) _ fault (optional_tells [] pairs (codes "below") value) one (λ below two.
      at_row 2 (omega arith) (required as_str (codes "ui") value) _ fault (required_tells as_str (codes "ui") value) two (λ ui three.
      at_row 3 (omega arith) (required as_str (codes "domain") value) _ fault (required_tells as_str (codes "domain") value) three (λ other four.
      at_row 4 (omega arith) (optional [] named (codes "domains") value) _ fault (optional_tells [] named (codes "domains") value) four (λ domains five.
      at_row 5 (omega arith) (optional [] (kinds version) (codes "kinds") value) _ fault (optional_tells [] (kinds version) (codes "kinds") value) five (λ named_kinds six.
      at_row 6 (omega arith) (optional USUAL_FUEL whole (codes "fuel") value) _ fault (optional_tells USUAL_FUEL whole (codes "fuel") value) six (λ fuel seven e.
      absurd (cc))))))))

  shaped_fits : (plan : Plan) → shaped version value ≡ Ok plan → AllFit 7
  unfolding shaped
  shaped_fits plan =
      past_row 0 (required texts (codes "levels") value) _ plan (required_tells texts (codes "levels") value) none_before (λ levels one.
      past_row 1 (optional [] pairs (codes "below") value) _ plan (optional_tells [] pairs (codes "below") value) one (λ below two.
      past_row 2 (required as_str (codes "ui") value) _ plan (required_tells as_str (codes "ui") value) two (λ ui three.
      past_row 3 (required as_str (codes "domain") value) _ plan (required_tells as_str (codes "domain") value) three (λ other four.
      past_row 4 (optional [] named (codes "domains") value) _ plan (optional_tells [] named (codes "domains") value) four (λ domains five.
      past_row 5 (optional [] (kinds version) (codes "kinds") value) _ plan (optional_tells [] (kinds version) (codes "kinds") value) five (λ named_kinds six.
      past_row 6 (optional USUAL_FUEL whole (codes "fuel") value) _ plan (optional_tells USUAL_FUEL whole (codes "fuel") value) six (λ fuel seven e. seven)))))))

  -- two first misfits are one
  one_misfit : (a b : List ℕ) → IsFirstMisfit version value a → IsFirstMisfit version value b → a ≡ b
  one_misfit a b one other =
      elim (cases_lt one.place other.place) as (λ _. a ≡ b) [
        | inl less ↦ absurd (true≢false (sym (other.before one.place less) ∙ one.misfit))
        | inr more ↦ elim (cases_lt other.place one.place) as (λ _. a ≡ b) [
          | inl less ↦ absurd (true≢false (sym (one.before other.place less) ∙ other.misfit))
          | inr same ↦ one.is ∙ ap (λ (k : ℕ). (row_at version k).name) (let e : one.place ≡ other.place = omega arith in e) ∙ sym other.is
        ]
      ]

  misfit_shaped : (name : List ℕ) → IsFirstMisfit version value name → shaped version value ≡ Err (BadShape name)
  unfolding AllFit Misfits
  misfit_shaped name first = go (shaped version value) refl
    where
      go : (r : Result Plan PolicyFault) → shaped version value ≡ r → shaped version value ≡ Err (BadShape name)
      go (Ok plan) is = absurd (true≢false (sym (shaped_fits plan is first.place first.within) ∙ first.misfit))
      go (Err fault) is = let found = shaped_misfit fault is in is ∙ ap Err (found.1 ∙ ap BadShape (one_misfit found.0 name found.2 first))

-- ---- the whole

module _ (value : Data) where
  after_version : (found : Option Version) → version_in value ≡ found → plan_in value ≡ (ok_or found BadVersion >>= (λ version. plan_of version value))
  unfolding plan_in
  after_version found is = ap (λ (found : Option Version). ok_or found BadVersion >>= (λ version. plan_of version value)) is

  -- what is answered where this is the first unknown field, if any
  after_field : (version : Version) → version_in value ≡ Some version → (field : Option (List ℕ)) → unknown_field version value ≡ field → plan_in value ≡ (no_field field >>= (λ _. shaped version value))
  unfolding known
  after_field version is field found = after_version (Some version) is ∙ ap (λ (field : Option (List ℕ)). no_field field >>= (λ _. shaped version value)) found

  field_is : (version : Version) (member kind side : Option (List ℕ)) → first_other member_names value ≡ member → other_kind version value ≡ kind → unknown_side version value ≡ side
      → unknown_field version value ≡ option_or member (option_map in_kinds (option_or kind side))
  field_is version member kind side members kinds sides =
      ap (λ (m : Option (List ℕ)). option_or m (option_map in_kinds (option_or (other_kind version value) (unknown_side version value)))) members
      ∙ ap (λ (k : Option (List ℕ)). option_or member (option_map in_kinds (option_or k (unknown_side version value)))) kinds
      ∙ ap (λ (s : Option (List ℕ)). option_or member (option_map in_kinds (option_or kind s))) sides

  by_member : (version : Version) (name : List ℕ) → version_in value ≡ Some version → first_other member_names value ≡ Some name → plan_in value ≡ Err (UnknownField name)
  by_member version name is members = after_field version is (Some name) (field_is version (Some name) (other_kind version value) (unknown_side version value) members refl refl)

  by_kind : (version : Version) (kind : List ℕ) → HasMembers version value → other_kind version value ≡ Some kind → plan_in value ≡ Err (UnknownField (in_kinds kind))
  by_kind version kind is kinds = after_field version is.version_is (Some (in_kinds kind)) (field_is version None (Some kind) (unknown_side version value) is.members kinds refl)

  by_side : (version : Version) (side : List ℕ) → HasKinds version value → unknown_side version value ≡ Some side → plan_in value ≡ Err (UnknownField (in_kinds side))
  by_side version side is sides = after_field version is.members.version_is (Some (in_kinds side)) (field_is version None None (Some side) is.members.members is.kinds sides)

  by_shape_of : (version : Version) → IsKnown version value → plan_in value ≡ shaped version value
  by_shape_of version is = after_field version is.kinds.members.version_is None (field_is version None None None is.kinds.members.members is.kinds.kinds is.sides)

  pub member_fault : (fault : PolicyFault) → plan_in value ≡ Err fault → IsMemberFault value fault
  unfolding Misfits
  member_fault fault e = from_version (version_in value) refl
    where
      same : (other : PolicyFault) → plan_in value ≡ Err other → other ≡ fault
      same other is = err_same {X = Plan} other fault (sym is ∙ e)

      from_side : (version : Version) → HasKinds version value → (side : Option (List ℕ)) → unknown_side version value ≡ side → IsMemberFault value fault
      from_side version kinds None sides =
          let is : IsKnown version value = record { kinds = kinds; sides = sides } in
          let found = shaped_misfit version value fault (sym (by_shape_of version is) ∙ e) in
          subst (IsMemberFault value) (sym found.1) (misfit version found.0 is found.2)
      from_side version kinds (Some side) sides = subst (IsMemberFault value) (same (UnknownField (in_kinds side)) (by_side version side kinds sides)) (no_side version side kinds sides)

      from_kind : (version : Version) → HasMembers version value → (kind : Option (List ℕ)) → other_kind version value ≡ kind → IsMemberFault value fault
      from_kind version members None kinds = from_side version (record { members = members; kinds = kinds }) (unknown_side version value) refl
      from_kind version members (Some kind) kinds = subst (IsMemberFault value) (same (UnknownField (in_kinds kind)) (by_kind version kind members kinds)) (no_kind version kind members kinds)

      from_member : (version : Version) → version_in value ≡ Some version → (member : Option (List ℕ)) → first_other member_names value ≡ member → IsMemberFault value fault
      from_member version is None members = from_kind version (record { version_is = is; members = members }) (other_kind version value) refl
      from_member version is (Some name) members = subst (IsMemberFault value) (same (UnknownField name) (by_member version name is members)) (no_member version name is members)

      from_version : (found : Option Version) → version_in value ≡ found → IsMemberFault value fault
      from_version None is = subst (IsMemberFault value) (same BadVersion (after_version None is)) (bad_version is)
      from_version (Some version) is = from_member version is (first_other member_names value) refl

  pub fault_member : (fault : PolicyFault) → IsMemberFault value fault → plan_in value ≡ Err fault
  fault_member fault (bad_version is) = after_version None is
  fault_member fault (no_member version name is members) = by_member version name is members
  fault_member fault (no_kind version kind members kinds) = by_kind version kind members kinds
  fault_member fault (no_side version side kinds sides) = by_side version side kinds sides
  fault_member fault (misfit version name is first) = by_shape_of version is ∙ misfit_shaped version value name first
