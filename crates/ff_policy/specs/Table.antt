-- The members of a policy in the order of their table, and the first fault in them.
use Rattle.std.specs.Prelude.{◌≡◌, ℕ, ◌<◌, Bool, true, false, List, [], ◌∷◌, ◌++◌, length, get_or, codes, Option, Some, None, is_some}
use Rattle.serde_json.specs.Data.{Data}
use Rattle.serde_json.specs.Find.{get, as_str}
use Rattle.ff_policy.specs.declared.fault.PolicyFault.{PolicyFault}
use Rattle.ff_policy.specs.declared.fault.PolicyFault.TheVariants.{BadVersion, UnknownField, BadShape}
use Rattle.ff_policy.specs.declared.version.Version.{Version}
use Rattle.ff_policy.specs.Members.{texts, pairs, named, kinds, whole, member_names, first_other, version_in, other_kind, unknown_side}

-- a member: its name, and whether a policy may have this value there, or no such member
pub record Row : Type 0 where
  pub name : List ℕ
  pub fits : Option Data → Bool

-- a member that must be there and have a shape
abbrev pub must : {X : Type 0} → (Data → Option X) → Option Data → Bool
must shape None = false
must shape (Some value) = is_some (shape value)

-- a member that may be missing, and else has a shape
abbrev pub may : {X : Type 0} → (Data → Option X) → Option Data → Bool
may shape None = true
may shape (Some value) = is_some (shape value)

-- the table: arrays and objects of strings, strings, objects of what a kind's value may be, and a
-- whole number
abbrev pub table : Version → List Row
table version =
    record { name = codes "levels"; fits = must texts }
    ∷ record { name = codes "below"; fits = may pairs }
    ∷ record { name = codes "ui"; fits = must as_str }
    ∷ record { name = codes "domain"; fits = must as_str }
    ∷ record { name = codes "domains"; fits = may named }
    ∷ record { name = codes "kinds"; fits = may (kinds version) }
    ∷ record { name = codes "fuel"; fits = may whole }
    ∷ []

abbrev pub row_at : Version → ℕ → Row
row_at version place = get_or (table version) place (record { name = []; fits = λ _. true })

-- whether the value's member of this row is as the table says
abbrev pub fits_at : Version → Data → ℕ → Bool
fits_at version value place = (row_at version place).fits (get (row_at version place).name value)

-- the first member in the table's order that isn't as the table says
pub record IsFirstMisfit (version : Version) (value : Data) (name : List ℕ) : Type 0 where
  pub place : ℕ
  pub within : place < length (table version)
  pub before : (k : ℕ) → k < place → fits_at version value k ≡ true
  pub misfit : fits_at version value place ≡ false
  pub is : name ≡ (row_at version place).name

-- the value is an object of this version, and a policy may have its members
pub record HasMembers (version : Version) (value : Data) : Type 0 where
  pub version_is : version_in value ≡ Some version
  pub members : first_other member_names value ≡ None

-- and a policy of this version may have its kinds
pub record HasKinds (version : Version) (value : Data) : Type 0 where
  pub members : HasMembers version value
  pub kinds : other_kind version value ≡ None

-- and these the members of their objects
pub record IsKnown (version : Version) (value : Data) : Type 0 where
  pub kinds : HasKinds version value
  pub sides : unknown_side version value ≡ None

-- the fault in the members: the version comes first, then members that no policy has, then kinds
-- that a policy of the version doesn't have, then members that no kind's object has, then shapes
pub data IsMemberFault (value : Data) : PolicyFault → Type 0 where
  bad_version : version_in value ≡ None → IsMemberFault value BadVersion
  no_member : (version : Version) (name : List ℕ) → version_in value ≡ Some version → first_other member_names value ≡ Some name → IsMemberFault value (UnknownField name)
  no_kind : (version : Version) (kind : List ℕ) → HasMembers version value → other_kind version value ≡ Some kind → IsMemberFault value (UnknownField (codes "kinds." ++ kind))
  no_side : (version : Version) (side : List ℕ) → HasKinds version value → unknown_side version value ≡ Some side → IsMemberFault value (UnknownField (codes "kinds." ++ side))
  misfit : (version : Version) (name : List ℕ) → IsKnown version value → IsFirstMisfit version value name → IsMemberFault value (BadShape name)
