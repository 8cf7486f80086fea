-- What bytes are as a policy: the policy that they give, or the first fault in them.
use Rattle.std.specs.Prelude.{◌≡◌, ◌⊎◌, ◌<◌, ◌≤◌, ℕ, List, length, Some, None, Result, Ok, Err}
use Rattle.std.specs.Str.{IsUtf8}
use Rattle.serde_json.specs.Data.{Data}
use Rattle.serde_json.specs.Read.{read}
use Rattle.ff_lattice.specs.Order.{Order}
use Rattle.ff_lattice.specs.Levels as levels
use Rattle.ff_lattice.specs.declared.fault.LatticeFault.{LatticeFault}
use Rattle.ff_policy.specs.declared.fault.PolicyFault.{PolicyFault}
use Rattle.ff_policy.specs.declared.fault.PolicyFault.TheVariants.{TooLarge, NotJson, Levels, BadDomain, BadFuel, ContentBelowPresence}
use Rattle.ff_policy.specs.declared.limits.TheConstants.{MOST_FUEL, MOST_POLICY_BYTES}
use Rattle.ff_value.specs.Kinds.{word_of}
use Rattle.ff_value.specs.declared.kind.Kind.{Kind}
use Rattle.ff_policy.specs.Assignment.{Key, Assignment, key_at, IsKey, AreSpelled, first_unordered}
use Rattle.ff_policy.specs.Members.{Plan, plan_in}
use Rattle.ff_policy.specs.Naming.{assigned}

-- the bytes are this JSON value
pub record IsValueOf (bytes : List ℕ) (value : Data) : Type 0 where
  pub utf8 : IsUtf8 bytes
  pub is : read bytes ≡ Some value

-- the first key that is neither a domain nor a dot and a domain
pub record IsFirstNoKey (keys : List Key) (text : List ℕ) : Type 0 where
  pub place : ℕ
  pub within : place < length keys
  pub before : (k : ℕ) → k < place → IsKey (key_at keys k).key
  pub is : text ≡ (key_at keys place).key
  pub wrong : ¬ IsKey text

-- the fault of the first such key
pub data IsKeyFault (keys : List Key) : PolicyFault → Type 0 where
  no_key : (key : List ℕ) → IsFirstNoKey keys key → IsKeyFault keys (BadDomain key)

-- the fault of levels and pairs that are no lattice
pub data IsLevelsFault (plan : Plan) : PolicyFault → Type 0 where
  no_levels : (fault : LatticeFault) → levels.IsFault plan.levels plan.below fault → IsLevelsFault plan (Levels fault)

-- a policy whose levels are known, with keys that are spelled and a fuel from 1 to MOST_FUEL
pub record IsFueled (policy : Assignment) : Type 0 where
  pub spelled : AreSpelled policy.domains
  pub some_fuel : 1 ≤ policy.fuel
  pub little_fuel : policy.fuel ≤ MOST_FUEL

-- a policy whose levels are known: its keys are spelled, then its fuel is from 1 to MOST_FUEL, and
-- then the presence of each kind is at or below its content
pub data Checks (policy : Assignment) : Result Assignment PolicyFault → Type 0 where
  bad_domain : (fault : PolicyFault) → IsKeyFault policy.domains fault → Checks policy (Err fault)
  bad_fuel : AreSpelled policy.domains → (policy.fuel ≡ 0) ⊎ (MOST_FUEL < policy.fuel) → Checks policy (Err BadFuel)
  unordered : (kind : Kind) → IsFueled policy → first_unordered policy ≡ Some kind → Checks policy (Err (ContentBelowPresence (word_of kind)))
  whole : IsFueled policy → first_unordered policy ≡ None → Checks policy (Ok policy)

-- a plan over a lattice: the names that it gives are those of levels
pub data Names (order : Order) (plan : Plan) : Result Assignment PolicyFault → Type 0 where
  unknown : (fault : PolicyFault) → assigned order plan ≡ Err fault → Names order plan (Err fault)
  named : (policy : Assignment) (answer : Result Assignment PolicyFault) → assigned order plan ≡ Ok policy → Checks policy answer → Names order plan answer

-- a plan: its levels and pairs are a lattice
pub data Orders (plan : Plan) : Result Assignment PolicyFault → Type 0 where
  no_lattice : (fault : PolicyFault) → IsLevelsFault plan fault → Orders plan (Err fault)
  lattice : (order : Order) (answer : Result Assignment PolicyFault) → levels.IsLatticeOf plan.levels plan.below order → Names order plan answer → Orders plan answer

-- a JSON value: its members are those of a policy
pub data Says (value : Data) : Result Assignment PolicyFault → Type 0 where
  bad_member : (fault : PolicyFault) → plan_in value ≡ Err fault → Says value (Err fault)
  planned : (plan : Plan) (answer : Result Assignment PolicyFault) → plan_in value ≡ Ok plan → Orders plan answer → Says value answer

-- bytes: there are at most MOST_POLICY_BYTES, and they are a JSON value
pub data Reads (bytes : List ℕ) : Result Assignment PolicyFault → Type 0 where
  too_large : MOST_POLICY_BYTES < length bytes → Reads bytes (Err TooLarge)
  not_json : length bytes ≤ MOST_POLICY_BYTES → ((value : Data) → ¬ IsValueOf bytes value) → Reads bytes (Err NotJson)
  valued : (value : Data) (answer : Result Assignment PolicyFault) → length bytes ≤ MOST_POLICY_BYTES → IsValueOf bytes value → Says value answer → Reads bytes answer

-- the policy that the bytes give
abbrev pub IsPolicyOf : List ℕ → Assignment → Type 0
IsPolicyOf bytes policy = Reads bytes (Ok policy)

-- the first fault in the bytes
abbrev pub IsFault : List ℕ → PolicyFault → Type 0
IsFault bytes fault = Reads bytes (Err fault)
