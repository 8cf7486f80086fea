-- Which policy a name stands for, and what is wrong with it.
use Rattle.std.specs.Prelude.{ℕ, List}
use Rattle.ff_io.specs.Shelf.{ShelfTold}
use Rattle.ff_policy.specs.Assignment.{Assignment, IsAssignment, builtin}
use Rattle.ff_policy.specs.Reading.{IsPolicyOf, IsFault}
use Rattle.ff_policy.specs.declared.fault.PolicyFault.{PolicyFault}
use Rattle.ff_status.specs.declared.status.Status.{Status}
use Rattle.ff_status.specs.declared.status.Status.TheVariants.{Policy}
use Rattle.ff_run.specs.Names.{GivenFor, Kind, StandsFor}
use Rattle.ff_run.specs.declared.policies.TheConstants.{MOST_FETCHED}

-- bytes are no policy, and a run ends so
pub data IsBadPolicy (bytes : List ℕ) : Status → Type 0 where
  faulty : (fault : PolicyFault) → IsFault bytes fault → IsBadPolicy bytes (Policy fault)

-- the policies: the built-in one, or that of a file, of which so many bytes count
abbrev pub policies : Kind Assignment
policies = record { built_in = builtin; most = MOST_FETCHED; gives = IsPolicyOf; is_bad = IsBadPolicy }

-- under the policy of this name, which is valid, this holds; where it is known what the name stands
-- for, no other policy has it
abbrev pub Under : ShelfTold → List ℕ → (Assignment → Type 0) → Type 0
Under shelf name holds = StandsFor policies shelf name (λ p. IsAssignment p × holds p)

-- under the policy that the shelf gave for this name, which is valid, this holds
abbrev pub UnderGiven : ShelfTold → ShelfTold → List ℕ → (Assignment → Type 0) → Type 0
UnderGiven before now name holds = GivenFor policies before now name (λ p. IsAssignment p × holds p)
