-- What is said of a run over the system's own port and shelf, by what they tell.
use Rattle.std.specs.Prelude.{◌≡◌, ◌≢◌, ◌++◌, ℕ, Option, Some, List}
use Rattle.ff_io.specs.Fetched.{all_came}
use Rattle.ff_io.specs.Pieces.{Piece, put_of}
use Rattle.ff_io.specs.Port.{Told}
use Rattle.ff_io.specs.Shelf.{Fetch}
use Rattle.ff_policy.specs.Assignment.{Assignment, IsAssignment}
use Rattle.ff_status.specs.declared.status.Status.{Status}
use Rattle.ff_value.specs.declared.input.Input.{Input}
use Rattle.ff_status.specs.declared.status.TraceFault.{TraceFault}
use Rattle.ff_stream.specs.declared.end.BadLine.{BadLine}
use Rattle.ff_session.specs.Claims.{AreInputsGot}
use Rattle.ff_run.specs.Claims.{IsConfined}
use Rattle.ff_run.specs.Names.{Kind}
use Rattle.ff_run.specs.Policies.{policies}
use Rattle.ff_run.specs.Telling.{Tells}
use Rattle.ff_run.specs.Words.{Command, dash, policy_of}

-- By these fetches of the shelf.
module _ {X : Type 0} (kind : Kind X) (made : List Fetch) where
  -- The name stands for what is built in, or for what the bytes give that the shelf handed out.
  pub data IsByFetches : List ℕ → X → Type 0 where
    at_dash : (name : List ℕ) → name ≡ dash → IsByFetches name kind.built_in
    in_bytes : (name : List ℕ) (x : X) → name ≢ dash → kind.gives (all_came made) x → IsByFetches name x

  -- It stands for something of which this holds.
  pub record ByFetches (name : List ℕ) (holds : X → Type 0) : Type 0 where
    pub found : X
    pub given : IsByFetches name found
    pub held : holds found

-- What a run of a command tells over a shelf from which these fetches were made in all, and over a
-- port, by what it told before and after: under the policy that the first fetches give, by what the
-- other ones give for the second name.
pub record TellsByFetches (command : Command) (fetches : Option (List Fetch)) (before now : Told) (status : Status) : Type 0 where
  pub first : List Fetch
  pub more : List Fetch
  pub all : fetches ≡ Some (first ++ more)
  pub under : ByFetches policies first (policy_of command) (λ p. IsAssignment p × Tells (λ X kind. ByFetches kind more) command p before now status)

-- A multi-executed run under the policy of a name, over a shelf that made these fetches and a port
-- with this log: of the inputs that the bytes give which the port's reads handed out, and of the
-- bytes that its writes took, the headline holds.
pub record IsConfinedRun (name : List ℕ) (fetches : Option (List Fetch)) (log : Option (List Piece)) : Type 0 where
  pub made : List Fetch
  pub all_made : fetches ≡ Some made
  pub policy : Assignment
  pub given : IsByFetches policies made name policy
  pub valid : IsAssignment policy
  pub pieces : List Piece
  pub all : log ≡ Some pieces
  pub confined : (is : List Input) (bad : Option (BadLine TraceFault)) → AreInputsGot policy pieces is bad → IsConfined policy is (put_of pieces)
