-- What makes levels fit a machine, and the claims on the text of a multi-executed run that then
-- hold.
use Rattle.std.specs.Prelude.{◌≡◌, ◌≢◌, ℕ, ◌<◌, true, Some, option_and_then, List, All}
use Rattle.ff_confinement.specs.Runs.{Machine, joined, plain}
use Rattle.ff_confinement.specs.Copies.{Levels, seen, at_level, multi}
use Rattle.ff_confinement.specs.Text.{text_of, text_out, view, only}

-- The bytes hold no newline.
abbrev pub IsOneLine : List ℕ → Type 0
IsOneLine bytes = All (λ b. b ≢ 10) bytes

-- The bytes hold no blank and no newline.
abbrev pub IsWord : List ℕ → Type 0
IsWord bytes = All (λ b. (b ≢ 32) × (b ≢ 10)) bytes

-- The levels fit the machine, on inputs, states and outputs that are well formed.
pub record IsLawful {I O S : Type 0} (m : Machine I O S) (v : Levels I O) (InputOk : I → Type 0) (StateOk : S → Type 0) (OutputOk : O → Type 0) : Type 0 where
  -- what the machine reaches and puts, and what a level sees, is well formed
  pub start_ok : StateOk m.start
  pub handle_ok : (s : S) (i : I) → StateOk s → InputOk i → StateOk (m.handle s i).after
  pub outputs_ok : (s : S) (i : I) → StateOk s → InputOk i → All OutputOk (m.handle s i).outputs
  pub sees_ok : (l : ℕ) (i x : I) → InputOk i → v.sees l i ≡ Some x → InputOk x
  -- what a lower level sees of an input is what it sees of that which a higher level sees of it
  pub sees_below : (k l : ℕ) (i : I) → k < v.count → l < v.count → InputOk i → v.leq k l ≡ true → v.sees k i ≡ option_and_then (v.sees k) (v.sees l i)
  -- outputs belong to a level, and their lines can be told apart by its name
  pub level_ok : (o : O) → OutputOk o → v.level_out o < v.count
  pub print_ok : (o : O) → OutputOk o → IsOneLine (v.print o)
  pub name_ok : (l : ℕ) → l < v.count → IsWord (v.name l)
  pub names_differ : (k l : ℕ) → k < v.count → l < v.count → v.name k ≡ v.name l → k ≡ l

module _ {I O S : Type 0} (m : Machine I O S) (v : Levels I O) where
  -- In the text, each level's own lines are those of the plain machine's outputs at that level, on
  -- the inputs that it sees.
  abbrev pub IsProjection : List I → List ℕ → Type 0
  IsProjection is text = (l : ℕ) → l < v.count → only v l text ≡ text_of v (at_level v l (joined (plain m (seen v l is))))

  -- The view of each level is the same on all inputs that look the same to that level.
  abbrev pub IsSecure : (I → Type 0) → List I → List ℕ → Type 0
  IsSecure InputOk is text = (l : ℕ) (js : List I) → l < v.count → All InputOk js → seen v l js ≡ seen v l is → view v l text ≡ view v l (text_out v (multi m v js))

  -- Where the plain machine's outputs at a level don't depend on what the level doesn't see, the
  -- level's own lines are those of the plain machine on all the inputs.
  abbrev pub IsPrecise : List I → List ℕ → Type 0
  IsPrecise is text = (l : ℕ) → l < v.count
      → at_level v l (joined (plain m is)) ≡ at_level v l (joined (plain m (seen v l is)))
      → only v l text ≡ text_of v (at_level v l (joined (plain m is)))

  -- Any two lists of inputs that look the same to a level give it the same view.
  abbrev pub IsNoninterfering : (I → Type 0) → Type 0
  IsNoninterfering InputOk = (l : ℕ) (is js : List I) → l < v.count → All InputOk is → All InputOk js → seen v l js ≡ seen v l is
      → view v l (text_out v (multi m v is)) ≡ view v l (text_out v (multi m v js))
