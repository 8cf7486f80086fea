-- Reactors, which handle an input in turns until they are quiet, and the machine that each of them
-- is.
use Rattle.std.specs.Prelude.{◌≡◌, ℕ, zero, suc, ◌+◌, ◌-◌, ◌<◌, ◌≤◌, Bool, true, false, cond, ◌⊎◌, List, [], ◌++◌, All}
use Rattle.ff_confinement.specs.Runs.{Handled, Machine}

-- What one step of a reactor gives: the outputs in order and the state after it.
pub record Stepped (O S : Type 0) : Type 0 where
  pub outputs : List O
  pub after : S

-- A reactor: the state it starts in, how a quiet state takes an input, one turn of a state that
-- isn't quiet, and which are.
pub record Reactor (I O S : Type 0) : Type 0 where
  pub start : S
  pub begin : S → I → Stepped O S
  pub turn : S → Stepped O S
  pub quiet : S → Bool

module _ {I O S : Type 0} (r : Reactor I O S) where
  -- Turns until the state is quiet, but at most `most` of them: all their outputs, the state in the
  -- end, and their number.
  abbrev pub settle : ℕ → S → Handled O S
  settle zero s = record { outputs = []; after = s; turns = 0 }
  settle (suc most) s =
      let rest = settle most (r.turn s).after in
      cond (r.quiet s) (record { outputs = []; after = s; turns = 0 }) (record { outputs = (r.turn s).outputs ++ rest.outputs; after = rest.after; turns = suc rest.turns })

  -- The machine that the reactor is: it takes the input and makes turns until it is quiet, at most
  -- `most` of them.
  abbrev pub machine_of : ℕ → Machine I O S
  machine_of most = record {
    start = r.start;
    handle = λ s i.
        let begun = r.begin s i in
        let rest = settle most begun.after in
        record { outputs = begun.outputs ++ rest.outputs; after = rest.after; turns = rest.turns };
  }

  -- From well formed states and inputs the reactor's steps give well formed states and outputs.
  pub record KeepsOk (InputOk : I → Type 0) (StateOk : S → Type 0) (OutputOk : O → Type 0) : Type 0 where
    pub start_ok : StateOk r.start
    pub begin_ok : (s : S) (i : I) → StateOk s → InputOk i → StateOk (r.begin s i).after
    pub begin_outputs : (s : S) (i : I) → StateOk s → InputOk i → All OutputOk (r.begin s i).outputs
    pub turn_ok : (s : S) → StateOk s → r.quiet s ≡ false → StateOk (r.turn s).after
    pub turn_outputs : (s : S) → StateOk s → r.quiet s ≡ false → All OutputOk (r.turn s).outputs

  -- Turns spend fuel: an input brings at most `most` of it, and each turn spends some or leaves a
  -- quiet state.
  pub record IsFuelled (fuel : S → ℕ) (most : ℕ) (InputOk : I → Type 0) (StateOk : S → Type 0) : Type 0 where
    pub brings : (s : S) (i : I) → StateOk s → InputOk i → fuel (r.begin s i).after ≤ most
    pub spends : (s : S) → StateOk s → r.quiet s ≡ false → (fuel (r.turn s).after < fuel s) ⊎ (r.quiet (r.turn s).after ≡ true)

  -- A bound on the turns that are left: none for a quiet state, else one more than its fuel.
  abbrev pub turns_left : (S → ℕ) → S → ℕ
  turns_left fuel s = cond (r.quiet s) 0 (suc (fuel s))

  -- Where a loop of turns stands that settles the state `begun` within `most` turns and puts its
  -- outputs behind `base`: it has made `turns` turns, has `so_far`, and is at the state `now`.
  -- Settling `now` in the turns that are left gives the rest.
  pub record IsSettling (most : ℕ) (begun : S) (base : List O) (now : S) (so_far : List O) (turns : ℕ) : Type 0 where
    pub within : turns ≤ most
    pub outputs_so_far : base ++ (settle most begun).outputs ≡ so_far ++ (settle (most - turns) now).outputs
    pub after_it : (settle most begun).after ≡ (settle (most - turns) now).after
    pub turns_so_far : (settle most begun).turns ≡ turns + (settle (most - turns) now).turns
