-- Machines that take their inputs one after another, and the plain run of one over a list of
-- inputs.
use Rattle.std.specs.Prelude.{ℕ, ◌+◌, Option, Some, None, List, [], ◌∷◌, ◌++◌, flat_map}

-- What handling one input gives: the outputs in order, the state after it, and how many turns it
-- took.
pub record Handled (O S : Type 0) : Type 0 where
  pub outputs : List O
  pub after : S
  pub turns : ℕ

-- A reactive machine: the state it starts in, and what each state makes of each input.
pub record Machine (I O S : Type 0) : Type 0 where
  pub start : S
  pub handle : S → I → Handled O S

-- One entry for each input, made from the inputs before it and from the input itself.
abbrev pub entries : {I E : Type 0} → (List I → I → E) → List I → List I → List E
entries entry before [] = []
entries entry before (i ∷ is) = entry before i ∷ entries entry (before ++ i ∷ []) is

-- The lists put together in order.
abbrev pub joined : {X : Type 0} → List (List X) → List X
joined xss = flat_map (λ xs. xs) xss

-- The last list of a list of lists, or `xs` where there is none.
abbrev pub last_or : {X : Type 0} → List X → List (List X) → List X
last_or xs [] = xs
last_or xs (ys ∷ yss) = last_or ys yss

-- The last entry of a run, which is empty before the first input.
abbrev pub last_entry : {X : Type 0} → List (List X) → List X
last_entry xss = last_or [] xss

-- What a state makes of what is offered of an input: it handles it, or stays as it is where nothing
-- is.
abbrev pub handle_seen : {I O S : Type 0} → Machine I O S → S → Option I → Handled O S
handle_seen m s None = record { outputs = []; after = s; turns = 0 }
handle_seen m s (Some i) = m.handle s i

module _ {I O S : Type 0} (m : Machine I O S) where
  -- The state after the inputs, from a given state on.
  abbrev pub after_from : S → List I → S
  after_from s [] = s
  after_from s (i ∷ is) = after_from (m.handle s i).after is

  -- The outputs, one entry for each input, from a given state on.
  abbrev pub plain_from : S → List I → List (List O)
  plain_from s [] = []
  plain_from s (i ∷ is) = (m.handle s i).outputs ∷ plain_from (m.handle s i).after is

  -- The number of turns that the inputs take, from a given state on.
  abbrev pub turns_from : S → List I → ℕ
  turns_from s [] = 0
  turns_from s (i ∷ is) = (m.handle s i).turns + turns_from (m.handle s i).after is

  -- The state of the machine when it has handled the inputs.
  unfoldable pub after : List I → S
  after is = after_from m.start is

  -- The plain run: what the machine, alone, puts out for each input.
  unfoldable pub plain : List I → List (List O)
  plain is = plain_from m.start is

  -- The work of the plain run: all its turns.
  unfoldable pub work_plain : List I → ℕ
  work_plain is = turns_from m.start is
