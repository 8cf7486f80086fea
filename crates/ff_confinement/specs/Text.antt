-- The text of outputs, its lines, and the lines that belong to a level or to the levels at or below
-- it.
use Rattle.std.specs.Prelude.{◌≡◌, ℕ, Bool, cond, ◌==◌, ◌&&◌, ◌||◌, List, [], ◌∷◌, ◌++◌, filter, flat_map, bytes_eq}
use Rattle.std.specs.List.{list_any, onto_first}
use Rattle.ff_confinement.specs.Runs.{joined}
use Rattle.ff_confinement.specs.Copies.{Levels}
use Rattle.ff_contract.specs.Lists.{below}

-- One more byte before the lines of a text: a newline (10) is a line by itself, and any other byte
-- goes onto the first line.
abbrev pub onto_lines : ℕ → List (List ℕ) → List (List ℕ)
onto_lines b more = cond (b == 10) ((b ∷ []) ∷ more) (onto_first b more)

-- The lines of a text, each with the newline that ends it. Bytes after the last newline are a line
-- too.
abbrev pub lines : List ℕ → List (List ℕ)
lines [] = []
lines (b ∷ bs) = onto_lines b (lines bs)

-- The bytes of a line up to its first blank (32) or newline.
abbrev pub first_word : List ℕ → List ℕ
first_word [] = []
first_word (b ∷ bs) = cond (b == 32 || b == 10) [] (b ∷ first_word bs)

-- The lines of the text whose first word passes the test.
abbrev pub pick : (List ℕ → Bool) → List ℕ → List ℕ
pick test text = joined (filter (λ line. test (first_word line)) (lines text))

module _ {I O : Type 0} (v : Levels I O) where
  -- The line of an output: the name of its level, a blank, the output as text, and a newline.
  abbrev pub line_of : O → List ℕ
  line_of o = (v.name (v.level_out o) ++ 32 ∷ v.print o) ++ 10 ∷ []

  -- The text of a list of outputs.
  unfoldable pub text_of : List O → List ℕ
  text_of os = flat_map line_of os

  -- The text of a run: a line for each output of each entry.
  unfoldable pub text_out : List (List O) → List ℕ
  text_out oss = text_of (joined oss)

  -- Whether the word is the name of a level at or below l.
  abbrev pub names_below : ℕ → List ℕ → Bool
  names_below l word = list_any (λ k. v.leq k l && bytes_eq (v.name k) word) (below v.count)

  -- The view of a level: the lines whose first word names a level at or below it.
  unfoldable pub view : ℕ → List ℕ → List ℕ
  view l text = pick (names_below l) text

  -- A level's own lines: those whose first word names it.
  unfoldable pub only : ℕ → List ℕ → List ℕ
  only l text = pick (bytes_eq (v.name l)) text
