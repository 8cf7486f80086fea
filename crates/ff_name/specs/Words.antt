-- Values that have words.
use Rattle.std.specs.Prelude.{ℕ, List, Option, find, bytes_eq}

-- the first of these values that has the word
abbrev pub with_word : {X : Type 0} → (X → List ℕ) → List X → List ℕ → Option X
with_word word_of each word = find (λ one. bytes_eq (word_of one) word) each
