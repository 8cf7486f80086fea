-- What is found by its word.
use Rattle.std.proofs.Common.{◌≡◌, ◌↔◌, ℕ, Bool, true, false, List, [], ◌∷◌, Some, find, cond, refl, subst}
use Rattle.std.specs.Str.{bytes_eq}
use Rattle.std.proofs.lemmas.Slice.Eq.{bytes_eq-Decides}
use Rattle.ff_name.specs.Words.{with_word}

-- what is found passes the test
find_passes : {X : Type 0} (p : X → Bool) (xs : List X) (x : X) → find p xs ≡ Some x → p x ≡ true
find_passes p [] x e = cc
find_passes p (y ∷ ys) x e = by_test (p y) refl e (find_passes p ys x) where
  by_test : (b : Bool) → p y ≡ b → cond b (Some y) (find p ys) ≡ Some x → (find p ys ≡ Some x → p x ≡ true) → p x ≡ true
  by_test true q f later = let same : y ≡ x = cc in subst (λ z. p z ≡ true) same q
  by_test false q f later = later f

-- where each value is found by its own word, what a word finds is the value that has it
pub found_by_word : {X : Type 0} (word_of : X → List ℕ) (each : List X) → ((x : X) → with_word word_of each (word_of x) ≡ Some x) → (word : List ℕ) (x : X)
    → (with_word word_of each word ≡ Some x) ↔ (word_of x ≡ word)
found_by_word word_of each own word x = (
  λ e. (bytes_eq-Decides (word_of x) word).0 (find_passes (λ one. bytes_eq (word_of one) word) each x e),
  λ e. subst (λ w. with_word word_of each w ≡ Some x) e (own x),
)
