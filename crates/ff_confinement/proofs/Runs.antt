-- The plain run and the state after it, as one more input comes.
use Rattle.std.proofs.Common.{◌≡◌, ◌+◌, List, [], ◌∷◌, ◌++◌, refl, sym, ap, ◌∙◌, add_assoc, add-zero, zero-add}
use Rattle.ff_confinement.specs.Runs.{Machine, after_from, plain_from, turns_from, after, plain, work_plain}

module _ {I O S : Type 0} (m : Machine I O S) where
  -- from any state on
  pub after_from-append : (s : S) (is js : List I) → after_from m s (is ++ js) ≡ after_from m (after_from m s is) js
  after_from-append s [] js = refl
  after_from-append s (i ∷ is) js = after_from-append (m.handle s i).after is js

  pub plain_from-append : (s : S) (is js : List I) → plain_from m s (is ++ js) ≡ plain_from m s is ++ plain_from m (after_from m s is) js
  plain_from-append s [] js = refl
  plain_from-append s (i ∷ is) js = ap (λ oss. (m.handle s i).outputs ∷ oss) (plain_from-append (m.handle s i).after is js)

  pub turns_from-append : (s : S) (is js : List I) → turns_from m s (is ++ js) ≡ turns_from m s is + turns_from m (after_from m s is) js
  turns_from-append s [] js = sym (zero-add (turns_from m s js))
  turns_from-append s (i ∷ is) js =
      ap (λ n. (m.handle s i).turns + n) (turns_from-append (m.handle s i).after is js)
      ∙ sym (add_assoc (m.handle s i).turns (turns_from m (m.handle s i).after is) (turns_from m (after_from m (m.handle s i).after is) js))

  -- the state after no input, and after one more
  pub after_start : after m [] ≡ m.start
  unfolding after
  after_start = refl

  pub after_more : (is : List I) (i : I) → after m (is ++ i ∷ []) ≡ (m.handle (after m is) i).after
  unfolding after
  after_more is i = after_from-append m.start is (i ∷ [])

  -- the plain run over no input, and over one more
  pub plain_start : plain m [] ≡ []
  unfolding plain
  plain_start = refl

  pub plain_more : (is : List I) (i : I) → plain m (is ++ i ∷ []) ≡ plain m is ++ (m.handle (after m is) i).outputs ∷ []
  unfolding plain after
  plain_more is i = plain_from-append m.start is (i ∷ [])

  -- a run over more inputs begins with the run over the first of them
  pub plain-append : (is js : List I) → plain m (is ++ js) ≡ plain m is ++ plain_from m (after m is) js
  unfolding plain after
  plain-append is js = plain_from-append m.start is js

  -- its work over no input, and over one more
  pub work_plain_start : work_plain m [] ≡ 0
  unfolding work_plain
  work_plain_start = refl

  pub work_plain_more : (is : List I) (i : I) → work_plain m (is ++ i ∷ []) ≡ work_plain m is + (m.handle (after m is) i).turns
  unfolding work_plain after
  work_plain_more is i = turns_from-append m.start is (i ∷ []) ∙ ap (λ n. turns_from m m.start is + n) (add-zero (m.handle (after_from m m.start is) i).turns)
