-- The text of more outputs, and the lines that a test picks out of a text.
use Rattle.std.proofs.Common.{◌≡◌, ◌≢◌, ℕ, Bool, true, false, cond, ◌==◌, ◌||◌, List, [], ◌∷◌, ◌++◌, filter, flat_map, All, refl, ap, ◌∙◌, append_assoc, append-nil, arith}
use Rattle.std.proofs.lemmas.Bool.{ne_eqb}
use Rattle.std.proofs.lemmas.List.Concat.{flat_map-append}
use Rattle.std.proofs.lemmas.List.Elements.{All-head, All-tail, All-append, All-cons, All-weaker}
use Rattle.ff_confinement.specs.Runs.{joined}
use Rattle.ff_confinement.specs.Copies.{Levels}
use Rattle.ff_confinement.specs.Text.{onto_lines, lines, first_word, pick, line_of, text_of, text_out}
use Rattle.ff_contract.specs.Lists.{Begins}
use Rattle.ff_confinement.specs.Laws.{IsOneLine, IsWord}
use Rattle.ff_confinement.proofs.Lists.{joined_push}

-- one line before a text
pub lines_of_line : (xs rest : List ℕ) → IsOneLine xs → lines ((xs ++ 10 ∷ []) ++ rest) ≡ (xs ++ 10 ∷ []) ∷ lines rest
lines_of_line [] rest single = refl
lines_of_line (x ∷ xs) rest single =
    ap (onto_lines x) (lines_of_line xs rest (All-tail (λ b. b ≢ 10) x xs single))
    ∙ ap (λ b. cond b ((x ∷ []) ∷ ((xs ++ 10 ∷ []) ∷ lines rest)) ((x ∷ (xs ++ 10 ∷ [])) ∷ lines rest)) (ne_eqb x 10 (All-head (λ b. b ≢ 10) x xs single))

-- a word with a blank behind it is the first word
pub first_word_is : (word rest : List ℕ) → IsWord word → first_word (word ++ 32 ∷ rest) ≡ word
first_word_is [] rest is_word = refl
first_word_is (x ∷ xs) rest is_word =
    let here = All-head (λ b. (b ≢ 32) × (b ≢ 10)) x xs is_word in
    ap (λ b. cond (b || x == 10) [] (x ∷ first_word (xs ++ 32 ∷ rest))) (ne_eqb x 32 here.0)
    ∙ ap (λ b. cond b [] (x ∷ first_word (xs ++ 32 ∷ rest))) (ne_eqb x 10 here.1)
    ∙ ap (λ ys. x ∷ ys) (first_word_is xs rest (All-tail (λ b. (b ≢ 32) × (b ≢ 10)) x xs is_word))

-- a word is one line, and so are two of them one behind the other
pub word_is_one_line : (bytes : List ℕ) → IsWord bytes → IsOneLine bytes
word_is_one_line bytes is_word = All-weaker (λ b. (b ≢ 32) × (b ≢ 10)) (λ b. b ≢ 10) (λ b both. both.1) bytes is_word

joined_cond : {X : Type 0} (b : Bool) (xs : List X) (xss : List (List X)) → joined (cond b (xs ∷ xss) xss) ≡ cond b xs [] ++ joined xss
joined_cond true xs xss = refl
joined_cond false xs xss = refl

-- a test of the first words of a line and more lines
pick_line : (test : List ℕ → Bool) (xs rest : List ℕ) → IsOneLine xs → pick test ((xs ++ 10 ∷ []) ++ rest) ≡ cond (test (first_word (xs ++ 10 ∷ []))) (xs ++ 10 ∷ []) [] ++ pick test rest
pick_line test xs rest single =
    ap (λ ls. joined (filter (λ line. test (first_word line)) ls)) (lines_of_line xs rest single)
    ∙ joined_cond (test (first_word (xs ++ 10 ∷ []))) (xs ++ 10 ∷ []) (filter (λ line. test (first_word line)) (lines rest))

module _ {I O : Type 0} (v : Levels I O) where
  -- the text of no output, of one, and of more
  pub text_of_none : text_of v [] ≡ []
  unfolding text_of
  text_of_none = refl

  pub text_of-cons : (o : O) (os : List O) → text_of v (o ∷ os) ≡ line_of v o ++ text_of v os
  unfolding text_of
  text_of-cons o os = refl

  pub text_of-append : (os ps : List O) → text_of v (os ++ ps) ≡ text_of v os ++ text_of v ps
  unfolding text_of
  text_of-append os ps = flat_map-append (line_of v) os ps

  pub text_of_push : (os : List O) (o : O) → text_of v (os ++ o ∷ []) ≡ text_of v os ++ line_of v o
  unfolding text_of
  text_of_push os o = flat_map-append (line_of v) os (o ∷ []) ∙ ap (λ bs. flat_map (line_of v) os ++ bs) (append-nil (line_of v o))

  pub text_of_begins : (os ps : List O) → Begins os ps → Begins (text_of v os) (text_of v ps)
  text_of_begins os ps begins = (text_of v begins.0, ap (text_of v) begins.1 ∙ text_of-append ps begins.0)

  -- the text of no entry, of one more, and of more
  pub text_out_none : text_out v [] ≡ []
  unfolding text_out text_of
  text_out_none = refl

  pub text_out_push : (oss : List (List O)) (os : List O) → text_out v (oss ++ os ∷ []) ≡ text_out v oss ++ text_of v os
  unfolding text_out
  text_out_push oss os = ap (text_of v) (joined_push oss os) ∙ text_of-append (joined oss) os

  pub text_out-append : (oss pss : List (List O)) → text_out v (oss ++ pss) ≡ text_out v oss ++ text_out v pss
  unfolding text_out
  text_out-append oss pss = ap (text_of v) (flat_map-append (λ os. os) oss pss) ∙ text_of-append (joined oss) (joined pss)

  -- The text of the output can be read back: the name of its level is a word, and it prints on one
  -- line.
  abbrev pub HasLine : O → Type 0
  HasLine o = IsWord (v.name (v.level_out o)) × IsOneLine (v.print o)

  flat_map_cond : (b : Bool) (o : O) (os : List O) → cond b (line_of v o) [] ++ flat_map (line_of v) os ≡ flat_map (line_of v) (cond b (o ∷ os) os)
  flat_map_cond true o os = refl
  flat_map_cond false o os = refl

  line_first_word : (o : O) → HasLine o → first_word (line_of v o) ≡ v.name (v.level_out o)
  line_first_word o fits =
      let word = v.name (v.level_out o) in
      ap first_word (append_assoc word (32 ∷ v.print o) (10 ∷ [])) ∙ first_word_is word (v.print o ++ 10 ∷ []) fits.0

  line_is_single : (o : O) → HasLine o → IsOneLine (v.name (v.level_out o) ++ 32 ∷ v.print o)
  line_is_single o fits =
      let word = v.name (v.level_out o) in
      All-append (λ b. b ≢ 10) word (32 ∷ v.print o) (word_is_one_line word fits.0) (All-cons (λ b. b ≢ 10) 32 (v.print o) (λ e. omega arith) fits.1)

  -- a test of names picks the lines of the outputs whose levels have names that pass
  pub pick-text_of : (test : List ℕ → Bool) (os : List O) → All HasLine os → pick test (text_of v os) ≡ text_of v (filter (λ o. test (v.name (v.level_out o))) os)
  unfolding text_of
  pick-text_of test [] fit = refl
  pick-text_of test (o ∷ os) fit =
      let here = All-head HasLine o os fit in
      let kept = filter (λ p. test (v.name (v.level_out p))) os in
      pick_line test (v.name (v.level_out o) ++ 32 ∷ v.print o) (flat_map (line_of v) os) (line_is_single o here)
      ∙ ap (λ w. cond (test w) (line_of v o) [] ++ pick test (flat_map (line_of v) os)) (line_first_word o here)
      ∙ ap (λ bs. cond (test (v.name (v.level_out o))) (line_of v o) [] ++ bs) (pick-text_of test os (All-tail HasLine o os fit))
      ∙ flat_map_cond (test (v.name (v.level_out o))) o kept
