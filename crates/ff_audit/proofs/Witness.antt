-- What an audit tells of the plain browser: the multi-executed lines of a level are the plain ones
-- on what the level sees.
use Rattle.std.proofs.Common.{◌≡◌, ◌≢◌, ℕ, ◌<◌, Bool, true, false, cond, ◌==◌, append_assoc, arith, Option, Some, None, option_and_then, List, [], ◌∷◌, ◌++◌, filter, map, flat_map, All, bytes_eq, refl, sym, ap, ◌∙◌}
use Rattle.std.specs.List.{cons_option}
use Rattle.std.proofs.lemmas.Bool.{false_from_ne_true}
use Rattle.std.proofs.lemmas.List.Elements.{All-nil, All-cons, All-head, All-tail, All-append, All-weaker}
use Rattle.ff_io.specs.Cutting.{content}
use Rattle.ff_confinement.specs.Runs.{Machine, joined, plain_from, plain}
use Rattle.ff_confinement.specs.Copies.{Levels, seen, at_level, multi}
use Rattle.ff_confinement.specs.Text.{first_word, line_of, text_of, text_out}
use Rattle.ff_confinement.specs.Laws.{IsLawful}
use Rattle.ff_confinement.proofs.Fits.{has_line, multi_ok, seen_ok}
use Rattle.ff_confinement.proofs.Lists.{filter_agree_all}
use Rattle.ff_confinement.proofs.Own.{at_level-multi, copy_is_plain}
use Rattle.ff_confinement.proofs.Text.{HasLine, first_word_is, lines_of_line, word_is_one_line}
use Rattle.ff_session.specs.OwnLines.{own_contents, own_lines}
use Rattle.ff_lattice.specs.Order.{leq, size}
use Rattle.ff_value.specs.declared.input.Input.{Input}
use Rattle.ff_policy.specs.Assignment.{Assignment, IsAssignment}
use Rattle.ff_trace.specs.Lines.{IsInputOf}
use Rattle.ff_session.specs.Levels.{levels, machine}
use Rattle.ff_session.proofs.Anywhere.{named_so}
use Rattle.ff_session.proofs.Lawful.{lawful}
use Rattle.ff_audit.specs.Comparing.{differs}
use Rattle.ff_audit.proofs.Verdicts.{found_other}
use Rattle.ff_audit.specs.Audited.{plain_lines, multi_lines, verdict}

-- the lines of a text that a word heads are those of the outputs whose levels have this name
module _ {I O : Type 0} (v : Levels I O) (word : List ℕ) where
  own_lines_text : (os : List O) → All (HasLine v) os → own_lines word (text_of v os) ≡ map (line_of v) (filter (λ o. bytes_eq word (v.name (v.level_out o))) os)
  unfolding text_of
  own_lines_text [] fit = refl
  own_lines_text (o ∷ os) fit =
      let here = All-head (HasLine v) o os fit in
      let rest = flat_map (line_of v) os in
      let kept = filter (λ q. bytes_eq word (v.name (v.level_out q))) os in
      ap (filter (λ line. bytes_eq word (first_word line))) (lines_of_line (v.name (v.level_out o) ++ 32 ∷ v.print o) rest (All-append (λ b. b ≢ 10) (v.name (v.level_out o)) (32 ∷ v.print o) (word_is_one_line (v.name (v.level_out o)) here.0) (All-cons (λ b. b ≢ 10) 32 (v.print o) (λ e. omega arith) here.1)))
      ∙ ap (λ w. cond (bytes_eq word w) (line_of v o ∷ own_lines word rest) (own_lines word rest)) (ap first_word (append_assoc (v.name (v.level_out o)) (32 ∷ v.print o) (10 ∷ [])) ∙ first_word_is (v.name (v.level_out o)) (v.print o ++ 10 ∷ []) here.0)
      ∙ ap (λ ls. cond (bytes_eq word (v.name (v.level_out o))) (line_of v o ∷ ls) ls) (own_lines_text os (All-tail (HasLine v) o os fit))
      ∙ parts (bytes_eq word (v.name (v.level_out o))) o kept
    where
      parts : (b : Bool) (o : O) (kept : List O) → cond b (line_of v o ∷ map (line_of v) kept) (map (line_of v) kept) ≡ map (line_of v) (cond b (o ∷ kept) kept)
      parts true o kept = refl
      parts false o kept = refl

module _ {I O S : Type 0} {m : Machine I O S} {v : Levels I O} {InputOk : I → Type 0} {StateOk : S → Type 0} {OutputOk : O → Type 0} (law : IsLawful m v InputOk StateOk OutputOk) where
  -- what the machine puts, alone
  plain_from_ok : (s : S) (is : List I) → StateOk s → All InputOk is → All OutputOk (joined (plain_from m s is))
  plain_from_ok s [] at ok = All-nil OutputOk
  plain_from_ok s (i ∷ is) at ok =
      let here = All-head InputOk i is ok in
      All-append OutputOk (m.handle s i).outputs (joined (plain_from m (m.handle s i).after is)) (law.outputs_ok s i at here)
      (plain_from_ok (m.handle s i).after is (law.handle_ok s i at here) (All-tail InputOk i is ok))

  plain_ok : (is : List I) → All InputOk is → All OutputOk (joined (plain m is))
  unfolding plain
  plain_ok is ok = plain_from_ok m.start is law.start_ok ok

  -- a level's own lines of a text are those of the outputs at that level
  own_is : (l : ℕ) (os : List O) → l < v.count → All OutputOk os → own_contents (v.name l) (text_of v os) ≡ map content (map (line_of v) (at_level v l os))
  own_is l os lt ok =
      ap (map content) (own_lines_text v (v.name l) os (All-weaker OutputOk (HasLine v) (has_line law) os ok)
      ∙ ap (map (line_of v)) (filter_agree_all (λ o. bytes_eq (v.name l) (v.name (v.level_out o))) (λ o. v.level_out o == l) os
      (All-weaker OutputOk (λ o. bytes_eq (v.name l) (v.name (v.level_out o)) ≡ (v.level_out o == l)) (λ o good. named_so law l o lt good) os ok)))

  -- a level's own lines of the plain run depend on its outputs at that level alone
  pub plain_own : (l : ℕ) (is : List I) → l < v.count → All InputOk is → own_contents (v.name l) (text_out v (plain m is)) ≡ map content (map (line_of v) (at_level v l (joined (plain m is))))
  unfolding text_out
  plain_own l is lt ok = own_is l (joined (plain m is)) lt (plain_ok is ok)

  -- and those of the multi-executed run are those of the plain run on what the level sees
  pub multi_own : (l : ℕ) (is : List I) → l < v.count → All InputOk is → own_contents (v.name l) (text_out v (multi m v is)) ≡ own_contents (v.name l) (text_out v (plain m (seen v l is)))
  unfolding text_out
  multi_own l is lt ok =
      own_is l (joined (multi m v is)) lt (multi_ok law is ok)
      ∙ ap (λ os. map content (map (line_of v) os)) (at_level-multi m v l is lt ∙ copy_is_plain m v l is)
      ∙ sym (own_is l (joined (plain m (seen v l is))) lt (plain_ok (seen v l is) (seen_ok law l is ok)))

  -- what a level sees of what it sees is that again
  pub seen_twice : (l : ℕ) (is : List I) → l < v.count → v.leq l l ≡ true → All InputOk is → seen v l (seen v l is) ≡ seen v l is
  seen_twice l [] lt itself ok = refl
  seen_twice l (i ∷ is) lt itself ok = from (v.sees l i) refl (seen_twice l is lt itself (All-tail InputOk i is ok))
    where
      from : (o : Option I) → v.sees l i ≡ o → seen v l (seen v l is) ≡ seen v l is → seen v l (cons_option o (seen v l is)) ≡ cons_option o (seen v l is)
      from None e rest = rest
      from (Some x) e rest =
          let again = sym (law.sees_below l l i lt lt (All-head InputOk i is ok) itself ∙ ap (λ o. option_and_then (v.sees l) o) e) ∙ e in
          ap (λ o. cons_option o (seen v l (seen v l is))) again ∙ ap (λ js. x ∷ js) rest

-- the same of a policy's levels and its browser
module _ (p : Assignment) (valid : IsAssignment p) (l : ℕ) (within : l < size p.order) (is : List Input) (ok : All (IsInputOf p.order) is) where
  pub multi_is_plain_seen : multi_lines p is l ≡ plain_lines p (seen (levels p) l is) l
  multi_is_plain_seen = multi_own (lawful p valid) l is within ok

  pub plain_where_same : at_level (levels p) l (joined (plain (machine p) is)) ≡ at_level (levels p) l (joined (plain (machine p) (seen (levels p) l is))) → plain_lines p is l ≡ plain_lines p (seen (levels p) l is) l
  plain_where_same same =
      plain_own (lawful p valid) l is within ok ∙ ap (λ os. map content (map (line_of (levels p)) os)) same
      ∙ sym (plain_own (lawful p valid) l (seen (levels p) l is) within (seen_ok (lawful p valid) l is ok))

  pub seen_inputs : All (IsInputOf p.order) (seen (levels p) l is)
  seen_inputs = seen_ok (lawful p valid) l is ok

  pub seen_again : seen (levels p) l (seen (levels p) l is) ≡ seen (levels p) l is
  seen_again = seen_twice (lawful p valid) l is within (valid.draft.order_is.reflexive l within) ok

  -- where the plain browser's lines are the same on what the level sees, no difference is found
  pub none_found : plain_lines p is l ≡ plain_lines p (seen (levels p) l is) l → differs (verdict p is l) ≡ false
  none_found same = false_from_ne_true (differs (verdict p is l)) (λ some. found_other (plain_lines p is l) (multi_lines p is l) some (same ∙ sym multi_is_plain_seen))
