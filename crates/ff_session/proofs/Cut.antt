-- The whole lines of a front of a text are the first ones of the text.
use Rattle.std.proofs.Common.{◌≡◌, ℕ, ◌==◌, Bool, true, false, cond, Option, List, [], ◌∷◌, ◌++◌, filter, refl, sym, ap, subst, ◌∙◌}
use Rattle.std.specs.List.{onto_first}
use Rattle.std.proofs.lemmas.Bool.{false≢true}
use Rattle.std.proofs.lemmas.List.Concat.{flat_map-append}
use Rattle.std.proofs.lemmas.List.Elements.{filter-append}
use Rattle.ff_io.specs.Cutting.{has_newline}
use Rattle.ff_io.specs.Fronts.{IsFront}
use Rattle.ff_io.specs.Pieces.{put_of}
use Rattle.ff_io.specs.Port.{Told}
use Rattle.ff_confinement.specs.Copies.{Levels}
use Rattle.ff_confinement.specs.Runs.{joined}
use Rattle.ff_confinement.specs.Text.{first_word, lines, names_below, pick, view}
use Rattle.ff_contract.specs.Lists.{Begins}
use Rattle.ff_policy.specs.Assignment.{Assignment}
use Rattle.ff_value.specs.declared.input.Input.{Input}
use Rattle.ff_status.specs.declared.status.Status.{Status}
use Rattle.ff_status.specs.declared.status.Status.TheVariants.{Done, Leaks, Usage, Policy, Trace, ReadFault, WriteFault, ShelfFault, NoMemory, Saved, Release}
use Rattle.ff_status.specs.declared.status.TraceFault.{TraceFault}
use Rattle.ff_stream.specs.declared.end.BadLine.{BadLine}
use Rattle.ff_session.specs.Cut.{AreFronts, IsCutShort, whole_lines}
use Rattle.ff_session.specs.Giving.{Gives}
use Rattle.ff_session.specs.Levels.{levels}
use Rattle.ff_session.specs.Multi.{multi_text}
use Rattle.ff_session.specs.Claims.{AreInputsGot, Claims}
use Rattle.ff_session.specs.Works.{Exchanged, IsWritten, multi_duty}

-- the bytes after the last newline
left_over : List ℕ → List ℕ
left_over [] = []
left_over (b ∷ bs) = cond (has_newline (b ∷ bs)) (left_over bs) (b ∷ bs)

-- where there is a newline there is a line
abbrev FirstLine : List ℕ → Type 0
FirstLine bytes = (line : List ℕ) × ((more : List (List ℕ)) × (lines bytes ≡ line ∷ more))

some_line : (b : ℕ) (bs : List ℕ) → FirstLine (b ∷ bs)
some_line b bs = from (b == 10) (lines bs)
  where
    from : (t : Bool) (rest : List (List ℕ)) → (line : List ℕ) × ((more : List (List ℕ)) × (cond t ((b ∷ []) ∷ rest) (onto_first b rest) ≡ line ∷ more))
    from true rest = (b ∷ [], (rest, refl))
    from false [] = (b ∷ [], ([], refl))
    from false (x ∷ xs) = (b ∷ x, (xs, refl))

whole_some : (bs : List ℕ) → has_newline bs ≡ true → FirstLine (whole_lines bs)
whole_some [] some = absurd (false≢true some)
whole_some (b ∷ bs) some = subst (λ t. FirstLine (cond t (b ∷ whole_lines bs) [])) (sym some) (some_line b (whole_lines bs))

onto_more : (b : ℕ) (line : List ℕ) (more xs ys : List (List ℕ)) → xs ≡ line ∷ more → onto_first b (xs ++ ys) ≡ onto_first b xs ++ ys
onto_more b line more xs ys is = ap (λ zs. onto_first b (zs ++ ys)) is ∙ sym (ap (λ zs. onto_first b zs ++ ys) is)

-- the lines of bytes and of more behind them
lines_parts : (bytes rest : List ℕ) → lines (bytes ++ rest) ≡ lines (whole_lines bytes) ++ lines (left_over bytes ++ rest)
unfolding left_over
lines_parts [] rest = refl
lines_parts (b ∷ bs) rest = from (b == 10) (has_newline bs) refl refl (lines_parts bs rest)
  where
    from : (t u : Bool) → (b == 10) ≡ t → has_newline bs ≡ u → lines (bs ++ rest) ≡ lines (whole_lines bs) ++ lines (left_over bs ++ rest)
        → cond t ((b ∷ []) ∷ lines (bs ++ rest)) (onto_first b (lines (bs ++ rest)))
        ≡ lines (cond (cond t true u) (b ∷ whole_lines bs) []) ++ lines (cond (cond t true u) (left_over bs) (b ∷ bs) ++ rest)
    from true u newline more tail =
        ap (λ ls. (b ∷ []) ∷ ls) tail
        ∙ sym (ap (λ t. cond t ((b ∷ []) ∷ lines (whole_lines bs)) (onto_first b (lines (whole_lines bs))) ++ lines (left_over bs ++ rest)) newline)
    from false true newline more tail =
        let some = whole_some bs more in
        ap (onto_first b) tail
        ∙ onto_more b some.0 some.1.0 (lines (whole_lines bs)) (lines (left_over bs ++ rest)) some.1.1
        ∙ sym (ap (λ t. cond t ((b ∷ []) ∷ lines (whole_lines bs)) (onto_first b (lines (whole_lines bs))) ++ lines (left_over bs ++ rest)) newline)
    from false false newline more tail = sym (ap (λ t. cond t ((b ∷ []) ∷ lines (bs ++ rest)) (onto_first b (lines (bs ++ rest)))) newline)

-- so what a test picks of the whole lines is the first that it picks of the text
pick_parts : (test : List ℕ → Bool) (bytes rest : List ℕ) → pick test (bytes ++ rest) ≡ pick test (whole_lines bytes) ++ pick test (left_over bytes ++ rest)
pick_parts test bytes rest =
    let passes : List ℕ → Bool = λ line. test (first_word line) in
    let front = lines (whole_lines bytes) in
    let behind = lines (left_over bytes ++ rest) in
    ap (λ ls. joined (filter passes ls)) (lines_parts bytes rest) ∙ ap joined (filter-append passes front behind)
    ∙ flat_map-append (λ ls. ls) (filter passes front) (filter passes behind)

front_view : {I O : Type 0} (v : Levels I O) (l : ℕ) (put text : List ℕ) → IsFront put text → Begins (view v l text) (view v l (whole_lines put))
unfolding view
front_view v l put text front = (pick (names_below v l) (left_over put ++ front.rest), ap (pick (names_below v l)) (sym front.joined) ∙ pick_parts (names_below v l) put front.rest)

-- what a run that was cut short has put
module _ {before now : Told} {turns_before turns_now : ℕ} (p : Assignment) (s : Status) (run : Exchanged (Gives p.order) (multi_duty p) before now turns_before turns_now s) where
  fronts : (t : Status) → IsCutShort t → IsWritten (Gives p.order) (multi_duty p) t run.pieces turns_before turns_now → (is : List Input) (bad : Option (BadLine TraceFault)) → AreInputsGot p run.pieces is bad → IsFront (put_of run.pieces) (multi_text p is)
  fronts WriteFault cut written is bad reads = let proper = (written is bad reads).0 in record { rest = proper.rest; joined = proper.joined }
  fronts NoMemory cut written is bad reads = (written is bad reads).0
  fronts Done cut written is bad reads = absurd cut
  fronts Leaks cut written is bad reads = absurd cut
  fronts (Trace number fault) cut written is bad reads = absurd cut
  fronts ReadFault cut written is bad reads = absurd cut
  fronts Usage cut written is bad reads = absurd cut
  fronts (Policy fault) cut written is bad reads = absurd cut
  fronts ShelfFault cut written is bad reads = absurd cut
  fronts (Saved fault) cut written is bad reads = absurd cut
  fronts (Release fault) cut written is bad reads = absurd cut

  pub cut_short : IsCutShort s → Claims p before now (AreFronts p)
  cut_short cut = record {
    pieces = run.pieces;
    passed = run.passed;
    held = λ is bad reads l within. front_view (levels p) l (put_of run.pieces) (multi_text p is) (fronts s cut run.written is bad reads);
  }
