-- Two runs with `resume`, one after the other, are the unbroken one.
use Rattle.std.proofs.Common.{◌≡◌, ◌≢◌, ◌≤◌, ◌<◌, ◌+◌, ◌⊎◌, inl, inr, ℕ, true, Some, List, ◌++◌, All, length, take, sym, ap, ap₂, subst, ◌∙◌, arith, append_assoc}
use Rattle.std.proofs.lemmas.Bool.{cases_lt}
use Rattle.std.proofs.lemmas.List.{length-take-le, take_all}
use Rattle.ff_io.specs.Fetched.{IsFetched, IsFrontOf}
use Rattle.ff_io.specs.Shelf.{Files, ShelfTold}
use Rattle.ff_lattice.specs.Order.{size}
use Rattle.ff_policy.specs.Assignment.{Assignment, IsAssignment}
use Rattle.ff_pool.specs.Pooled.{Pooled}
use Rattle.ff_resume.specs.Resumed.{WasSaved, resume_duty, stand_of, standing_text}
use Rattle.ff_resume.proofs.GoingOn.{goes_on_saved, goes_on_text, goes_on_turns}
use Rattle.ff_confinement.specs.Standings.{StandAlike}
use Rattle.ff_resume.proofs.Stood.{pool_stands, text_agrees}
use Rattle.ff_save.specs.Saved.{saved_text}
use Rattle.ff_resume.proofs.Turns.{parts_turns}
use Rattle.ff_trace.specs.Lines.{IsInputOf}
use Rattle.ff_save.specs.Whole.{IsSaved, IsWhole}
use Rattle.ff_save.specs.declared.read.TheConstants as read_limits
use Rattle.ff_session.specs.Multi.{run_text, run_turns, seen_by, stands_after}
use Rattle.ff_value.specs.declared.input.Input.{Input}
use Rattle.ff_run.specs.InARow.{AreInARow}
use Rattle.ff_run.specs.Names.{Names}
use Rattle.ff_run.specs.States.{NamesState}
use Rattle.ff_run.specs.Words.{dash}
use Rattle.ff_run.specs.declared.states.TheConstants as states
use Rattle.ff_run.proofs.StateFaults.{named_rests}

-- a text of which so many bytes are as few as a saved text may have is no longer than these
all_taken : (text : List ℕ) → length (take states.MOST_FETCHED text) ≤ read_limits.MOST_SAVED_BYTES → take states.MOST_FETCHED text ≡ text
all_taken text fits = from (cases_lt states.MOST_FETCHED (length text))
  where
    from : (states.MOST_FETCHED < length text) ⊎ (length text ≤ states.MOST_FETCHED) → take states.MOST_FETCHED text ≡ text
    from (inl more) = absurd (let full = length-take-le states.MOST_FETCHED text (omega (arith, more)) in omega (arith, full, fits))
    from (inr few) = take_all states.MOST_FETCHED text few

module _ (p : Assignment) (now : ShelfTold) (files : Files) (told : now.files ≡ Some files) where
  -- the copies of a file whose bytes are a text are those whose saved text it is
  saved_by : (file text : List ℕ) (read : Pooled) → files file ≡ Some text → file ≢ dash → NamesState p now file read → IsSaved p text read
  saved_by _ text _ kept no_dash (Names.at_dash name is_dash) = absurd (no_dash is_dash)
  saved_by _ text _ kept no_dash (Names.in_file name bytes read other fetched saved) = subst (λ bytes. IsSaved p bytes read) is_text saved
    where
      front : bytes ≡ take states.MOST_FETCHED text
      front = subst (λ kept. IsFrontOf kept states.MOST_FETCHED bytes) kept (subst (λ files. IsFetched files name states.MOST_FETCHED bytes) told fetched)

      is_text : bytes ≡ text
      is_text = front ∙ all_taken text (subst (λ bytes. length bytes ≤ read_limits.MOST_SAVED_BYTES) (sym saved.text ∙ front) saved.whole.fits)

module _ (p : Assignment) (before : ShelfTold) (name : List ℕ) (from : Pooled) (is : List Input) (now : ShelfTold) (file : List ℕ) (read : Pooled) (valid : IsAssignment p) (row : AreInARow p before name from is now file read) where
  was : WasSaved p from is read
  was = record {
    rests = named_rests p before name from row.begins;
    inputs = row.inputs;
    saved = saved_by p now row.files row.told file (standing_text p (stands_after p (stand_of from) is)) read row.kept row.no_dash row.goes_on;
  }

  pub row_text : (js : List Input) → (resume_duty p (stand_of from)).text true (is ++ js) ≡ run_text p (seen_by p) (stand_of from) is ++ (resume_duty p (stand_of read)).text true js
  row_text js =
      ap₂ (λ lines state. lines ++ state) (goes_on_text p from is read valid was js) (sym (goes_on_saved p from is read valid was js))
      ∙ append_assoc (run_text p (seen_by p) (stand_of from) is) (run_text p (seen_by p) (stand_of read) js) (standing_text p (stands_after p (stand_of read) js))

  pub row_turns : (js : List Input) → run_turns p (seen_by p) (stand_of from) (is ++ js) ≡ run_turns p (seen_by p) (stand_of from) is + run_turns p (seen_by p) (stand_of read) js
  row_turns js = parts_turns p (stand_of from) is js ∙ ap (λ n. run_turns p (seen_by p) (stand_of from) is + n) (sym (goes_on_turns p from is read valid was js))

-- a text that may be a saved one is fetched whole
fetched_whole : (now : ShelfTold) (files : Files) (file text : List ℕ) → now.files ≡ Some files → files file ≡ Some text → length text ≤ read_limits.MOST_SAVED_BYTES → IsFetched now.files file states.MOST_FETCHED text
fetched_whole now files file text told kept few =
    subst (λ fs. IsFetched fs file states.MOST_FETCHED text) (sym told)
    (subst (λ content. IsFrontOf content states.MOST_FETCHED text) (sym kept) (sym (take_all states.MOST_FETCHED text (omega (arith, few)))))

-- what stands where a whole pool stands is saved as that pool
there_saved : (p : Assignment) (from there : Pooled) (is : List Input) → IsWhole p there → StandAlike (size p.order) (stand_of there) (stands_after p (stand_of from) is) → IsSaved p (standing_text p (stands_after p (stand_of from) is)) there
there_saved p from there is whole alike = record { whole = whole; text = sym (text_agrees p (stand_of there) (stands_after p (stand_of from) is) alike) ∙ ap (saved_text p) (pool_stands there whole.rests) }

pub whole_row : (p : Assignment) (before now : ShelfTold) (name file : List ℕ) (from there : Pooled) (is : List Input) (files : Files) → NamesState p before name from → All (IsInputOf p.order) is
    → IsWhole p there → StandAlike (size p.order) (stand_of there) (stands_after p (stand_of from) is)
    → now.files ≡ Some files → files file ≡ Some (standing_text p (stands_after p (stand_of from) is)) → file ≢ dash → AreInARow p before name from is now file there
whole_row p before now name file from there is files begins inputs whole alike told kept no_dash =
    let text = standing_text p (stands_after p (stand_of from) is) in
    let saved : IsSaved p text there = there_saved p from there is whole alike in
    record {
      begins = begins;
      inputs = inputs;
      files = files;
      told = told;
      kept = kept;
      no_dash = no_dash;
      goes_on = Names.in_file file text there no_dash (fetched_whole now files file text told kept (subst (λ bytes. length bytes ≤ read_limits.MOST_SAVED_BYTES) (sym saved.text) saved.whole.fits)) saved;
    }
