-- What is held while the lines of a saved text are read, line by line.
use Rattle.std.proofs.Common.{◌≡◌, ◌≢◌, ◌≤◌, ◌<◌, ◌==◌, ℕ, Bool, true, false, Option, Some, None, Result, Ok, Err, IfOk, List, [], ◌∷◌, ◌++◌, length, map, All, ◌⊎◌, inl, inr, refl, sym, ap, subst, ◌∙◌, arith}
use Rattle.std.proofs.lemmas.List.{map-append}
use Rattle.std.proofs.lemmas.List.Elements.{All-push}
use Rattle.ff_restorable.specs.Resting.{resting}
use Rattle.ff_restorable.proofs.Rested.{resting_valid}
use Rattle.ff_io.specs.Cutting.{content, after_line}
use Rattle.ff_lattice.specs.Order.{Order}
use Rattle.ff_machine.specs.State.{State}
use Rattle.ff_machine.specs.Stores.{Stores}
use Rattle.ff_records.specs.Restored.{Restores}
use Rattle.ff_stores.specs.Restored.{AreUntouched}
use Rattle.ff_text.specs.declared.reading.TheConstants.{MOST_BYTES}
use Rattle.ff_trace.specs.declared.fault.LineFault.{LineFault}
use Rattle.ff_trace.specs.declared.fault.LineFault.TheVariants as fault
use Rattle.ff_saved_rows.specs.Drafted.{so_far}
use Rattle.ff_saved_rows.specs.Drafting.{no_recs, added, Adds}
use Rattle.ff_saved_rows.specs.Reading.{ReadsRow}
use Rattle.ff_trace.specs.Lines.{Gives}
use Rattle.ff_saved_rows.specs.Recs.{StoresRecs, stores_recs}
use Rattle.ff_saved_rows.specs.Rows.{row_text, IsRow, FitsLine}
use Rattle.ff_saved_rows.specs.declared.draft.Draft.{Draft}
use Rattle.ff_saved_rows.specs.declared.row.Row.{Row}
use Rattle.ff_saved_rows.specs.declared.row.Row.TheVariants as row
use Rattle.ff_save.specs.Gathered.{Gathered, no_classes, with_last_class, browsers_of, gathered_more, IsNoText}
use Rattle.ff_save.specs.Rest.{IsAtRest}
use Rattle.ff_save.specs.Holding.{Held, records_of, Holds, AreOfNone, IsSpoiled, Ends, Begins, IsStuck, nowhere, spoiled, AddsRow, IsLineOf, AddsLine}
use Rattle.ff_save.proofs.Grown.{with_more, other_row}
use Rattle.ff_save.proofs.Texts.{IsReading, reading_more, reading_stuck, something_left}

-- the records of the last class, which there is, are of no stores
pub spoiled_by : (fuel : ℕ) (g : Gathered) (h : Held) (recs : StoresRecs) (found : Option Stores) (empty : Bool) → Holds fuel g h → recs ≡ so_far h.draft → Restores AreUntouched stores_recs recs found → found ≡ None
    → empty ≡ (length h.classes == 0) → empty ≡ false → IsSpoiled g
spoiled_by fuel g h recs found empty holds recs_is restores none test some = from g.classes refl
  where
    of_none : AreOfNone g.last
    of_none = subst AreOfNone (recs_is ∙ holds.last) (subst (Restores AreUntouched stores_recs recs) none restores)

    from : (classes : List (List ℕ)) → g.classes ≡ classes → IsSpoiled g
    from [] e = let long = something_left h.classes empty test some in absurd (omega (arith, long, ap length (holds.classes ∙ e)))
    from (first ∷ others) e = record { first = first; others = others; some = e; none = of_none }

-- a browser with stores that have the records of the last class
one_more_rests : (fuel : ℕ) (browsers : List State) (recs : StoresRecs) (stores : Stores) (s : State) → All (IsAtRest fuel) browsers → AreUntouched stores → stores_recs stores ≡ recs → s ≡ resting fuel stores
    → All (IsAtRest fuel) (browsers ++ s ∷ []) × (map records_of (browsers ++ s ∷ []) ≡ map records_of browsers ++ recs ∷ [])
one_more_rests fuel browsers recs stores s rest are same is = (
  All-push (IsAtRest fuel) browsers s rest (record { valid = resting_valid fuel stores s are.0 are.1 is; quiet = ap (λ (t : State). t.quiet) is }),
  map-append records_of browsers (s ∷ []) ∙ ap (λ recs. map records_of browsers ++ recs ∷ []) (ap records_of is ∙ same),
)

-- the last class, which there is, has its browser
pub class_ended : (fuel : ℕ) (g : Gathered) (h new : Held) (recs : StoresRecs) (found : Option Stores) (stores : Stores) (browser : State) (empty : Bool) → Holds fuel g h → recs ≡ so_far h.draft → Restores AreUntouched stores_recs recs found → found ≡ Some stores
    → browser ≡ resting h.fuel stores → empty ≡ (length h.classes == 0) → empty ≡ false → new.fuel ≡ h.fuel → new.classes ≡ h.classes → new.browsers ≡ h.browsers ++ browser ∷ [] → so_far new.draft ≡ no_recs
    → Holds fuel (record { classes = g.classes; done = browsers_of g; last = no_recs }) new
class_ended fuel g h new recs found stores browser empty holds recs_is restores is browser_is test some fuel_is classes_are browsers_are draft_is = record {
  fuel_is = fuel_is ∙ holds.fuel_is;
  classes = classes_are ∙ holds.classes;
  browsers = ap (map records_of) browsers_are ∙ rests.1 ∙ ap (λ done. done ++ g.last ∷ []) holds.browsers ∙ sym (all_of g.classes refl);
  rest = subst (All (IsAtRest fuel)) (sym browsers_are) rests.0;
  last = draft_is;
}
  where
    made : AreUntouched stores × (stores_recs stores ≡ recs)
    made = subst (Restores AreUntouched stores_recs recs) is restores

    rests : All (IsAtRest fuel) (h.browsers ++ browser ∷ []) × (map records_of (h.browsers ++ browser ∷ []) ≡ map records_of h.browsers ++ g.last ∷ [])
    rests = one_more_rests fuel h.browsers g.last stores browser holds.rest made.0 (made.1 ∙ recs_is ∙ holds.last) (browser_is ∙ ap (λ f. resting f stores) holds.fuel_is)

    all_of : (classes : List (List ℕ)) → g.classes ≡ classes → browsers_of g ≡ g.done ++ g.last ∷ []
    all_of [] e = let long = something_left h.classes empty test some in absurd (omega (arith, long, ap length (holds.classes ∙ e)))
    all_of (first ∷ others) e = ap (λ cs. with_last_class cs g.done g.last) e

-- and one more is begun
pub class_begun : (fuel : ℕ) (g : Gathered) (levels : List ℕ) (h new : Held) → Ends fuel g true h → new.fuel ≡ h.fuel → new.classes ≡ h.classes ++ levels ∷ [] → new.browsers ≡ h.browsers → so_far new.draft ≡ so_far h.draft → Begins fuel g levels true new
class_begun fuel g levels h new ended fuel_is classes_are browsers_are draft_is = record {
  fuel_is = fuel_is ∙ ended.fuel_is;
  classes = classes_are ∙ ap (λ cs. cs ++ levels ∷ []) ended.classes;
  browsers = ap (map records_of) browsers_are ∙ ended.browsers;
  rest = subst (All (IsAtRest fuel)) (sym browsers_are) ended.rest;
  last = draft_is ∙ ended.last;
}

module _ (fuel : ℕ) (g : Gathered) where
  -- a class begun
  class_added : (levels : List ℕ) (new : Held) (found : Bool) → Begins fuel g levels found new → AddsRow fuel g (row.Class levels) found new
  class_added levels new true begins = record { more = _; is = refl; holds = begins }
  class_added levels new false begins = spoiled levels begins

  pub class_row : {E : Type 0} (one : Row) (levels : List ℕ) (new : Held) (answer : Result Bool E) → one ≡ row.Class levels → IfOk answer (λ found. Begins fuel g levels found new) → IfOk answer (λ found. AddsRow fuel g one found new)
  class_row one levels new (Ok found) is begins = subst (λ r. AddsRow fuel g r found new) (sym is) (class_added levels new found begins)
  class_row one levels new (Err refused) is begins = tt

  -- a row of the last class
  module _ (one : Row) (head : one ≢ row.Head) (policy : (text : List ℕ) → one ≢ row.Policy text) (class : (levels : List ℕ) → one ≢ row.Class levels) (end : one ≢ row.End)
      (h : Held) (holds : Holds fuel g h) (draft : Draft) where
    more_is : (o : Option StoresRecs) → added (so_far h.draft) one ≡ o → gathered_more g one ≡ with_more g o
    more_is o is = other_row g one head policy class end ∙ ap (λ r. with_more g (added r one)) (sym holds.last) ∙ ap (with_more g) is

    row_added : (found : Bool) → Adds (so_far h.draft) one found (so_far draft) → AddsRow fuel g one found (record h { draft = draft })
    row_added true adds = record { more = record g { last = so_far draft }; is = more_is (Some (so_far draft)) adds; holds = record { fuel_is = holds.fuel_is; classes = holds.classes; browsers = holds.browsers; rest = holds.rest; last = refl } }
    row_added false adds = nowhere one (more_is None adds)

    pub stores_row : {E : Type 0} (answer : Result Bool E) → IfOk answer (λ found. Adds (so_far h.draft) one found (so_far draft)) → IfOk answer (λ found. AddsRow fuel g one found (record h { draft = draft }))
    stores_row (Ok found) adds = row_added found adds
    stores_row (Err refused) adds = tt

-- a line that was read
module _ (order : Order) (fuel : ℕ) (g : Gathered) (line : List ℕ) (read : Result Row LineFault) (found : ReadsRow order line read ⊎ (read ≡ Err fault.NoMemory))
    (only : (other : Row) → IsRow order other → FitsLine order other → line ≡ row_text order other → Gives read (Ok other)) (one : Row) (is : read ≡ Ok one) (short : length line ≤ MOST_BYTES) where
  reads : ReadsRow order line read ⊎ (read ≡ Err fault.NoMemory) → ReadsRow order line (Ok one)
  reads (inl reading) = subst (ReadsRow order line) is reading
  reads (inr e) = cc

  only_one : (other : Row) → IsLineOf order line other → other ≡ one
  only_one other (spelled, fits, text) = from (only other spelled fits text)
    where
      from : Gives read (Ok other) → other ≡ one
      from (inl e) = cc
      from (inr e) = cc

  line_added : (new : Held) (b : Bool) → AddsRow fuel g one b new → AddsLine order fuel g line b new
  line_added new true adds = record { one = one; short = short; reads = reads found; only = only_one; added = adds }
  line_added new false adds = λ other of_line. subst (IsStuck g) (sym (only_one other of_line)) adds

  pub line_row : {E : Type 0} (new : Held) (answer : Result Bool E) → IfOk answer (λ b. AddsRow fuel g one b new) → IfOk answer (λ b. AddsLine order fuel g line b new)
  line_row new (Ok b) adds = line_added new b adds
  line_row new (Err refused) adds = tt

-- one line after another
module _ (order lattice : Order) (same : lattice ≡ order) (fuel : ℕ) (bytes : List ℕ) (held new : Held) (rest line more : List ℕ) (is : IsReading order fuel bytes held rest) (some : 0 < length rest) (line_is : line ≡ content rest)
    (found : Bool) (adds : (g : Gathered) → Holds held.fuel g held → AddsLine lattice held.fuel g line found new) where
  adds_here : AddsLine order fuel is.so_far line found new
  adds_here =
      subst (λ f. AddsLine order f is.so_far line found new) is.holds.fuel_is
      (subst (λ o. AddsLine o held.fuel is.so_far line found new) same
      (adds is.so_far (subst (λ f. Holds f is.so_far held) (sym is.holds.fuel_is) is.holds)))

  pub next_line : found ≡ true → more ≡ after_line rest → IsReading order fuel bytes new more
  next_line true_is more_is = reading_more order fuel bytes held new rest line more is some line_is more_is (subst (λ b. AddsLine order fuel is.so_far line b new) true_is adds_here)

  pub no_line_more : found ≡ false → IsNoText order bytes no_classes
  no_line_more false_is = reading_stuck order fuel bytes held rest line is some line_is (subst (λ b. AddsLine order fuel is.so_far line b new) false_is adds_here)
