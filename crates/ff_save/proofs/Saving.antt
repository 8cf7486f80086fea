-- Which pools bytes are the saved text of.
use Rattle.std.proofs.Common.{◌≡◌, ◌≢◌, ◌≤◌, ℕ, Some, List, [], ◌∷◌, ◌++◌, length, All, sym, ap, subst, ◌∙◌}
use Rattle.std.specs.Str.{IsUtf8}
use Rattle.std.proofs.lemmas.List.{length-map}
use Rattle.std.proofs.lemmas.List.Elements.{All-nil, All-cons, All-head, All-tail, All-append, All-map, All-weaker}
use Rattle.ff_lattice.specs.Order.{Order, size, IsOrder}
use Rattle.ff_lattice.specs.LevelSet.{IsLevelSet}
use Rattle.ff_lattice.proofs.LevelSets.{IsLevelSet-levels_where}
use Rattle.ff_machine.specs.State.{State}
use Rattle.ff_policy.specs.Assignment.{Assignment}
use Rattle.ff_policy.specs.Printing.{printed}
use Rattle.ff_pool.specs.Classes.{class_of, tops}
use Rattle.ff_pool.specs.Pooled.{Pooled, copy_of}
use Rattle.ff_pool.specs.Restored.{IsResting, pool_recs}
use Rattle.ff_text.specs.Printed.{AreWellSpelled}
use Rattle.ff_text.specs.declared.reading.TheConstants.{MOST_BYTES}
use Rattle.ff_saved_rows.specs.Recs.{StoresRecs, stores_recs}
use Rattle.ff_saved_rows.specs.Rows.{row_items, row_text, stores_rows, IsRow}
use Rattle.ff_saved_rows.specs.declared.row.Row.{Row}
use Rattle.ff_saved_rows.specs.declared.row.Row.TheVariants as row
use Rattle.ff_saved_rows.proofs.Shallow.{IsShallow}
use Rattle.ff_saved_rows.proofs.Nested.{row_nested}
use Rattle.ff_saved_rows.proofs.Kept as kept
use Rattle.ff_save.specs.Gathered.{no_classes, browsers_of, saved_of, gathered_all, AreStored, IsTextOf, IsNoText}
use Rattle.ff_save.specs.Holding.{Held, HasText}
use Rattle.ff_save.specs.Saved.{SavedRecs, classes_rows, saved_recs, saved_rows, saved_text}
use Rattle.ff_save.specs.Whole.{IsSaved, IsOnly}
use Rattle.ff_save.specs.declared.read.TheConstants.{MOST_SAVED_BYTES}
use Rattle.ff_save.proofs.Finished.{all_stored}
use Rattle.ff_save.proofs.Grown.{GathersAll, GivesBack, rows_gathered, all_shallow}
use Rattle.ff_save.proofs.LevelRows.{class_inside}
use Rattle.ff_save.proofs.Rowed.{rows_good, rows_again}
use Rattle.ff_save.proofs.Same.{same_saved}
use Rattle.ff_save.proofs.Texts.{all_read_shallow, lines_short, rows_once}

-- the rows of classes and browsers are of a kind where those of each are
rows_are : (P : Row → Type 0) (classes : List (List ℕ)) (browsers : List StoresRecs) → All (λ class. P (row.Class class)) classes → All (λ recs. All P (stores_rows recs)) browsers → All P (classes_rows classes browsers)
rows_are P [] browsers cs bs = All-nil P
rows_are P (class ∷ classes) [] cs bs = All-nil P
rows_are P (class ∷ classes) (recs ∷ browsers) cs bs =
    All-cons P (row.Class class) (stores_rows recs ++ classes_rows classes browsers) (All-head (λ c. P (row.Class c)) class classes cs)
    (All-append P (stores_rows recs) (classes_rows classes browsers) (All-head (λ r. All P (stores_rows r)) recs browsers bs)
    (rows_are P classes browsers (All-tail (λ c. P (row.Class c)) class classes cs) (All-tail (λ r. All P (stores_rows r)) recs browsers bs)))

all_rows_are : (P : Row → Type 0) (policy : Assignment) (recs : SavedRecs) → P row.Head → P (row.Policy (printed policy)) → P row.End → All (λ class. P (row.Class class)) recs.classes → All (λ r. All P (stores_rows r)) recs.browsers → All P (saved_rows policy recs)
all_rows_are P policy recs head text end classes browsers =
    All-cons P row.Head (row.Policy (printed policy) ∷ (classes_rows recs.classes recs.browsers ++ row.End ∷ [])) head
    (All-cons P (row.Policy (printed policy)) (classes_rows recs.classes recs.browsers ++ row.End ∷ []) text
    (All-append P (classes_rows recs.classes recs.browsers) (row.End ∷ []) (rows_are P recs.classes recs.browsers classes browsers) (All-cons P row.End [] end (All-nil P))))

class_is_set : (leaders : List ℕ) (l : ℕ) → IsLevelSet (class_of leaders l)
unfolding class_of
class_is_set leaders l = IsLevelSet-levels_where _

-- the records of valid stores have good rows, that give them back
stored_rows : (order : Order) (recs : StoresRecs) → AreStored recs → All (IsRow order) (stores_rows recs)
stored_rows order recs found = subst (λ r. All (IsRow order) (stores_rows r)) found.2 (rows_good order found.0 found.1.0)

stored_again : (recs : StoresRecs) → AreStored recs → GivesBack recs
stored_again recs found = subst GivesBack found.2 (rows_again found.0 found.1.0)

module _ (policy : Assignment) (order_is : IsOrder policy.order) (utf8 : IsUtf8 (printed policy)) where
  order : Order
  order = policy.order

  -- a pool at rest
  module _ (p : Pooled) (rests : IsResting (size policy.order) policy.fuel p) where
    pub good : All (IsRow policy.order) (saved_rows policy (saved_recs p))
    good =
        all_rows_are (IsRow policy.order) policy (saved_recs p) tt utf8 tt
        (All-map (λ class. IsRow policy.order (row.Class class)) (class_of p.world.leaders) (tops p.world.leaders)
        (λ i d inside. (order_is, class_is_set p.world.leaders _, class_inside p.world.leaders _ (size policy.order) rests.levels)))
        (All-weaker AreStored (λ r. All (IsRow policy.order) (stores_rows r)) (stored_rows policy.order) (saved_recs p).browsers (all_stored p rests))

    pub gathers : GathersAll (saved_recs p) (saved_rows policy (saved_recs p))
    gathers =
        rows_gathered (printed policy) (saved_recs p)
        (length-map (tops p.world.leaders) (class_of p.world.leaders) ∙ sym (length-map (pool_recs p).browsers (λ (s : State). stores_recs s.stores) ∙ length-map (tops p.world.leaders) (λ l. (copy_of p l).state)))
        (All-weaker AreStored GivesBack stored_again (saved_recs p).browsers (all_stored p rests))

    -- its rows nest no deeper than a line may, where the records were read
    pub nested : All (λ r. All IsShallow (stores_rows r)) (saved_recs p).browsers → All (λ one. AreWellSpelled (row_items policy.order one)) (saved_rows policy (saved_recs p))
    nested shallow = λ i d inside. row_nested policy.order _ (good i d inside) (all_shallow_rows i d inside)
      where
        all_shallow_rows : All IsShallow (saved_rows policy (saved_recs p))
        all_shallow_rows = all_rows_are IsShallow policy (saved_recs p) tt tt tt (λ i d inside. tt) shallow

  -- a pool whose text the bytes are
  text_of : (bytes : List ℕ) (p : Pooled) → IsSaved policy bytes p → IsTextOf policy.order bytes (saved_rows policy (saved_recs p))
  text_of bytes p saved = record { spelled = good p saved.whole.rests; fit = saved.whole.lines; text = saved.text }

  -- there is one at most
  pub one_pool : (bytes : List ℕ) (p q : Pooled) → IsSaved policy bytes p → IsSaved policy bytes q → p ≡ q
  one_pool bytes p q first second =
      let one = gathers p first.whole.rests in
      let other = gathers q second.whole.rests in
      let same : saved_rows policy (saved_recs p) ≡ saved_rows policy (saved_recs q) = rows_once policy.order bytes (saved_rows policy (saved_recs p)) (saved_rows policy (saved_recs q)) (text_of bytes p first) (text_of bytes q second) in
      let all : Some one.all ≡ Some other.all = sym one.is ∙ ap (gathered_all no_classes) same ∙ other.is in
      let is : one.all ≡ other.all = cc in
      same_saved (size policy.order) policy.fuel p q order_is.few first.whole.rests second.whole.rests (sym one.saved ∙ ap saved_of is ∙ other.saved)

  pub no_pool : (bytes : List ℕ) → IsNoText policy.order bytes no_classes → (p : Pooled) → ¬ IsSaved policy bytes p
  no_pool bytes none p saved =
      let found = gathers p saved.whole.rests in
      none (saved_rows policy (saved_recs p)) found.all (text_of bytes p saved) found.is
      (subst (All AreStored) (sym (ap (λ (r : SavedRecs). r.browsers) found.saved)) (all_stored p saved.whole.rests))

  module _ (bytes : List ℕ) (held : Held) (text : HasText policy.order policy.fuel bytes held) where
    -- what was gathered are the records of a pool whose text the bytes are
    records_are : (p : Pooled) → IsSaved policy bytes p → saved_recs p ≡ saved_of text.all
    records_are p saved =
        let found = gathers p saved.whole.rests in
        let same : saved_rows policy (saved_recs p) ≡ text.rows = text.only (saved_rows policy (saved_recs p)) (text_of bytes p saved) in
        let all : Some found.all ≡ Some text.all = sym found.is ∙ ap (gathered_all no_classes) same ∙ text.is in
        let is : found.all ≡ text.all = cc in
        sym found.saved ∙ ap saved_of is

    pub none_restored : ((p : Pooled) → IsResting (size policy.order) policy.fuel p → saved_recs p ≢ saved_of text.all) → (p : Pooled) → ¬ IsSaved policy bytes p
    none_restored none p saved = none p saved.whole.rests (records_are p saved)

    module _ (p : Pooled) (rests : IsResting (size policy.order) policy.fuel p) (recs : saved_recs p ≡ saved_of text.all) where
      same_pool : (other : Pooled) → IsSaved policy bytes other → p ≡ other
      same_pool other saved = same_saved (size policy.order) policy.fuel p other order_is.few rests saved.whole.rests (recs ∙ sym (records_are other saved))

      pub another : ¬ (bytes ≡ saved_text policy (saved_recs p)) → (other : Pooled) → ¬ IsSaved policy bytes other
      another differs other saved = differs (saved.text ∙ ap (λ q. saved_text policy (saved_recs q)) (sym (same_pool other saved)))

      pub the_pool : length bytes ≤ MOST_SAVED_BYTES → bytes ≡ saved_text policy (saved_recs p) → IsOnly policy bytes p
      the_pool few same = record {
        saved = record {
          whole = record {
            rests = rests;
            lines = λ i d inside. record { short = short i d inside; nested = well i d inside };
            fits = subst (λ bs. length bs ≤ MOST_SAVED_BYTES) same few;
          };
          text = same;
        };
        only = same_pool;
      }
        where
          read : All IsShallow text.rows
          read = all_read_shallow policy.order bytes text.rows text.reads

          browsers : All (λ r. All IsShallow (stores_rows r)) (saved_recs p).browsers
          browsers =
              subst (All (λ r. All IsShallow (stores_rows r))) (sym (ap (λ (r : SavedRecs). r.browsers) recs))
              (All-weaker kept.AreShallow (λ r. All IsShallow (stores_rows r)) kept.rows_shallow (browsers_of text.all) (all_shallow text.rows text.all read text.is))

          well : All (λ one. AreWellSpelled (row_items policy.order one)) (saved_rows policy (saved_recs p))
          well = nested p rests browsers

          short : All (λ one. length (row_text policy.order one) ≤ MOST_BYTES) (saved_rows policy (saved_recs p))
          short = lines_short policy.order bytes text.rows (saved_rows policy (saved_recs p)) text.reads same well
