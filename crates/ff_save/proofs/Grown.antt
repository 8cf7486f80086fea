-- What is gathered row by row: it grows, and the rows of a pool's records give these records.
use Rattle.std.proofs.Common.{◌≡◌, ◌≢◌, ℕ, Option, Some, None, List, [], ◌∷◌, ◌++◌, length, All, refl, sym, ap, ap₂, subst, ◌∙◌, arith, append-nil, append_assoc}
use Rattle.std.proofs.lemmas.List.Elements.{All-nil, All-cons, All-head, All-tail, All-push}
use Rattle.ff_saved_rows.specs.Drafting.{no_recs, and_then, added, added_all}
use Rattle.ff_saved_rows.specs.Recs.{StoresRecs}
use Rattle.ff_saved_rows.specs.Rows.{stores_rows}
use Rattle.ff_saved_rows.specs.declared.row.Row.{Row}
use Rattle.ff_saved_rows.specs.declared.row.Row.TheVariants as row
use Rattle.ff_saved_rows.proofs.Shallow.{IsShallow}
use Rattle.ff_saved_rows.proofs.Kept.{AreShallow, none_shallow, added_shallow}
use Rattle.ff_save.specs.Gathered.{Gathered, no_classes, with_last_class, browsers_of, saved_of, gathered_more, gathered_all, AreStored}
use Rattle.ff_save.specs.Holding.{IsSpoiled, IsStuck, nowhere, spoiled}
use Rattle.ff_save.specs.Saved.{SavedRecs, classes_rows}

-- a row of one browser's stores is one of the last class
abbrev pub with_more : Gathered → Option StoresRecs → Option Gathered
with_more g o = and_then o (λ last. Some (record g { last = last }))

pub other_row : (g : Gathered) (one : Row) → one ≢ row.Head → ((text : List ℕ) → one ≢ row.Policy text) → ((levels : List ℕ) → one ≢ row.Class levels) → one ≢ row.End → gathered_more g one ≡ with_more g (added g.last one)
other_row g row.Head head policy class end = absurd (head refl)
other_row g (row.Policy text) head policy class end = absurd (policy text refl)
other_row g (row.Class levels) head policy class end = absurd (class levels refl)
other_row g row.End head policy class end = absurd (end refl)
other_row g one head policy class end = refl

row_more : (g : Gathered) (one : Row) (last : StoresRecs) → added g.last one ≡ Some last → gathered_more g one ≡ Some (record g { last = last })
row_more g row.Head last e = cc
row_more g (row.Policy text) last e = cc
row_more g (row.Class levels) last e = cc
row_more g row.End last e = cc
row_more g one last e = ap (with_more g) e

-- rows of one browser's stores
rows_more : (g : Gathered) (rows rest : List Row) (last : StoresRecs) → added_all g.last rows ≡ Some last → gathered_all g (rows ++ rest) ≡ gathered_all (record g { last = last }) rest
rows_more g [] rest last e = let same : g.last ≡ last = cc in ap (λ r. gathered_all (record g { last = r }) rest) same
rows_more g (one ∷ rows) rest last e = from (added g.last one) refl e (λ more at. rows_more (record g { last = more }) rows rest last at)
  where
    from : (o : Option StoresRecs) → added g.last one ≡ o → and_then o (λ more. added_all more rows) ≡ Some last
        → ((more : StoresRecs) → added_all more rows ≡ Some last → gathered_all (record g { last = more }) (rows ++ rest) ≡ gathered_all (record g { last = last }) rest)
        → gathered_all g ((one ∷ rows) ++ rest) ≡ gathered_all (record g { last = last }) rest
    from None is e others = cc
    from (Some more) is e others = ap (λ o. and_then o (λ next. gathered_all next (rows ++ rest))) (row_more g one more is) ∙ others more e

-- the last class is whole where there is a class
some_class : (classes : List (List ℕ)) (class : List ℕ) (done : List StoresRecs) (last : StoresRecs) → with_last_class (classes ++ class ∷ []) done last ≡ done ++ last ∷ []
some_class [] class done last = refl
some_class (first ∷ classes) class done last = refl

-- a class begun
abbrev begun : Gathered → List ℕ → Gathered
begun g class = record { classes = g.classes ++ class ∷ []; done = browsers_of g; last = no_recs }

-- the rows of classes, each with the rows of its browser
record AllClasses (g : Gathered) (classes : List (List ℕ)) (browsers : List StoresRecs) (rest : List Row) : Type 0 where
  more : Gathered
  is : gathered_all g (classes_rows classes browsers ++ rest) ≡ gathered_all more rest
  saved : saved_of more ≡ record { classes = g.classes ++ classes; browsers = browsers_of g ++ browsers }

abbrev pub GivesBack : StoresRecs → Type 0
GivesBack recs = added_all no_recs (stores_rows recs) ≡ Some recs

all_classes : (g : Gathered) (classes : List (List ℕ)) (browsers : List StoresRecs) (rest : List Row) → length classes ≡ length browsers → All GivesBack browsers → AllClasses g classes browsers rest
all_classes g [] [] rest count again = record { more = g; is = refl; saved = ap₂ (λ cs bs. record { classes = cs; browsers = bs }) (sym (append-nil g.classes)) (sym (append-nil (browsers_of g))) }
all_classes g [] (recs ∷ browsers) rest count again = absurd (omega (arith, count))
all_classes g (class ∷ classes) [] rest count again = absurd (omega (arith, count))
all_classes g (class ∷ classes) (recs ∷ browsers) rest count again =
    let next : Gathered = record (begun g class) { last = recs } in
    let others = all_classes next classes browsers rest (omega (arith, count)) (All-tail GivesBack recs browsers again) in
    record {
      more = others.more;
      is =
          ap (λ rows. gathered_all (begun g class) rows) (append_assoc (stores_rows recs) (classes_rows classes browsers) rest)
          ∙ rows_more (begun g class) (stores_rows recs) (classes_rows classes browsers ++ rest) recs (All-head GivesBack recs browsers again)
          ∙ others.is;
      saved =
          others.saved
          ∙ ap₂ (λ cs bs. record { classes = cs; browsers = bs }) (append_assoc g.classes (class ∷ []) classes)
          (ap (λ bs. bs ++ browsers) (some_class g.classes class (browsers_of g) recs) ∙ append_assoc (browsers_of g) (recs ∷ []) browsers);
    }

pub record GathersAll (recs : SavedRecs) (rows : List Row) : Type 0 where
  pub all : Gathered
  pub is : gathered_all no_classes rows ≡ Some all
  pub saved : saved_of all ≡ recs

pub rows_gathered : (text : List ℕ) (recs : SavedRecs) → length recs.classes ≡ length recs.browsers → All GivesBack recs.browsers
    → GathersAll recs (row.Head ∷ row.Policy text ∷ (classes_rows recs.classes recs.browsers ++ row.End ∷ []))
rows_gathered text recs count again =
    let found = all_classes no_classes recs.classes recs.browsers (row.End ∷ []) count again in
    record { all = found.more; is = found.is; saved = found.saved }

-- what is gathered grows
record Grows (old new : Gathered) : Type 0 where
  more : List StoresRecs
  is : new.done ≡ old.done ++ more

grows_same : (old new : Gathered) → old.done ≡ new.done → Grows old new
grows_same old new same = record { more = []; is = sym same ∙ sym (append-nil old.done) }

last_grows : (g : Gathered) (o : Option StoresRecs) (next : Gathered) → with_more g o ≡ Some next → Grows g next
last_grows g None next e = cc
last_grows g (Some last) next e = let is : record g { last = last } ≡ next = cc in grows_same g next (ap (λ (x : Gathered). x.done) is)

class_more : (classes : List (List ℕ)) (done : List StoresRecs) (last : StoresRecs) → (more : List StoresRecs) × (with_last_class classes done last ≡ done ++ more)
class_more [] done last = ([], sym (append-nil done))
class_more (first ∷ others) done last = (last ∷ [], refl)

row_grows : (g : Gathered) (one : Row) (next : Gathered) → gathered_more g one ≡ Some next → Grows g next
row_grows g row.Head next e = let is : g ≡ next = cc in grows_same g next (ap (λ (x : Gathered). x.done) is)
row_grows g (row.Policy text) next e = let is : g ≡ next = cc in grows_same g next (ap (λ (x : Gathered). x.done) is)
row_grows g row.End next e = let is : g ≡ next = cc in grows_same g next (ap (λ (x : Gathered). x.done) is)
row_grows g (row.Class levels) next e =
    let is : begun g levels ≡ next = cc in
    let by = class_more g.classes g.done g.last in
    record { more = by.0; is = sym (ap (λ (x : Gathered). x.done) is) ∙ by.1 }
row_grows g one next e = last_grows g (added g.last one) next e

all_grow : (g : Gathered) (rows : List Row) (all : Gathered) → gathered_all g rows ≡ Some all → Grows g all
all_grow g [] all e = let is : g ≡ all = cc in grows_same g all (ap (λ (x : Gathered). x.done) is)
all_grow g (one ∷ rows) all e = from (gathered_more g one) refl e (λ next at. all_grow next rows all at)
  where
    from : (o : Option Gathered) → gathered_more g one ≡ o → and_then o (λ next. gathered_all next rows) ≡ Some all → ((next : Gathered) → gathered_all next rows ≡ Some all → Grows next all) → Grows g all
    from None at e others = cc
    from (Some next) at e others =
        let first = row_grows g one next at in
        let rest = others next e in
        record { more = first.more ++ rest.more; is = rest.is ∙ ap (λ ds. ds ++ rest.more) first.is ∙ append_assoc g.done first.more rest.more }

-- what all of two lists have, each of them has
front_of : {X : Type 0} (P : X → Type 0) (xs ys : List X) → All P (xs ++ ys) → All P xs
front_of P [] ys all = All-nil P
front_of P (x ∷ xs) ys all = All-cons P x xs (All-head P x (xs ++ ys) all) (front_of P xs ys (All-tail P x (xs ++ ys) all))

back_of : {X : Type 0} (P : X → Type 0) (xs ys : List X) → All P (xs ++ ys) → All P ys
back_of P [] ys all = all
back_of P (x ∷ xs) ys all = back_of P xs ys (All-tail P x (xs ++ ys) all)

-- what all browsers have, those that are done have
done_have : (P : StoresRecs → Type 0) (classes : List (List ℕ)) (done : List StoresRecs) (last : StoresRecs) → All P (with_last_class classes done last) → All P done
done_have P [] done last all = all
done_have P (class ∷ classes) done last all = front_of P done (last ∷ []) all

-- a row that can't come next comes in no saved text
pub stuck_fails : (g : Gathered) (one : Row) (rows : List Row) (all : Gathered) → IsStuck g one → gathered_all g (one ∷ rows) ≡ Some all → All AreStored (browsers_of all) → ⊥
stuck_fails g _ rows all (nowhere one none) e stored = let no : None ≡ Some all = sym (ap (λ o. and_then o (λ next. gathered_all next rows)) none) ∙ e in cc
stuck_fails g _ rows all (spoiled levels bad) e stored =
    let grown = all_grow (begun g levels) rows all e in
    let ended : browsers_of g ≡ g.done ++ g.last ∷ [] = ap (λ cs. with_last_class cs g.done g.last) bad.some in
    let done : All AreStored ((g.done ++ g.last ∷ []) ++ grown.more) = subst (All AreStored) (grown.is ∙ ap (λ ds. ds ++ grown.more) ended) (done_have AreStored all.classes all.done all.last stored) in
    let last = back_of AreStored g.done (g.last ∷ []) (front_of AreStored (g.done ++ g.last ∷ []) grown.more done) in
    let found = All-head AreStored g.last [] last in
    bad.none found.0 found.1 found.2

-- the last class's records, too, have no stores where it is spoiled
pub spoiled_fails : (g : Gathered) → IsSpoiled g → All AreStored (browsers_of g) → ⊥
spoiled_fails g bad stored =
    let ended : browsers_of g ≡ g.done ++ g.last ∷ [] = ap (λ cs. with_last_class cs g.done g.last) bad.some in
    let found = All-head AreStored g.last [] (back_of AreStored g.done (g.last ∷ []) (subst (All AreStored) ended stored)) in
    bad.none found.0 found.1 found.2

-- rows whose functions stand in few lists give records that are so
pub record IsShallowAll (g : Gathered) : Type 0 where
  pub done : All AreShallow g.done
  pub last : AreShallow g.last

ended_shallow : (classes : List (List ℕ)) (done : List StoresRecs) (last : StoresRecs) → All AreShallow done → AreShallow last → All AreShallow (with_last_class classes done last)
ended_shallow [] done last all one = all
ended_shallow (class ∷ classes) done last all one = All-push AreShallow done last all one

pub browsers_shallow : (g : Gathered) → IsShallowAll g → All AreShallow (browsers_of g)
browsers_shallow g are = ended_shallow g.classes g.done g.last are.done are.last

last_shallow : (g : Gathered) (one : Row) (next : Gathered) → IsShallow one → IsShallowAll g → with_more g (added g.last one) ≡ Some next → IsShallowAll next
last_shallow g one next is are e = from (added g.last one) refl e
  where
    from : (o : Option StoresRecs) → added g.last one ≡ o → with_more g o ≡ Some next → IsShallowAll next
    from None at e = cc
    from (Some last) at e =
        let same : record g { last = last } ≡ next = cc in
        subst IsShallowAll same (record { done = are.done; last = added_shallow g.last one last are.last is at })

row_shallow : (g : Gathered) (one : Row) (next : Gathered) → IsShallow one → IsShallowAll g → gathered_more g one ≡ Some next → IsShallowAll next
row_shallow g row.Head next is are e = let same : g ≡ next = cc in subst IsShallowAll same are
row_shallow g (row.Policy text) next is are e = let same : g ≡ next = cc in subst IsShallowAll same are
row_shallow g row.End next is are e = let same : g ≡ next = cc in subst IsShallowAll same are
row_shallow g (row.Class levels) next is are e =
    let same : begun g levels ≡ next = cc in subst IsShallowAll same (record { done = browsers_shallow g are; last = none_shallow })
row_shallow g one next is are e = last_shallow g one next is are e

rows_shallow : (g : Gathered) (rows : List Row) (all : Gathered) → All IsShallow rows → IsShallowAll g → gathered_all g rows ≡ Some all → IsShallowAll all
rows_shallow g [] all is are e = let same : g ≡ all = cc in subst IsShallowAll same are
rows_shallow g (one ∷ rows) all is are e = from (gathered_more g one) refl e (λ next good at. rows_shallow next rows all (All-tail IsShallow one rows is) good at)
  where
    from : (o : Option Gathered) → gathered_more g one ≡ o → and_then o (λ next. gathered_all next rows) ≡ Some all → ((next : Gathered) → IsShallowAll next → gathered_all next rows ≡ Some all → IsShallowAll all) → IsShallowAll all
    from None at e others = cc
    from (Some next) at e others = others next (row_shallow g one next (All-head IsShallow one rows is) are at) e

pub all_shallow : (rows : List Row) (all : Gathered) → All IsShallow rows → gathered_all no_classes rows ≡ Some all → All AreShallow (browsers_of all)
all_shallow rows all is e = browsers_shallow all (rows_shallow no_classes rows all is (record { done = All-nil AreShallow; last = none_shallow }) e)
