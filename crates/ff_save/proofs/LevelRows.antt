-- The rows of a pool's classes, level by level.
use Rattle.std.proofs.Common.{◌≡◌, ◌≢◌, ◌<◌, ◌≤◌, ◌+◌, ◌==◌, ◌&&◌, ℕ, Bool, true, false, cond, nat_lt, List, [], ◌∷◌, ◌++◌, length, map, filter, flat_map, All, refl, sym, ap, subst, ◌∙◌, ◌⊎◌, inl, inr, arith, append-nil, add-one}
use Rattle.std.proofs.lemmas.Bool.{cases_lt, eq-eqb, eqb-true, ne_eqb, and_parts}
use Rattle.std.proofs.lemmas.Bool.Decides.{nat_tests}
use Rattle.std.proofs.lemmas.List.Concat.{flat_map-append}
use Rattle.std.proofs.lemmas.List.Elements.{All-weaker, filter_passes}
use Rattle.std.specs.Prelude.{IsTrue}
use Rattle.ff_lattice.specs.LevelSet.{has, levels_where, IsLeast}
use Rattle.ff_lattice.specs.LevelSet as level_set
use Rattle.ff_lattice.specs.Order.{Order, size}
use Rattle.ff_lattice.specs.declared.names.TheConstants.{MOST_LEVELS}
use Rattle.ff_machine.specs.State.{State}
use Rattle.ff_machine.specs.Stores.{Stores}
use Rattle.ff_policy.specs.Assignment.{Assignment}
use Rattle.ff_policy.specs.Printing.{printed}
use Rattle.ff_pool.specs.Classes.{class_of, leads}
use Rattle.ff_pool.specs.Pooled.{Pooled, copy_of}
use Rattle.ff_pool.proofs.Leaders.{has_class}
use Rattle.ff_printing.specs.Pieces.{Prints}
use Rattle.ff_printing.specs.declared.printer.Printer.{Printer}
use Rattle.ff_printing.proofs.Printing.{then, nothing, prints_as}
use Rattle.ff_contract.specs.Lists.{below}
use Rattle.ff_confinement.specs.Worlds.{leader, AreLeaders}
use Rattle.ff_saved_rows.specs.Recs.{stores_recs}
use Rattle.ff_saved_rows.specs.Rows.{row_line, rows_text, stores_rows}
use Rattle.ff_saved_rows.specs.declared.row.Row.TheVariants as row
use Rattle.ff_save.specs.LevelByLevel.{level_rows}
use Rattle.ff_save.specs.Saved.{classes_rows, saved_recs, saved_rows}
use Rattle.ff_save.proofs.RowByRow.{rows_then, one_row}

-- the rows over some levels: those of each that leads
module _ (p : Pooled) where
  rows_over : (ls : List ℕ) → classes_rows (map (class_of p.world.leaders) (filter (leads p.world.leaders) ls)) (map (λ (s : State). stores_recs s.stores) (map (λ l. (copy_of p l).state) (filter (leads p.world.leaders) ls))) ≡ flat_map (level_rows p) ls
  rows_over [] = refl
  rows_over (l ∷ ls) = from (leads p.world.leaders l) (rows_over ls)
    where
      others : List ℕ
      others = filter (leads p.world.leaders) ls

      from : (b : Bool)
          → classes_rows (map (class_of p.world.leaders) others) (map (λ (s : State). stores_recs s.stores) (map (λ m. (copy_of p m).state) others)) ≡ flat_map (level_rows p) ls
          → classes_rows (map (class_of p.world.leaders) (cond b (l ∷ others) others)) (map (λ (s : State). stores_recs s.stores) (map (λ m. (copy_of p m).state) (cond b (l ∷ others) others)))
          ≡ cond b (row.Class (class_of p.world.leaders l) ∷ stores_rows (stores_recs (copy_of p l).state.stores)) [] ++ flat_map (level_rows p) ls
      from true rest = ap (λ rows. row.Class (class_of p.world.leaders l) ∷ (stores_rows (stores_recs (copy_of p l).state.stores) ++ rows)) rest
      from false rest = rest

  pub rows_by_level : classes_rows (saved_recs p).classes (saved_recs p).browsers ≡ flat_map (level_rows p) (below (length p.world.leaders))
  rows_by_level = rows_over (below (length p.world.leaders))

-- the least level of a level's class is its leader
pub least_leads : (leaders : List ℕ) → AreLeaders leaders → length leaders ≤ MOST_LEVELS → (l m : ℕ) → l < length leaders → IsLeast (class_of leaders l) m → m ≡ leader leaders l
least_leads leaders are few l m inside least = from (cases_lt m top) (cases_lt top m)
  where
    top : ℕ
    top = leader leaders l

    top_in : top < length leaders
    top_in = let down = are.before l inside in omega (arith, down, inside)

    itself : leader leaders top ≡ leader leaders l
    itself = are.itself l inside

    from : (m < top) ⊎ (top ≤ m) → (top < m) ⊎ (m ≤ top) → m ≡ top
    from (inl less) _ =
        let held : leader leaders m ≡ leader leaders l = eqb-true (leader leaders m) (leader leaders l) (sym (has_class leaders l m few (omega (arith, less, top_in))) ∙ least.held) in
        let down = are.before m (omega (arith, less, top_in)) in
        absurd (omega (arith, held, down, less))
    from _ (inl more) =
        let no = least.first top more in
        let yes = has_class leaders l top few top_in ∙ eq-eqb (leader leaders top) (leader leaders l) itself in
        cc
    from (inr up) (inr down) = omega (arith, up, down)

-- the levels of a class are levels
pub class_inside : (leaders : List ℕ) (l n : ℕ) → length leaders ≡ n → All (λ k. k < n) (class_of leaders l)
unfolding class_of
class_inside leaders l n count =
    All-weaker (λ k. (nat_lt k (length leaders) && leader leaders k == leader leaders l) ≡ true) (λ k. k < n)
    (λ k passes. let less : nat_lt k (length leaders) ≡ true = (and_parts (nat_lt k (length leaders)) (leader leaders k == leader leaders l) passes).0 in
    let inside : k < length leaders = grind (arith, nat_tests) in omega (arith, inside, count))
    (levels_where (λ k. nat_lt k (length leaders) && leader leaders k == leader leaders l))
    (filter_passes (λ k. nat_lt k (length leaders) && leader leaders k == leader leaders l) (level_set.below MOST_LEVELS))

-- what was printed for a level that leads
pub leading_level : {p q r : Printer} (order lattice : Order) (pool : Pooled) (l : ℕ) (members : List ℕ) (stores : Stores) → lattice ≡ order → members ≡ class_of pool.world.leaders l → stores ≡ (copy_of pool l).state.stores → leader pool.world.leaders l ≡ l
    → Prints p q (row_line lattice (row.Class members)) → Prints q r (rows_text order (stores_rows (stores_recs stores))) → Prints p r (rows_text order (level_rows pool l))
leading_level {p} {q} {r} order lattice pool l members stores same members_are stores_are leads_itself first rest =
    prints_as (rows_text order (level_rows pool l))
    (ap (λ b. rows_text order (cond b (row.Class (class_of pool.world.leaders l) ∷ stores_rows (stores_recs (copy_of pool l).state.stores)) [])) (eq-eqb (leader pool.world.leaders l) l leads_itself))
    (then (subst (λ set. Prints p q (row_line order (row.Class set))) members_are (subst (λ o. Prints p q (row_line o (row.Class members))) same first))
    (subst (λ s. Prints q r (rows_text order (stores_rows (stores_recs s)))) stores_are rest))

pub led_level : (p : Printer) (order : Order) (pool : Pooled) (l : ℕ) → leader pool.world.leaders l ≢ l → Prints p p (rows_text order (level_rows pool l))
led_level p order pool l led =
    prints_as (rows_text order (level_rows pool l))
    (ap (λ b. rows_text order (cond b (row.Class (class_of pool.world.leaders l) ∷ stores_rows (stores_recs (copy_of pool l).state.stores)) [])) (ne_eqb (leader pool.world.leaders l) l led))
    (nothing p)

-- one level more
pub level_more : {p q r : Printer} (order : Order) (pool : Pooled) (l : ℕ) → Prints p q (rows_text order (flat_map (level_rows pool) (below l))) → Prints q r (rows_text order (level_rows pool l))
    → Prints p r (rows_text order (flat_map (level_rows pool) (below (l + 1))))
level_more order pool l before here =
    prints_as (rows_text order (flat_map (level_rows pool) (below (l + 1))))
    (ap (λ k. rows_text order (flat_map (level_rows pool) (below k))) (add-one l)
    ∙ ap (rows_text order) (flat_map-append (level_rows pool) (below l) (l ∷ []) ∙ ap (λ rows. flat_map (level_rows pool) (below l) ++ rows) (append-nil (level_rows pool l))))
    (rows_then order (flat_map (level_rows pool) (below l)) (level_rows pool l) before here)

-- all rows of a pool
pub whole_text : {a b c d e : Printer} (policy : Assignment) (pool : Pooled) → length pool.world.leaders ≡ size policy.order
    → Prints a b (row_line policy.order row.Head) → Prints b c (row_line policy.order (row.Policy (printed policy))) → Prints c d (rows_text policy.order (flat_map (level_rows pool) (below (size policy.order)))) → Prints d e (row_line policy.order row.End)
    → Prints a e (rows_text policy.order (saved_rows policy (saved_recs pool)))
whole_text policy pool count head line classes end =
    let order = policy.order in
    let same = rows_by_level pool ∙ ap (λ n. flat_map (level_rows pool) (below n)) count in
    then head (then line
    (rows_then order (classes_rows (saved_recs pool).classes (saved_recs pool).browsers) (row.End ∷ [])
    (prints_as (rows_text order (classes_rows (saved_recs pool).classes (saved_recs pool).browsers)) (ap (rows_text order) same) classes)
    (one_row order row.End end)))

-- a level leads exactly where it is the least of its class
module _ (leaders : List ℕ) (are : AreLeaders leaders) (few : length leaders ≤ MOST_LEVELS) (l : ℕ) (inside : l < length leaders) where
  pub leads_exactly : (m : ℕ) → IsLeast (class_of leaders l) m → (test : Bool) → test ≡ (m == l) → (IsTrue test → leader leaders l ≡ l) × (leader leaders l ≡ l → IsTrue test)
  leads_exactly m least test is =
      let top = least_leads leaders are few l m inside least in (
        (λ passes. sym top ∙ eqb-true m l (sym is ∙ passes)),
        (λ itself. is ∙ eq-eqb m l (top ∙ itself)),
      )

  -- a class has a least level
  pub none_leads : class_of leaders l ≡ [] → leader leaders l ≡ l → ⊥
  none_leads none itself =
      let there : has (class_of leaders l) l ≡ true = has_class leaders l l few inside ∙ eq-eqb (leader leaders l) (leader leaders l) refl in
      let nothing : has (class_of leaders l) l ≡ false = ap (λ set. has set l) none in cc
