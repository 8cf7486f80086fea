-- What is shown of a level: the names of its class, level by level, and the lines together.
use Rattle.std.proofs.Common.{◌≡◌, ℕ, zero, suc, ◌+◌, ◌<◌, ◌≤◌, Bool, true, false, cond, ◌==◌, ◌&&◌, nat_lt, List, [], ◌∷◌, ◌++◌, length, filter, flat_map, codes, refl, sym, ap, ap₂, ◌∙◌, append_assoc, append-nil, arith}
use Rattle.std.proofs.lemmas.Bool.{lt-ltb}
use Rattle.std.proofs.lemmas.Grind.{flat_map-append}
use Rattle.std.proofs.lemmas.List.Concat.{flat_map-cons}
use Rattle.std.proofs.lemmas.List.Elements.{filter-append}
use Rattle.ff_confinement.specs.Copies.{at_level}
use Rattle.ff_contract.specs.Lists.{below}
use Rattle.ff_confinement.specs.Text.{text_of}
use Rattle.ff_confinement.specs.Worlds.{leader, copy_at, has_work}
use Rattle.ff_lattice.specs.Order.{Order, size, name}
use Rattle.ff_lattice.specs.LevelSet.{has}
use Rattle.ff_lattice.specs.declared.names.TheConstants.{MOST_LEVELS}
use Rattle.ff_lattice.proofs.LevelSets.{has_in_range}
use Rattle.ff_value.specs.declared.output.Out.{Out}
use Rattle.ff_machine.specs.Machine.{reactor}
use Rattle.ff_pool.specs.Classes as classes
use Rattle.ff_pool.specs.Pooled as pooled
use Rattle.ff_pool.specs.Pooled.{Pooled}
use Rattle.ff_policy.specs.Assignment.{Assignment}
use Rattle.ff_session.specs.Levels.{levels}
use Rattle.ff_travel.specs.Force.{Copies}
use Rattle.ff_travel.specs.Shown.{names_text, class_of, class_line, lines_put, show_line, shown, work_text}
use Rattle.ff_travel.specs.Beside.{IsPoolFor, put_before, under}
use Rattle.ff_pool.specs.Heads.{outputs_at}
use Rattle.ff_travel.proofs.Beside.{copy-behind, leaders-behind}

-- two tests that agree on the numbers below n keep the same of them
filter_agree_below : (p q : ℕ → Bool) (n : ℕ) → ((k : ℕ) → k < n → p k ≡ q k) → filter p (below n) ≡ filter q (below n)
filter_agree_below p q zero agree = refl
filter_agree_below p q (suc n) agree =
    filter-append p (below n) (n ∷ [])
    ∙ ap₂ (λ ks b. ks ++ cond b (n ∷ []) []) (filter_agree_below p q n (λ k lt. agree k (omega arith))) (agree n (omega arith))
    ∙ sym (filter-append q (below n) (n ∷ []))

-- the levels of a class, as the pool tells them
pub class_told : (w : Copies) (l n : ℕ) (set : List ℕ) → set ≡ classes.class_of w.leaders l → length w.leaders ≡ n → n ≤ MOST_LEVELS → filter (has set) (below n) ≡ class_of w l
unfolding classes.class_of
class_told w l n set is count few =
    ap (λ s. filter (has s) (below n)) is
    ∙ filter_agree_below (has (classes.class_of w.leaders l)) test n
    (λ k lt. has_in_range (λ m. nat_lt m (length w.leaders) && test m) k (omega arith) ∙ ap (λ b. b && test k) (lt-ltb k (length w.leaders) (omega arith)))
    ∙ ap (λ m. filter test (below m)) (sym count)
  where
    test : ℕ → Bool
    test k = leader w.leaders k == leader w.leaders l

-- Where the loop over the levels stands: the names of those of the set below l.
pub record HasNames (order : Order) (set before text : List ℕ) (l : ℕ) : Type 0 where
  pub text_is : text ≡ before ++ names_text order (filter (has set) (below l))

pub names_start : (order : Order) (set before : List ℕ) → HasNames order set before before 0
names_start order set before = record { text_is = sym (append-nil before) }

abbrev named : Order → ℕ → List ℕ
named order k = 32 ∷ name order k

names_last : (order : Order) (l : ℕ) (test : Bool) → flat_map (named order) (cond test (l ∷ []) []) ≡ cond test (named order l) []
names_last order l true = flat_map-cons (named order) l [] ∙ append-nil (named order l)
names_last order l false = refl

suc_is : (l : ℕ) → l + 1 ≡ suc l
suc_is l = omega arith

names_split : (order : Order) (set : List ℕ) (l : ℕ) → names_text order (filter (has set) (below (l + 1))) ≡ names_text order (filter (has set) (below l)) ++ cond (has set l) (32 ∷ name order l) []
names_split order set l =
    ap (λ n. names_text order (filter (has set) (below n))) (suc_is l)
    ∙ ap (names_text order) (filter-append (has set) (below l) (l ∷ []))
    ∙ flat_map-append (named order) (filter (has set) (below l)) (cond (has set l) (l ∷ []) [])
    ∙ ap (λ t. names_text order (filter (has set) (below l)) ++ t) (names_last order l (has set l))

-- the next level, which is in the set or not
pub names_next : (order : Order) (set before text longer : List ℕ) (l : ℕ) → HasNames order set before text l → longer ≡ text ++ cond (has set l) (32 ∷ name order l) [] → HasNames order set before longer (l + 1)
names_next order set before text longer l has_them added = record {
  text_is =
      added ∙ ap (λ t. t ++ cond (has set l) (32 ∷ name order l) []) has_them.text_is
      ∙ append_assoc before (names_text order (filter (has set) (below l))) (cond (has set l) (32 ∷ name order l) [])
      ∙ ap (λ t. before ++ t) (sym (names_split order set l));
}

pub names_done : (order : Order) (set before text : List ℕ) (l : ℕ) → HasNames order set before text l → l ≡ size order → text ≡ before ++ names_text order (filter (has set) (below (size order)))
names_done order set before text l has_them all = has_them.text_is ∙ ap (λ n. before ++ names_text order (filter (has set) (below n))) all

-- the line of a class, part by part
pub class_printed : (p : Assignment) (pool : Pooled) (l : ℕ) → IsPoolFor p pool → size p.order ≤ MOST_LEVELS → (set : List ℕ) → set ≡ classes.class_of pool.world.leaders l → (works : Bool) → works ≡ pooled.has_work pool l
    → (out a b d e : List ℕ) → a ≡ out ++ codes "class" → b ≡ a ++ names_text p.order (filter (has set) (below (size p.order))) → d ≡ b ++ work_text works → e ≡ d ++ 10 ∷ [] → e ≡ out ++ class_line p pool.world l
class_printed p pool l is few set set_is works works_is out a b d e a_is b_is d_is e_is =
    let names = names_text p.order (class_of pool.world l) in
    let work = work_text (has_work (reactor p.fuel) (copy_at (reactor p.fuel) pool.world l)) in
    let told : b ≡ (out ++ codes "class") ++ names = b_is ∙ ap (λ t. t ++ names_text p.order (filter (has set) (below (size p.order)))) a_is
    ∙ ap (λ ls. (out ++ codes "class") ++ names_text p.order ls) (class_told pool.world l (size p.order) set set_is is.levels few) in
    let worked : d ≡ ((out ++ codes "class") ++ names) ++ work = d_is ∙ ap (λ t. t ++ work_text works) told
    ∙ ap (λ w. ((out ++ codes "class") ++ names) ++ work_text w) (works_is ∙ ap (λ f. has_work (reactor f) (copy_at (reactor f) pool.world l)) is.fuel) in
    e_is ∙ ap (λ t. t ++ 10 ∷ []) worked
    ∙ append_assoc ((out ++ codes "class") ++ names) work (10 ∷ [])
    ∙ append_assoc (out ++ codes "class") names (work ++ 10 ∷ [])
    ∙ append_assoc out (codes "class") (names ++ (work ++ 10 ∷ []))

-- what lies beside a pool is what its copies have put
module _ (p : Assignment) (puts : List (List Out)) (pool : Pooled) (l : ℕ) (is : IsPoolFor p pool) (lt : l < size p.order) where
  within : l < pooled.size pool
  within = let e = is.levels in omega (arith, e, lt)

  copy_is : copy_at (reactor p.fuel) (under puts pool) l ≡ put_before (outputs_at puts l) (copy_at (reactor pool.fuel) pool.world l)
  copy_is = ap (λ f. copy_at (reactor f) (under puts pool) l) (sym is.fuel) ∙ copy-behind pool.fuel puts pool.world l within

  lines_beside : text_of (levels p) (at_level (levels p) l (outputs_at puts l)) ≡ lines_put p (under puts pool) l
  lines_beside =
      ap (λ os. text_of (levels p) (at_level (levels p) l os))
      (sym (ap (λ c. c.outputs) copy_is ∙ ap (λ os. outputs_at puts l ++ os) (is.taken l within) ∙ append-nil (outputs_at puts l)))

  class_beside : class_line p pool.world l ≡ class_line p (under puts pool) l
  class_beside =
      ap₂ (λ ls b. codes "class" ++ (names_text p.order ls ++ (work_text b ++ 10 ∷ [])))
      (ap (λ ls. filter (λ k. leader ls k == leader ls l) (below (length ls))) (sym (leaders-behind pool.fuel puts pool.world)))
      (sym (ap (has_work (reactor p.fuel)) copy_is ∙ ap (λ f. has_work (reactor p.fuel) (put_before (outputs_at puts l) (copy_at (reactor f) pool.world l))) is.fuel))

  -- the lines together
  pub shown_printed : (outs : List Out) → outs ≡ outputs_at puts l → (out a b d : List ℕ) → a ≡ out ++ show_line p.order l → b ≡ a ++ text_of (levels p) (at_level (levels p) l outs) → d ≡ b ++ class_line p pool.world l
      → d ≡ out ++ shown p (under puts pool) l
  unfolding shown
  shown_printed outs outs_are out a b d a_is b_is d_is =
      let put : text_of (levels p) (at_level (levels p) l outs) ≡ lines_put p (under puts pool) l =
      ap (λ os. text_of (levels p) (at_level (levels p) l os)) outs_are ∙ lines_beside in
      d_is ∙ ap (λ t. b ++ t) class_beside ∙ ap (λ t. t ++ class_line p (under puts pool) l) (b_is ∙ ap (λ t. t ++ text_of (levels p) (at_level (levels p) l outs)) a_is ∙ ap (λ t. (out ++ show_line p.order l) ++ t) put)
      ∙ append_assoc (out ++ show_line p.order l) (lines_put p (under puts pool) l) (class_line p (under puts pool) l)
      ∙ append_assoc out (show_line p.order l) (lines_put p (under puts pool) l ++ class_line p (under puts pool) l)
