-- Nodes of a kind in a walk: of a word that no kind has there are none, and of any there are no
-- more than nodes.
use Rattle.std.proofs.Common.{◌≡◌, ◌≢◌, ℕ, suc, ℤ, pos, negsuc, nat_abs, int_lt, ⊎_elim, ◌<◌, ◌≤◌, Bool, true, false, cond, ◌==◌, Option, None, List, [], ◌∷◌, ◌||◌, filter, map, length, slice_get, refl, sym, ap, subst, ◌∙◌, arith}
use Rattle.std.specs.Prelude.{nat_eq}
use Rattle.std.specs.Str.{bytes_eq}
use Rattle.std.specs.List.{AllByRecursion, IsDistinct, list_any}
use Rattle.std.specs.Int.{FitsUnsignedBits}
use Rattle.std.proofs.lemmas.Bool.{eqb-true, cases_lt}
use Rattle.std.proofs.lemmas.Bool.Decides.{nat_tests}
use Rattle.std.proofs.lemmas.List.{length-map}
use Rattle.std.proofs.lemmas.Map.Steps.{length-le_from_distinct_below}
use Rattle.std.proofs.lemmas.Option.{slice_get_past}
use Rattle.std.proofs.lemmas.Slice.Eq.{bytes_eq-Decides}
use Rattle.ff_confinement.proofs.Lists.{filter_none}
use Rattle.ff_value.specs.declared.ids.NodeId.{NodeId}
use Rattle.ff_machine.specs.declared.kinds.Kind.{Kind}
use Rattle.ff_machine.specs.declared.limits.TheConstants.{MOST_TREE_DEPTH}
use Rattle.ff_machine.specs.Kinds.{kind_word}
use Rattle.ff_machine.specs.Shapes.{kind_of}
use Rattle.ff_machine.specs.Nodes.{Node, Walk, walk_within, node_at, of_word}
use Rattle.ff_machine.specs.Alone.{AreTrees, AreNodes}
use Rattle.ff_machine.specs.Operators.{item_at}
use Rattle.ff_machine.proofs.Walks.{walk_made}
use Rattle.ff_laws.proofs.Sums.{if_so}
use Rattle.ff_laws.proofs.Walks.{times, walked_once}

differ : (a b : List ℕ) → a ≢ b → bytes_eq a b ≡ false
differ a b other = by (bytes_eq a b) refl where
  by : (r : Bool) → bytes_eq a b ≡ r → r ≡ false
  by true e = absurd (other ((bytes_eq-Decides a b).0 e))
  by false e = refl

-- no node is of a kind whose word isn't one
pub no_kind : (nodes : List Node) (n : NodeId) (word : List ℕ) → ((kind : Kind) → kind_word kind ≢ word) → of_word nodes n word ≡ []
no_kind nodes n word other = filter_none _ (Walk nodes n) (λ k d here. differ _ word (other _))

-- numbers of which none stands twice
none_again : (x : NodeId) (xs : List NodeId) → times x xs ≡ 0 → AllByRecursion (λ y. nat_eq x.0 y ≡ false) (map (λ c. c.0) xs)
none_again x [] h = tt
none_again x (y ∷ ys) h = (by (y.0 == x.0) refl, none_again x ys (omega (arith, h))) where
  by : (b : Bool) → (y.0 == x.0) ≡ b → nat_eq x.0 y.0 ≡ false
  by true e = absurd (let one : if_so (y.0 == x.0) ≡ 1 = ap if_so e in omega (arith, one, h))
  by false e = grind (arith, nat_tests, e)

apart : (xs : List NodeId) → ((m : NodeId) → times m xs ≤ 1) → IsDistinct nat_eq (map (λ c. c.0) xs)
unfolding IsDistinct
apart [] h = tt
apart (x ∷ xs) h = (
  none_again x xs (let one : if_so (x.0 == x.0) ≡ 1 = (let e : (x.0 == x.0) ≡ true = grind (arith, nat_tests) in ap if_so e) in let once = h x in omega (arith, one, once)),
  apart xs (λ m. let once = h m in omega (arith, once)),
)

below : (n : ℕ) (xs : List NodeId) → AllByRecursion (λ m. m.0 < n) xs → (q : ℕ) → list_any (nat_eq q) (map (λ m. m.0) xs) ≡ true → q < n
below n [] h q e = cc
below n (x ∷ xs) h q e = by (nat_eq q x.0) refl (λ more. below n xs h.1 q more) where
  by : (b : Bool) → nat_eq q x.0 ≡ b → (list_any (nat_eq q) (map (λ m. m.0) xs) ≡ true → q < n) → q < n
  by true is more = subst (λ k. k < n) (sym (eqb-true q x.0 is)) h.0
  by false is more = more (ap (λ b. b || list_any (nat_eq q) (map (λ m. m.0) xs)) (sym is) ∙ e)

-- a walk has no more nodes than there are
few_walked : (nodes : List Node) → AreTrees nodes → (n : NodeId) → n.0 < length nodes → length (Walk nodes n) ≤ length nodes
unfolding Walk
few_walked nodes trees n here =
    let walk = walk_within (suc MOST_TREE_DEPTH) nodes n in
    subst (λ k. k ≤ length nodes) (length-map walk (λ (m : NodeId). m.0))
    (length-le_from_distinct_below (map (λ m. m.0) walk) (length nodes) (apart walk (walked_once nodes trees (suc MOST_TREE_DEPTH) n)) (below (length nodes) walk (walk_made nodes trees n here)))

few_kept : {X : Type 0} (p : X → Bool) (xs : List X) → length (filter p xs) ≤ length xs
few_kept p [] = omega arith
few_kept p (x ∷ xs) = by (p x) (few_kept p xs) where
  by : (b : Bool) → length (filter p xs) ≤ length xs → length (cond b (x ∷ filter p xs) (filter p xs)) ≤ length (x ∷ xs)
  by true h = omega (arith, h)
  by false h = omega (arith, h)

-- at a number that 32 bits don't hold there is none
pub past_all : (nodes : List Node) → AreNodes nodes → (n : NodeId) → n.0 < length nodes → (word : List ℕ) (k : ℕ) → 4294967296 ≤ k → slice_get (of_word nodes n word) k ≡ None
past_all nodes valid n here word k past =
    let walked = few_walked nodes valid.trees n here in
    let kept = few_kept (λ m. bytes_eq (kind_word (kind_of (node_at nodes m).shape)) word) (Walk nodes n) in
    let few = valid.few in
    slice_get_past (of_word nodes n word) k (omega (arith, walked, kept, few, past))

-- nothing stands in an empty list
pub none_at : {X : Type 0} (xs : List X) (k : ℤ) → xs ≡ [] → item_at xs k ≡ None
none_at [] k e = by (int_lt k (pos 0)) where
  by : {X : Type 0} (b : Bool) → (let none : Option X = None in cond b none (slice_get [] (nat_abs k))) ≡ None
  by true = refl
  by false = refl
none_at (x ∷ xs) k e = cc

-- at a number that 32 bits don't hold no node of a kind stands in a tree
pub past_at : (nodes : List Node) → AreNodes nodes → (n : NodeId) → n.0 < length nodes → (word : List ℕ) (k : ℤ) → (FitsUnsignedBits 32 k → ⊥) → item_at (of_word nodes n word) k ≡ None
past_at nodes valid n here word (pos m) unfit = by (int_lt (pos m) (pos 0)) (past_all nodes valid n here word m (⊎_elim (λ h. absurd (unfit h)) (λ h. h) (cases_lt m 4294967296))) where
  by : (b : Bool) → slice_get (of_word nodes n word) m ≡ None → cond b None (slice_get (of_word nodes n word) m) ≡ None
  by true e = refl
  by false e = e
past_at nodes valid n here word (negsuc m) unfit = refl
