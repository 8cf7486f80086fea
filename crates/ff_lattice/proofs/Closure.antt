-- Passes through every level close a relation.
use Rattle.std.proofs.Common.{ℕ, ◌+◌, ◌<◌, ◌≤◌, inl, inr, List, subst, arith, length}
use Rattle.std.proofs.lemmas.Bool.{cases_eq}
use Rattle.ff_lattice.specs.Bounds.{Chain}
use Rattle.ff_lattice.specs.Bounds.Chain.{here, step}
use Rattle.ff_lattice.specs.Relation.{Related, IsRelation, Passes, Closes}

-- two chains make one
pub chain_append : {X : Type 0} (R : X → X → Type 0) (a b c : X) → Chain R a b → Chain R b c → Chain R a c
chain_append R a b c (here _) more = more
chain_append R a b c (step _ m _ first rest) more = step a m c first (chain_append R m b c rest more)

-- the table after the passes through the levels below count
pub record ClosedBelow (count : ℕ) (old new : List (List ℕ)) : Type 0 where
  pub rows : IsRelation (length old) new
  pub grows : (a b : ℕ) → Related old a b → Related new a b
  pub joined : (a m b : ℕ) → m < count → Related new a m → Related new m b → Related new a b
  pub sound : (a b : ℕ) → Related new a b → Chain (Related old) a b

pub ClosedBelow-none : (old : List (List ℕ)) → IsRelation (length old) old → ClosedBelow 0 old old
ClosedBelow-none old valid = record {
  rows = valid;
  grows = λ a b held. held;
  joined = λ a m b none _ _. absurd (omega arith);
  sound = λ a b held. step a b b held (here b);
}

module _ (count : ℕ) (old mid new : List (List ℕ)) (closed : ClosedBelow count old mid) (passes : Passes mid new count) where
  -- what reaches the next level reached it before the pass
  to_middle : (a : ℕ) → Related new a count → Related mid a count
  to_middle a held = elim (passes.sound a count held) [ inl before ↦ before | inr through ↦ through.0 ]

  from_middle : (b : ℕ) → Related new count b → Related mid count b
  from_middle b held = elim (passes.sound count b held) [ inl before ↦ before | inr through ↦ through.1 ]

  joined_below : (a m b : ℕ) → m < count → Related new a m → Related new m b → Related new a b
  joined_below a m b low first second =
      elim (passes.sound a m first) as (λ _. Related new a b) [
        | inl am ↦ elim (passes.sound m b second) as (λ _. Related new a b) [
          | inl mb ↦ passes.grows a b (closed.joined a m b low am mb)
          | inr mk ↦ passes.held a b (closed.joined a m count low am mk.0) mk.1
        ]
        | inr ak ↦ elim (passes.sound m b second) as (λ _. Related new a b) [
          | inl mb ↦ passes.held a b ak.0 (closed.joined count m b low ak.1 mb)
          | inr mk ↦ passes.held a b ak.0 mk.1
        ]
      ]

  joined_more : (a m b : ℕ) → m < count + 1 → Related new a m → Related new m b → Related new a b
  joined_more a m b low first second =
      elim (cases_eq m count) as (λ _. Related new a b) [
        | inl e ↦
            let to : Related new a count = subst (λ (k : ℕ). Related new a k) e first in
            let from : Related new count b = subst (λ (k : ℕ). Related new k b) e second in
            passes.held a b (to_middle a to) (from_middle b from)
        | inr ne ↦ joined_below a m b (omega arith) first second
      ]

  sound_more : (a b : ℕ) → Related new a b → Chain (Related old) a b
  sound_more a b held =
      elim (passes.sound a b held) as (λ _. Chain (Related old) a b) [
        | inl before ↦ closed.sound a b before
        | inr through ↦ chain_append (Related old) a count b (closed.sound a count through.0) (closed.sound count b through.1)
      ]

  pub ClosedBelow-more : ClosedBelow (count + 1) old new
  ClosedBelow-more = record {
    rows = subst (λ (n : ℕ). IsRelation n new) closed.rows.count passes.rows;
    grows = λ a b held. passes.grows a b (closed.grows a b held);
    joined = joined_more;
    sound = sound_more;
  }

-- a pass through each level closes the table
pub Closes-from_passes : (count : ℕ) (old new : List (List ℕ)) → length old ≤ count → ClosedBelow count old new → Closes old new
Closes-from_passes count old new all closed = record {
  rows = closed.rows;
  grows = closed.grows;
  transitive = λ a m b first second. let in_m : m < length old = closed.rows.within a m first in closed.joined a m b (omega arith) first second;
  sound = closed.sound;
}
