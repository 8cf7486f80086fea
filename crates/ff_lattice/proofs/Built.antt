-- A closed table of the pairs is the order of the chains.
use Rattle.std.proofs.Common.{◌≡◌, ℕ, ◌<◌, inl, inr, List, refl, sym, ◌∙◌, subst, arith, length}
use Rattle.ff_lattice.specs.declared.pair.Pair.{Pair}
use Rattle.ff_lattice.specs.declared.fault.LatticeFault.{LatticeFault}
use Rattle.ff_lattice.specs.declared.fault.LatticeFault.TheVariants.{NoLevels, TooMany, BadName, Repeated, Unknown, Cycle, NoJoin, NoMeet, NoMemory}
use Rattle.ff_lattice.specs.Bounds.{Chain, IsLattice}
use Rattle.ff_lattice.specs.Bounds.Chain.{here, step}
use Rattle.ff_lattice.specs.Levels.{nth, pair_at, IsLevel, IsGiven, AreApart, AreLevels, Reaches, IsOrderFault, IsFault, IsLatticeOf}
use Rattle.ff_lattice.specs.Order.{IsOrder}
use Rattle.ff_lattice.specs.Relation.{Related, IsRelation, AreOrdered, HoldPairs, Closes, AreTurned, IsKept}
use Rattle.ff_lattice.proofs.Closure.{chain_append}
use Rattle.ff_lattice.proofs.NameLemmas.{level_is}
use Rattle.ff_lattice.proofs.Orders.{Agree, IsLattice-agree, IsOrderFault-agree}

module _ (names : List (List ℕ)) (below : List Pair) (old up : List (List ℕ)) (apart : AreApart names) (pairs : HoldPairs (length below) names below old) (closes : Closes old up) where
  long : length old ≡ length names
  long = pairs.rows.count

  -- a step of the table is a chain of pairs
  pair_chain : (a b : ℕ) → Related old a b → Reaches names below a b
  pair_chain a b held =
      elim (pairs.sound a b held) as (λ _. Reaches names below a b) [
        | inl e ↦ subst (λ (k : ℕ). Reaches names below a k) e (here (nth names a))
        | inr given ↦ step (nth names a) (nth names b) (nth names b) given (here (nth names b))
      ]

  table_chain : (a b : ℕ) → Chain (Related old) a b → Reaches names below a b
  table_chain a b (here _) = here (nth names a)
  table_chain a b (step _ m _ first rest) = chain_append (IsGiven below) (nth names a) (nth names m) (nth names b) (pair_chain a m first) (table_chain m b rest)

  -- a chain of pairs is held by the closed table
  chain_held : (x y : List ℕ) → Chain (IsGiven below) x y → (a b : ℕ) → a < length names → b < length names → x ≡ nth names a → y ≡ nth names b → Related up a b
  chain_held x y (here _) a b in_a in_b x_is y_is =
      let same : a ≡ b = level_is names apart a b in_a in_b (sym x_is ∙ y_is) in
      subst (λ (k : ℕ). Related up a k) same (closes.grows a a (pairs.reflexive a in_a))
  chain_held x y (step _ z _ first rest) a b in_a in_b x_is y_is =
      let level : IsLevel names (pair_at below first.0).high = (pairs.known first.0 first.1).1 in
      let z_is : z ≡ nth names level.0 = sym (level.2 ∙ first.3) in
      let held : Related old a level.0 = pairs.held a level.0 in_a level.1 (first.0, first.1, first.2 ∙ x_is, first.3 ∙ z_is) in
      closes.transitive a level.0 b (closes.grows a level.0 held) (chain_held z y rest level.0 b level.1 in_b z_is y_is)

  pub reaches_agree : Agree (length names) (Related up) (Reaches names below)
  reaches_agree a b in_a in_b = (
    λ held. table_chain a b (closes.sound a b held),
    λ chain. chain_held (nth names a) (nth names b) chain a b in_a in_b refl refl,
  )

  pub up_rows : IsRelation (length names) up
  up_rows = subst (λ (n : ℕ). IsRelation n up) long closes.rows

  pub up_ordered : AreOrdered up
  up_ordered = record {
    reflexive = λ a in_a. let in_names : a < length names = omega (arith, up_rows.count) in closes.grows a a (pairs.reflexive a in_names);
    transitive = closes.transitive;
  }

  pub levels_are : AreLevels names below
  levels_are = record { apart = apart; known = pairs.known }

  pub fault_from_order : (fault : LatticeFault) → IsOrderFault names (Related up) fault → IsFault names below fault
  fault_from_order (Cycle x y) shown = (levels_are, IsOrderFault-agree names (Related up) (Reaches names below) reaches_agree (Cycle x y) shown)
  fault_from_order (NoJoin x y) shown = (levels_are, IsOrderFault-agree names (Related up) (Reaches names below) reaches_agree (NoJoin x y) shown)
  fault_from_order (NoMeet x y) shown = (levels_are, IsOrderFault-agree names (Related up) (Reaches names below) reaches_agree (NoMeet x y) shown)
  fault_from_order NoLevels shown = absurd shown
  fault_from_order TooMany shown = absurd shown
  fault_from_order (BadName _) shown = absurd shown
  fault_from_order (Repeated _) shown = absurd shown
  fault_from_order (Unknown _) shown = absurd shown
  fault_from_order NoMemory shown = absurd shown

  module _ (lattice : IsLattice (Related up) (length names)) where
    pub order_is : IsOrder (record { names = names; above = up })
    order_is = record {
      some = apart.named.sized.some;
      few = apart.named.sized.few;
      named = apart.named.named;
      apart = level_is names apart;
      rows = up_rows.count;
      set = up_rows.set;
      within = up_rows.within;
      reflexive = λ a in_a. closes.grows a a (pairs.reflexive a in_a);
      transitive = closes.transitive;
      lattice = lattice;
    }

    pub kept_is : (down : List (List ℕ)) → AreTurned up down → IsKept (record { names = names; above = up }) down
    kept_is down turned = record { valid = order_is; turned = turned }

    pub lattice_is : IsLatticeOf names below (record { names = names; above = up })
    lattice_is = record {
      levels = levels_are;
      named = refl;
      order = reaches_agree;
      lattice = IsLattice-agree (length names) (Related up) (Reaches names below) reaches_agree lattice;
      valid = order_is;
    }
