use Rattle.std.proofs.Common.{◌≡◌, ◌++◌, ℕ, List, sym, ◌∙◌, subst, length, take, drop}
use Rattle.std.proofs.lemmas.List.{take_at}
use Rattle.std.proofs.lemmas.Result.{err_from_is_err_and}
use Rattle.ff_lattice.specs.Bounds.{IsLattice}
use Rattle.ff_lattice.specs.Levels.{AreApart, IsFault, IsOrderFault, IsLatticeOf}
use Rattle.ff_lattice.specs.Relation.{Related, HoldPairs, Closes, AreTurned, IsKept}
use Rattle.ff_lattice.proofs.Built.{fault_from_order, kept_is, lattice_is}
use Rattle.ff_lattice.proofs.lattice.Lattice.of_named.Goals as goal

pub returns-in_err-check_order-clause-fault : goal.returns-in_err-check_order-clause-fault
returns-in_err-check_order-clause-fault c =
    let named : c.in_ok-names.names.items ≡ c.args.names.now = c.in_ok-names.ensures.found.0 in
    let apart : AreApart c.in_ok-names.names.items = subst AreApart (sym named) c.in_ok-names.ensures.found.1 in
    let holds : HoldPairs (length c.args.below.now) c.in_ok-names.names.items c.args.below.now c.in_ok-names.up.items =
    subst (λ (names : List (List ℕ)). HoldPairs (length c.args.below.now) names c.args.below.now c.in_ok-names.up.items) (sym named) c.in_ok-names.ensures.found.2 in
    let closes : Closes c.in_ok-names.up.items c.close.new.rows = subst (λ (old : List (List ℕ)). Closes old c.close.new.rows) c.deref_mut.ensures.value c.close.ensures in
    let after : take c.in_ok-names.up.len (c.close.new.rows ++ drop (length c.close.new.rows) c.in_ok-names.up.items) ≡ c.close.new.rows =
    take_at c.close.new.rows (drop (length c.close.new.rows) c.in_ok-names.up.items) c.in_ok-names.up.len (closes.rows.count ∙ sym c.in_ok-names.up.ok.0) in
    let p = err_from_is_err_and c.from_residual-in_err-check_order.result c.from_residual-in_err-check_order.ensures.1 in
    rw (p.1, p.2) (λ no.
    subst (λ (names : List (List ℕ)). IsFault names c.args.below.now c.in_err-check_order.field-0.0) named
    (fault_from_order c.in_ok-names.names.items c.args.below.now c.in_ok-names.up.items c.close.new.rows apart holds closes c.in_err-check_order.field-0.0
    (subst (λ (up : List (List ℕ)). IsOrderFault c.in_ok-names.names.items (Related up) c.in_err-check_order.field-0.0) (c.deref-2.ensures.value ∙ after) (c.in_err-check_order.ensures.fault no))))

pub invariant_of-result : goal.invariant_of-result
invariant_of-result c =
    let named : c.in_ok-names.names.items ≡ c.args.names.now = c.in_ok-names.ensures.found.0 in
    let apart : AreApart c.in_ok-names.names.items = subst AreApart (sym named) c.in_ok-names.ensures.found.1 in
    let holds : HoldPairs (length c.args.below.now) c.in_ok-names.names.items c.args.below.now c.in_ok-names.up.items =
    subst (λ (names : List (List ℕ)). HoldPairs (length c.args.below.now) names c.args.below.now c.in_ok-names.up.items) (sym named) c.in_ok-names.ensures.found.2 in
    let closes : Closes c.in_ok-names.up.items c.close.new.rows = subst (λ (old : List (List ℕ)). Closes old c.close.new.rows) c.deref_mut.ensures.value c.close.ensures in
    let after : take c.in_ok-names.up.len (c.close.new.rows ++ drop (length c.close.new.rows) c.in_ok-names.up.items) ≡ c.close.new.rows =
    take_at c.close.new.rows (drop (length c.close.new.rows) c.in_ok-names.up.items) c.in_ok-names.up.len (closes.rows.count ∙ sym c.in_ok-names.up.ok.0) in
    let lattice : IsLattice (Related c.close.new.rows) (length c.in_ok-names.names.items) =
    subst (λ (up : List (List ℕ)). IsLattice (Related up) (length c.in_ok-names.names.items)) (c.deref-2.ensures.value ∙ after) c.in_ok-check_order.ensures.found in
    let turned : AreTurned c.close.new.rows c.in_ok-down.down.items =
    subst (λ (up : List (List ℕ)). AreTurned up c.in_ok-down.down.items) (c.deref.ensures.value ∙ after) c.in_ok-down.ensures in
    subst (λ (up : List (List ℕ)). IsKept (record { names = c.in_ok-names.names.items; above = up }) c.in_ok-down.down.items) (sym after)
    (kept_is c.in_ok-names.names.items c.args.below.now c.in_ok-names.up.items c.close.new.rows apart holds closes lattice c.in_ok-down.down.items turned)

pub returns-clause-found : goal.returns-clause-found
returns-clause-found c =
    let named : c.in_ok-names.names.items ≡ c.args.names.now = c.in_ok-names.ensures.found.0 in
    let apart : AreApart c.in_ok-names.names.items = subst AreApart (sym named) c.in_ok-names.ensures.found.1 in
    let holds : HoldPairs (length c.args.below.now) c.in_ok-names.names.items c.args.below.now c.in_ok-names.up.items =
    subst (λ (names : List (List ℕ)). HoldPairs (length c.args.below.now) names c.args.below.now c.in_ok-names.up.items) (sym named) c.in_ok-names.ensures.found.2 in
    let closes : Closes c.in_ok-names.up.items c.close.new.rows = subst (λ (old : List (List ℕ)). Closes old c.close.new.rows) c.deref_mut.ensures.value c.close.ensures in
    let after : take c.in_ok-names.up.len (c.close.new.rows ++ drop (length c.close.new.rows) c.in_ok-names.up.items) ≡ c.close.new.rows =
    take_at c.close.new.rows (drop (length c.close.new.rows) c.in_ok-names.up.items) c.in_ok-names.up.len (closes.rows.count ∙ sym c.in_ok-names.up.ok.0) in
    let lattice : IsLattice (Related c.close.new.rows) (length c.in_ok-names.names.items) =
    subst (λ (up : List (List ℕ)). IsLattice (Related up) (length c.in_ok-names.names.items)) (c.deref-2.ensures.value ∙ after) c.in_ok-check_order.ensures.found in
    subst (λ (names : List (List ℕ)). IsLatticeOf names c.args.below.now (record { names = c.in_ok-names.names.items; above = take c.in_ok-names.up.len (c.close.new.rows ++ drop (length c.close.new.rows) c.in_ok-names.up.items) })) named
    (subst (λ (up : List (List ℕ)). IsLatticeOf c.in_ok-names.names.items c.args.below.now (record { names = c.in_ok-names.names.items; above = up })) (sym after)
    (lattice_is c.in_ok-names.names.items c.args.below.now c.in_ok-names.up.items c.close.new.rows apart holds closes lattice))
