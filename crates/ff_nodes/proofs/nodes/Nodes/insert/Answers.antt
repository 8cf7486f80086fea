use Rattle.std.proofs.Common.{◌≡◌, ℤ, nat_abs, to_z, of_z, to_z-of_z, w64, None, sym, subst, ap, ◌∙◌}
use Rattle.ff_machine.specs.Nodes.{joined, insert_fault}
use Rattle.ff_nodes.proofs.nodes.Nodes.insert.Goals as goal

pub join-requires-clause-clear : goal.join-requires-clause-clear
join-requires-clause-clear g c = subst (λ (k : ℤ). insert_fault c.args.self.now c.args.parent c.args.child k ≡ None) c.in_ok-place.ensures.place c.in_ok-place.ensures.answer

pub returns-clause-done : goal.returns-clause-done
returns-clause-done g c =
    let same : to_z w64 (of_z w64 c.args.at) ≡ c.args.at = to_z-of_z c.ranges.at in
    c.in_ok-join.ensures.done ∙ ap (λ (k : ℤ). joined c.args.self.now c.args.parent c.args.child (nat_abs k)) (sym c.in_ok-place.ensures.place ∙ same)
