use Rattle.std.proofs.Common.{◌≡◌, ◌≤◌, Some, length, sym, subst, ap, ◌∙◌, arith}
use Rattle.std.specs.List.{insert}
use Rattle.ff_machine.specs.Nodes.{Node}
use Rattle.ff_nodes.specs.Cells.{AreCells}
use Rattle.ff_nodes.proofs.CellChanges.{no_cells}
use Rattle.ff_nodes.proofs.Faults.{place_within}
use Rattle.ff_nodes.proofs.JoinedCells.{under_of, over_of, both_written, lives_in, lives_with, joined_are}
use Rattle.ff_nodes.proofs.nodes.Nodes.join.Goals as goal

pub with_child-requires : goal.with_child-requires
with_child-requires g c =
    subst (λ (m : Node). c.args.place ≤ length m.children) (sym c.at-2.ensures.value) (place_within c.args.self.now c.args.parent c.args.child c.args.place c.requires.clear)

pub write_node-requires : goal.write_node-requires
write_node-requires g c =
    lives_in c.self.inside.cells c.replace-next.result c.args.self.now c.args.child c.self.view_is c.replace-next.ensures.value c.requires.child_lives

pub write_node-requires-2 : goal.write_node-requires-2
write_node-requires-2 g c =
    lives_with c.replace-next.result c.write_node.new.cells c.args.child c.args.parent c.in_ok-under.under c.in_ok-write_node.ensures.done (lives_in c.self.inside.cells c.replace-next.result c.args.self.now c.args.parent c.self.view_is c.replace-next.ensures.value c.requires.parent_lives)

pub raise_above-requires-clause-lives : goal.raise_above-requires-clause-lives
raise_above-requires-clause-lives g c =
    let is_under : c.in_ok-under.under ≡ under_of c.args.self.now c.args.parent c.args.child = c.in_ok-under.ensures ∙ ap (λ (m : Node). let x : Node = record m { parent = Some c.args.parent } in x) c.at.ensures.value in
    let is_over : c.in_ok-over.over ≡ over_of c.args.self.now c.args.parent c.args.child c.args.place = c.in_ok-over.ensures ∙ ap (λ (m : Node). let x : Node = record m { children = insert m.children c.args.place c.args.child } in x) c.at-2.ensures.value in
    let joins = both_written c.self.inside.cells c.replace-next.result c.write_node.new.cells c.write_node-2.new.cells c.args.self.now c.args.parent c.args.child c.args.place c.in_ok-under.under c.in_ok-over.over c.self.invariant c.self.view_is c.replace-next.ensures.value c.requires.parent_lives c.requires.child_lives c.requires.clear is_under is_over c.in_ok-write_node.ensures.done c.in_ok-write_node-2.ensures.done in
    joins.lives

pub raise_above-requires-clause-trees : goal.raise_above-requires-clause-trees
raise_above-requires-clause-trees g c =
    let is_under : c.in_ok-under.under ≡ under_of c.args.self.now c.args.parent c.args.child = c.in_ok-under.ensures ∙ ap (λ (m : Node). let x : Node = record m { parent = Some c.args.parent } in x) c.at.ensures.value in
    let is_over : c.in_ok-over.over ≡ over_of c.args.self.now c.args.parent c.args.child c.args.place = c.in_ok-over.ensures ∙ ap (λ (m : Node). let x : Node = record m { children = insert m.children c.args.place c.args.child } in x) c.at-2.ensures.value in
    let joins = both_written c.self.inside.cells c.replace-next.result c.write_node.new.cells c.write_node-2.new.cells c.args.self.now c.args.parent c.args.child c.args.place c.in_ok-under.under c.in_ok-over.over c.self.invariant c.self.view_is c.replace-next.ensures.value c.requires.parent_lives c.requires.child_lives c.requires.clear is_under is_over c.in_ok-write_node.ensures.done c.in_ok-write_node-2.ensures.done in
    joins.valid.trees

pub raise_above-requires-clause-marks : goal.raise_above-requires-clause-marks
raise_above-requires-clause-marks g c =
    let is_under : c.in_ok-under.under ≡ under_of c.args.self.now c.args.parent c.args.child = c.in_ok-under.ensures ∙ ap (λ (m : Node). let x : Node = record m { parent = Some c.args.parent } in x) c.at.ensures.value in
    let is_over : c.in_ok-over.over ≡ over_of c.args.self.now c.args.parent c.args.child c.args.place = c.in_ok-over.ensures ∙ ap (λ (m : Node). let x : Node = record m { children = insert m.children c.args.place c.args.child } in x) c.at-2.ensures.value in
    let joins = both_written c.self.inside.cells c.replace-next.result c.write_node.new.cells c.write_node-2.new.cells c.args.self.now c.args.parent c.args.child c.args.place c.in_ok-under.under c.in_ok-over.over c.self.invariant c.self.view_is c.replace-next.ensures.value c.requires.parent_lives c.requires.child_lives c.requires.clear is_under is_over c.in_ok-write_node.ensures.done c.in_ok-write_node-2.ensures.done in
    joins.marks

pub returns-in_err-raise_above-clause-copies : goal.returns-in_err-raise_above-clause-copies
returns-in_err-raise_above-clause-copies g c =
    let is_under : c.in_ok-under.under ≡ under_of c.args.self.now c.args.parent c.args.child = c.in_ok-under.ensures ∙ ap (λ (m : Node). let x : Node = record m { parent = Some c.args.parent } in x) c.at.ensures.value in
    let is_over : c.in_ok-over.over ≡ over_of c.args.self.now c.args.parent c.args.child c.args.place = c.in_ok-over.ensures ∙ ap (λ (m : Node). let x : Node = record m { children = insert m.children c.args.place c.args.child } in x) c.at-2.ensures.value in
    let joins = both_written c.self.inside.cells c.replace-next.result c.write_node.new.cells c.write_node-2.new.cells c.args.self.now c.args.parent c.args.child c.args.place c.in_ok-under.under c.in_ok-over.over c.self.invariant c.self.view_is c.replace-next.ensures.value c.requires.parent_lives c.requires.child_lives c.requires.clear is_under is_over c.in_ok-write_node.ensures.done c.in_ok-write_node-2.ensures.done in
    let shallow = joins.shallow in
    omega (arith, shallow, c.in_ok-write_node.ensures.copies, c.in_ok-write_node-2.ensures.copies, c.in_err-raise_above.ensures.copies)

pub invariant_of-self : goal.invariant_of-self
invariant_of-self g c = subst AreCells (sym (c.replace-next.ensures.after ∙ c.new.ensures)) no_cells

pub invariant_of-self-in_err-write_node-2 : goal.invariant_of-self-in_err-write_node-2
invariant_of-self-in_err-write_node-2 g c = subst AreCells (sym (c.replace-next.ensures.after ∙ c.new.ensures)) no_cells

pub invariant_of-self-in_err-raise_above : goal.invariant_of-self-in_err-raise_above
invariant_of-self-in_err-raise_above g c = subst AreCells (sym (c.replace-next.ensures.after ∙ c.new.ensures)) no_cells

pub invariant_of-self-2 : goal.invariant_of-self-2
invariant_of-self-2 g c =
    let is_under : c.in_ok-under.under ≡ under_of c.args.self.now c.args.parent c.args.child = c.in_ok-under.ensures ∙ ap (λ (m : Node). let x : Node = record m { parent = Some c.args.parent } in x) c.at.ensures.value in
    let is_over : c.in_ok-over.over ≡ over_of c.args.self.now c.args.parent c.args.child c.args.place = c.in_ok-over.ensures ∙ ap (λ (m : Node). let x : Node = record m { children = insert m.children c.args.place c.args.child } in x) c.at-2.ensures.value in
    let joins = both_written c.self.inside.cells c.replace-next.result c.write_node.new.cells c.write_node-2.new.cells c.args.self.now c.args.parent c.args.child c.args.place c.in_ok-under.under c.in_ok-over.over c.self.invariant c.self.view_is c.replace-next.ensures.value c.requires.parent_lives c.requires.child_lives c.requires.clear is_under is_over c.in_ok-write_node.ensures.done c.in_ok-write_node-2.ensures.done in
    joined_are c.write_node-2.new.cells c.raise_above.new.cells _ c.args.child joins c.in_ok-raise_above.ensures.nodes c.in_ok-raise_above.ensures.marks

pub returns-clause-done : goal.returns-clause-done
returns-clause-done g c =
    let is_under : c.in_ok-under.under ≡ under_of c.args.self.now c.args.parent c.args.child = c.in_ok-under.ensures ∙ ap (λ (m : Node). let x : Node = record m { parent = Some c.args.parent } in x) c.at.ensures.value in
    let is_over : c.in_ok-over.over ≡ over_of c.args.self.now c.args.parent c.args.child c.args.place = c.in_ok-over.ensures ∙ ap (λ (m : Node). let x : Node = record m { children = insert m.children c.args.place c.args.child } in x) c.at-2.ensures.value in
    let joins = both_written c.self.inside.cells c.replace-next.result c.write_node.new.cells c.write_node-2.new.cells c.args.self.now c.args.parent c.args.child c.args.place c.in_ok-under.under c.in_ok-over.over c.self.invariant c.self.view_is c.replace-next.ensures.value c.requires.parent_lives c.requires.child_lives c.requires.clear is_under is_over c.in_ok-write_node.ensures.done c.in_ok-write_node-2.ensures.done in
    c.in_ok-raise_above.ensures.nodes ∙ joins.nodes_are

pub returns-clause-copies : goal.returns-clause-copies
returns-clause-copies g c =
    let is_under : c.in_ok-under.under ≡ under_of c.args.self.now c.args.parent c.args.child = c.in_ok-under.ensures ∙ ap (λ (m : Node). let x : Node = record m { parent = Some c.args.parent } in x) c.at.ensures.value in
    let is_over : c.in_ok-over.over ≡ over_of c.args.self.now c.args.parent c.args.child c.args.place = c.in_ok-over.ensures ∙ ap (λ (m : Node). let x : Node = record m { children = insert m.children c.args.place c.args.child } in x) c.at-2.ensures.value in
    let joins = both_written c.self.inside.cells c.replace-next.result c.write_node.new.cells c.write_node-2.new.cells c.args.self.now c.args.parent c.args.child c.args.place c.in_ok-under.under c.in_ok-over.over c.self.invariant c.self.view_is c.replace-next.ensures.value c.requires.parent_lives c.requires.child_lives c.requires.clear is_under is_over c.in_ok-write_node.ensures.done c.in_ok-write_node-2.ensures.done in
    let shallow = joins.shallow in
    omega (arith, shallow, c.in_ok-write_node.ensures.copies, c.in_ok-write_node-2.ensures.copies, c.in_ok-raise_above.ensures.copies)
