use Rattle.std.proofs.Common.{◌≡◌, ◌++◌, List, refl, sym, ap, subst, ◌∙◌, append-nil}
use Rattle.std.specs.FinSet as finset
use Rattle.ff_value.specs.declared.output.Out.{Out}
use Rattle.ff_machine.specs.Stores as stores
use Rattle.ff_stores.proofs.Updating.{none_updated}
use Rattle.ff_stores.proofs.stores.Stores.put_changed.Goals as goal

pub returns-then-is_empty : goal.returns-then-is_empty
returns-then-is_empty c =
    let unchanged = subst (λ (t : stores.Stores). t.touched ≡ finset.empty) c.self.view_is (c.if-is_empty.ensures refl) in
    sym (ap (λ (os : List Out). c.args.outs.now.items ++ os) (none_updated c.args.self.now unchanged 0 c.args.self.now.windows.opened) ∙ append-nil c.args.outs.now.items)
