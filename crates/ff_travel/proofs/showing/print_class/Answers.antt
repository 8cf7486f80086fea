use Rattle.std.proofs.Common.{◌++◌, ap, ◌∙◌}
use Rattle.ff_travel.proofs.Naming.{class_printed}
use Rattle.ff_travel.proofs.showing.print_class.Goals as goal

pub returns : goal.returns
returns g c =
    class_printed c.args.policy.now c.args.pool.now c.args.level.0 c.requires.pool c.lattice.ensures.valid.draft.order_is.few c.members-class.result c.members-class.ensures c.has_work.result c.has_work.ensures
    c.args.out.now.items c.extend_from_slice.new.self.items c.print_names.new.out.items c.extend_from_slice-2.new.self.items c.push.new.self.items
    c.in_ok-extend_from_slice.ensures.items (rw c.lattice.ensures.value at c.in_ok-print_names.ensures) (c.in_ok-extend_from_slice-2.ensures.items ∙ ap (λ t. c.print_names.new.out.items ++ t) c.work_of.ensures) c.in_ok-push.ensures.items
