use Rattle.std.proofs.Common.{ap, ◌∙◌}
use Rattle.ff_lattice.specs.Order.{size}
use Rattle.ff_machine.specs.State.{State}
use Rattle.ff_save.proofs.LevelRows.{class_inside, leading_level, led_level}
use Rattle.ff_save.proofs.write.write_level.Goals as goal

pub put_class-requires : goal.put_class-requires
put_class-requires g c =
    rw (c.members.ensures, c.lattice.ensures.value)
    (class_inside c.args.pool.now.world.leaders c.args.level.0 (size c.args.policy.now.order) c.requires.rests.levels)

pub returns-then-leads : goal.returns-then-leads
returns-then-leads g c =
    leading_level c.args.policy.now.order c.lattice.result.now c.args.pool.now c.args.level.0 c.members.result c.stores.result.now c.lattice.ensures.value c.members.ensures (c.stores.ensures ∙ ap (λ (s : State). s.stores) c.browser.ensures) (c.leads.ensures.0 c.if-leads.true)
    c.put_class.ensures (c.put_stores.ensures c.args.policy.now.order)

pub returns-else-leads : goal.returns-else-leads
returns-else-leads g c = led_level c.args.out.now c.args.policy.now.order c.args.pool.now c.args.level.0 (λ itself. let is = c.leads.ensures.1 itself in cc)
