use Rattle.ff_save.proofs.LevelRows.{whole_text}
use Rattle.ff_save.proofs.write.write_rows.Goals as goal

pub returns : goal.returns
returns g c =
    whole_text c.args.policy.now c.args.pool.now c.requires.rests.levels (c.put_head.ensures c.args.policy.now.order) (rw c.requires.policy_is at c.put_policy.ensures c.args.policy.now.order) c.write_classes.ensures (c.put_end.ensures c.args.policy.now.order)
