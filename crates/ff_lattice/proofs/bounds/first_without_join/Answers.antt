use Rattle.std.proofs.Common.{◌≤◌, length, not, ◌∙◌, ap, arith}
use Rattle.ff_lattice.specs.Bounds.{HasJoin}
use Rattle.ff_lattice.specs.Relation.{Related}
use Rattle.ff_lattice.proofs.Orders.{pairs_more, seconds_more, HasJoin-from_some}
use Rattle.ff_lattice.proofs.bounds.first_without_join.Goals as goal

pub loop-b-preserved : goal.loop-b-preserved
loop-b-preserved c =
    seconds_more (HasJoin (Related c.args.rows.now) (length c.args.rows.now)) c.loop-a.a c.loop-b.b c.loop-b.invariant
    (HasJoin-from_some (Related c.args.rows.now) (length c.args.rows.now) c.loop-a.a c.loop-b.b c.join_in.result c.join_in.ensures.found (c.is_none.ensures ∙ ap not c.if-is_none.false))

pub loop-a-preserved : goal.loop-a-preserved
loop-a-preserved c =
    let all : length c.args.rows.now ≤ c.loop-b.b = omega arith in
    pairs_more (HasJoin (Related c.args.rows.now) (length c.args.rows.now)) (length c.args.rows.now) c.loop-a.a c.loop-b.b c.loop-a.invariant c.loop-b.invariant all
