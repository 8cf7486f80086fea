use Rattle.std.proofs.Common.{map}
use Rattle.ff_pool.proofs.AtRest.{AreHeads}
use Rattle.ff_pool.proofs.restoring.led_heads.Given as goal

abbrev pub invariant-loop-l : goal.invariant-loop-l
invariant-loop-l g l = AreHeads l.fuel l.leaders (map g.B.Reactor.state l.fn.browsers) (map g.B.Reactor.state l.browsers.items) l.heads.items l.l
