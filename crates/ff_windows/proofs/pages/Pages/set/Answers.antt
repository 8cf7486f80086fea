use Rattle.std.proofs.Common.{arith}
use Rattle.ff_windows.proofs.Counted.{one_more}
use Rattle.ff_windows.proofs.pages.Pages.set.Goals as goal

pub counted-ready-requires-clause-few : goal.counted-ready-requires-clause-few
counted-ready-requires-clause-few g c = one_more c.self.inside.cells c.self.inside.ready c.len-known.result c.self.invariant (omega (arith, c.len-known.ensures.value)) (omega (arith, c.len-known.ensures.bound))
