use Rattle.ff_pool.proofs.Offering.{IsOffering}
use Rattle.ff_pool.proofs.heads.offer_heads.Given as goal

abbrev pub invariant-loop-l : goal.invariant-loop-l
invariant-loop-l g l = IsOffering l.initial.heads l.leaders l.offers l.heads l.l
