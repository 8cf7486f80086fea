use Rattle.ff_route.proofs.Presence.{presence_below, nothing_seen}
use Rattle.ff_route.proofs.law.nothing_is_seen_exactly_below_the_presence.Goals as goal

pub returns-clause-ordered : goal.returns-clause-ordered
returns-clause-ordered c = λ policy i valid tagged. presence_below policy valid i tagged

pub returns-clause-nothing : goal.returns-clause-nothing
returns-clause-nothing c = λ policy l i valid tagged. nothing_seen policy valid l i tagged
