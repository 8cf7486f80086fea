use Rattle.std.proofs.Common.{◌∙◌, ap}
use Rattle.ff_pool.specs.Pooled.{size}
use Rattle.ff_pool.proofs.Reading.{arrive_kept, arrive_seen}
use Rattle.ff_pool.proofs.pool.Pool.arrive.Goals as goal

pub invariant_of-self-2 : goal.invariant_of-self-2
invariant_of-self-2 g c = λ still.
    arrive_kept c.self.invariant c.if-self.false c.self.view_is c.arrive.new.self.heads.items c.args.offers.now c.arrive.ensures.puts c.in_ok-arrive.ensures.leaders c.arrive.ensures.heads c.in_ok-arrive.ensures.arrived c.requires

pub returns-clause-done : goal.returns-clause-done
returns-clause-done g c =
    arrive_seen c.self.invariant c.if-self.false c.self.view_is c.arrive.new.self.heads.items c.args.offers.now c.arrive.ensures.puts c.in_ok-arrive.ensures.leaders c.arrive.ensures.heads c.in_ok-arrive.ensures.arrived

pub returns-clause-levels : goal.returns-clause-levels
returns-clause-levels g c = c.arrive.ensures.levels ∙ ap size c.self.view_is

pub returns-in_err-arrive-clause-levels : goal.returns-in_err-arrive-clause-levels
returns-in_err-arrive-clause-levels g c = c.arrive.ensures.levels ∙ ap size c.self.view_is
