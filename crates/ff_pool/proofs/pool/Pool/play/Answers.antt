use Rattle.std.proofs.Common.{◌∙◌, sym, arith}
use Rattle.std.proofs.lemmas.List.{at_drop_all}
use Rattle.ff_pool.specs.Pooled.{played}
use Rattle.ff_pool.specs.Events.{events_of}
use Rattle.ff_pool.proofs.Playing.{schedule}
use Rattle.ff_pool.proofs.pool.Pool.play.Goals as goal

pub returns-clause-schedule : goal.returns-clause-schedule
returns-clause-schedule g c =
    let at = c.loop-event in
    schedule c.args.self.now at.self c.args.events.now
    (sym (at_drop_all (λ es. played at.self (events_of es)) c.args.events.now at.event-index (omega arith)) ∙ at.invariant.rest)
    c.requires
