use Rattle.std.proofs.Common.{All, ap, sym, subst}
use Rattle.std.proofs.lemmas.List.Elements.{All-push}
use Rattle.ff_pool.specs.Restored.{IsReady}
use Rattle.ff_copies_table.proofs.restoring.browsers_of.Goals as goal

pub loop-preserved : goal.loop-preserved
loop-preserved c =
    subst (All (IsReady 5)) (sym c.in_ok-push.ensures.items)
    (All-push (IsReady 5) c.loop.browsers.items c.new.result c.loop.invariant (record { budget = ap (λ s. s.budget) c.new.ensures; quiet = ap (λ s. s.quiet) c.new.ensures }))
