use Rattle.std.proofs.Common.{◌++◌, sym, ap, ◌∙◌}
use Rattle.ff_records.specs.Records.{asks_of}
use Rattle.ff_net.proofs.AskLists.{flat_more}
use Rattle.ff_net.proofs.requests.Requests.records.Goals as goal

pub loop-domain-preserved : goal.loop-domain-preserved
loop-domain-preserved c =
    c.in_ok-push_asks.ensures
    ∙ ap (λ rs. rs ++ asks_of (c.in-Some.domain, c.in-Some.asks)) c.loop-domain.invariant
    ∙ sym (flat_more c.loop-domain.yielded (c.in-Some.domain, c.in-Some.asks))
