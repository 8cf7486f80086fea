use Rattle.std.proofs.Common.{length, ap, ◌∙◌}
use Rattle.ff_machine.specs.Net as net
use Rattle.ff_net.proofs.requests.Requests.len.Goals as goal

pub returns : goal.returns
returns c = c.count_to.ensures ∙ ap (λ m. length (net.asked m c.args.domain.now)) c.self.view_is
