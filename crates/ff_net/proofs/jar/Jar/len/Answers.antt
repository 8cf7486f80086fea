use Rattle.std.proofs.Common.{sym, ap, ◌∙◌}
use Rattle.std.specs.FinMap as finmap
use Rattle.ff_machine.specs.Net.{Jar}
use Rattle.ff_net.proofs.Cookies.{cookie_total}
use Rattle.ff_net.proofs.Finding.{len_entries}
use Rattle.ff_net.proofs.jar.Jar.len.Goals as goal

pub returns-clause-value : goal.returns-clause-value
returns-clause-value c = c.len.ensures ∙ sym (len_entries cookie_total c.self.inside.cookies c.self.invariant.apart) ∙ ap (λ (jar : Jar). finmap.len jar) c.self.view_is
