use Rattle.std.proofs.Common.{sym, subst}
use Rattle.ff_machine.specs.Net.{Requests}
use Rattle.ff_machine.specs.References.{DstRefers, RequestsRefer}
use Rattle.ff_records.specs.Counted.{made}
use Rattle.ff_net.proofs.ShrinkingLists.{by_rows, of_rows}
use Rattle.ff_net.proofs.requests.Requests.refer.Goals as goal

pub returns-clause-value : goal.returns-clause-value
returns-clause-value c = (
  λ h. subst (λ (r : Requests). RequestsRefer (made c.args.counts) r) c.self.view_is (by_rows (λ p. DstRefers (made c.args.counts) p.dst) c.self.inside.rows (c.rows_refer.ensures.0 h)),
  λ h. c.rows_refer.ensures.1 (of_rows (λ p. DstRefers (made c.args.counts) p.dst) c.self.inside.rows c.self.invariant.apart (subst (λ (r : Requests). RequestsRefer (made c.args.counts) r) (sym c.self.view_is) h)),
)
