use Rattle.ff_lattice.specs.Order.{size}
use Rattle.ff_audit.specs.Audited.{plain_lines, multi_lines}
use Rattle.ff_audit.proofs.Verdicts.{none_differ}
use Rattle.ff_audit.proofs.law.nothing_leaks_where_all_lines_are_the_same.Goals as goal

pub returns-clause-none : goal.returns-clause-none
returns-clause-none c = λ p is none l within. none_differ (size p.order) (plain_lines p is) (multi_lines p is) none l within
