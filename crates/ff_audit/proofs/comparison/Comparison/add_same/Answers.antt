use Rattle.std.proofs.Common.{◌∙◌, ap, sym}
use Rattle.ff_audit.specs.Comparing.{Kept}
use Rattle.ff_audit.proofs.Comparing.{same_line}
use Rattle.ff_audit.proofs.comparison.Comparison.add_same.Goals as goal

pub returns-clause-done : goal.returns-clause-done
returns-clause-done c =
    rw (sym c.self.view_is)
    (same_line c.self.inside.equal c.in_ok-self-inside.field-0 c.self.inside.plain.items c.self.inside.multi.items (ap (λ (k : Kept). k.plain) c.self.view_is ∙ c.requires.plain) (ap (λ (k : Kept). k.multi) c.self.view_is ∙ c.requires.multi)
    c.in_ok-self-inside.ensures)
