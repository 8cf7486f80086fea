use Rattle.std.proofs.Common.{length, sym, ap, ◌∙◌}
use Rattle.ff_acts.proofs.Seen.{length_seen}
use Rattle.ff_acts.proofs.acts.Acts.len.Goals as goal

pub returns-clause-value : goal.returns-clause-value
returns-clause-value c =
    c.len.ensures.value ∙ sym (length_seen c.self.inside.acts c.self.inside.vars) ∙ ap length c.self.view_is
