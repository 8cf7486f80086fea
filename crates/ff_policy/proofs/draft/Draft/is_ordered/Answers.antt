use Rattle.std.proofs.Common.{ℕ, ◌<◌, sym, ap, subst, ◌∙◌}
use Rattle.ff_lattice.specs.Order.{size}
use Rattle.ff_policy.specs.Assignment.{KindLevels, Assignment, levels_of, IsWithin}
use Rattle.ff_policy.proofs.draft.Draft.is_ordered.Goals as goal

pub leq-requires-clause-first : goal.leq-requires-clause-first
leq-requires-clause-first c =
    let is = c.of-levels.ensures ∙ ap (λ (d : Assignment). levels_of d.kinds c.args.kind) c.self.view_is in
    let within = subst (IsWithin (size c.args.self.now.order)) (sym is) (c.requires.kinds_within c.args.kind) in
    subst (λ (n : ℕ). c.levels.inside.presence.0 < n) (sym (ap (λ (d : Assignment). size d.order) c.self.view_is))
    (subst (λ (levels : KindLevels). levels.presence < size c.args.self.now.order) (sym c.levels.view_is) within.presence)

pub leq-requires-clause-second : goal.leq-requires-clause-second
leq-requires-clause-second c =
    let is = c.of-levels.ensures ∙ ap (λ (d : Assignment). levels_of d.kinds c.args.kind) c.self.view_is in
    let within = subst (IsWithin (size c.args.self.now.order)) (sym is) (c.requires.kinds_within c.args.kind) in
    subst (λ (n : ℕ). c.levels.inside.content.0 < n) (sym (ap (λ (d : Assignment). size d.order) c.self.view_is))
    (subst (λ (levels : KindLevels). levels.content < size c.args.self.now.order) (sym c.levels.view_is) within.content)
