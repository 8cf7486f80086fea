use Rattle.std.proofs.Common.{◌≡◌, ◌∷◌, ◌++◌, [], length, sym, ap, subst, ◌∙◌, arith}
use Rattle.std.specs.FinMap as finmap
use Rattle.ff_acts.specs.Held.{seen, AreHeld}
use Rattle.ff_acts.proofs.Pushed.{pushed_held, pushed_seen}
use Rattle.ff_acts.proofs.Seen.{length_seen}
use Rattle.ff_acts.proofs.acts.Acts.push_act.Goals as goal

pub invariant_of-self-2 : goal.invariant_of-self-2
invariant_of-self-2 g c =
    let long : length c.self.inside.acts ≡ length c.args.self.now = sym (length_seen c.self.inside.acts c.self.inside.vars) ∙ ap length c.self.view_is in
    subst (λ acts. AreHeld acts c.self.inside.vars) (sym c.in-Ok.ensures.done)
    (pushed_held c.self.inside.acts c.self.inside.vars c.self.invariant c.args.parent (omega (arith, long, c.requires.room)) (λ p e. omega (arith, long, c.requires.lives p e)))

pub returns-clause-done : goal.returns-clause-done
returns-clause-done g c =
    ap (λ acts. seen acts c.self.inside.vars) c.in-Ok.ensures.done
    ∙ pushed_seen c.self.inside.acts c.self.inside.vars c.self.invariant c.args.parent
    ∙ ap (λ acts. acts ++ record { parent = c.args.parent; vars = finmap.empty } ∷ []) c.self.view_is
