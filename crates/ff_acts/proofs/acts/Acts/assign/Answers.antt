use Rattle.std.proofs.Common.{sym, ap, subst, ◌∙◌}
use Rattle.std.proofs.lemmas.Option.{slice_get_within}
use Rattle.ff_machine.specs.Windows as windows
use Rattle.ff_acts.specs.Held.{seen, AreHeld}
use Rattle.ff_acts.specs.Stops.{IsNearestAt}
use Rattle.ff_acts.proofs.Rewritten.{rewritten_held, rewritten_seen}
use Rattle.ff_acts.proofs.Seen.{lives_in}
use Rattle.ff_acts.proofs.acts.Acts.assign.Goals as goal

pub nearest-requires-clause-lives : goal.nearest-requires-clause-lives
nearest-requires-clause-lives g c = lives_in c.self.inside.acts c.self.inside.vars c.args.self.now c.args.a.0 c.self.view_is c.requires.lives

pub write-requires : goal.write-requires
write-requires g c =
    let near : IsNearestAt c.self.inside.acts c.self.inside.vars c.args.a c.args.name.now c.in-Some.k = c.in-Some.ensures in
    slice_get_within c.self.inside.vars c.in-Some.k near.cell near.at

pub invariant_of-self-2 : goal.invariant_of-self-2
invariant_of-self-2 g c =
    let near : IsNearestAt c.self.inside.acts c.self.inside.vars c.args.a c.args.name.now c.in-Some.k = c.in-Some.ensures in
    subst (AreHeld c.self.inside.acts) (sym (c.in_ok-write.ensures.done near.cell near.at))
    (rewritten_held c.self.inside.acts c.self.inside.vars c.self.invariant c.in-Some.k near.cell near.at c.args.value.now)

pub returns-clause-done : goal.returns-clause-done
returns-clause-done g c =
    let near : IsNearestAt c.self.inside.acts c.self.inside.vars c.args.a c.args.name.now c.in-Some.k = c.in-Some.ensures in
    let old = seen c.self.inside.acts c.self.inside.vars in
    ap (seen c.self.inside.acts) (c.in_ok-write.ensures.done near.cell near.at)
    ∙ rewritten_seen c.self.inside.acts c.self.inside.vars c.self.invariant c.in-Some.k near.cell near.at c.args.value.now
    ∙ ap (λ x. windows.set_var old near.cell.owner x c.args.value.now) near.name
    ∙ ap (λ o. windows.assigned old o c.args.name.now c.args.value.now) (sym near.holds)
    ∙ ap (λ acts. windows.assigned acts (windows.holder acts c.args.a c.args.name.now) c.args.name.now c.args.value.now) c.self.view_is
