use Rattle.std.proofs.Common.{Some, sym, ap, ◌∙◌}
use Rattle.std.proofs.lemmas.Option.{slice_get_within}
use Rattle.ff_machine.specs.Windows as windows
use Rattle.ff_acts.specs.Stops.{IsNearestAt}
use Rattle.ff_acts.proofs.Holders.{looked}
use Rattle.ff_acts.proofs.Seen.{lives_in}
use Rattle.ff_acts.proofs.acts.Acts.lookup.Goals as goal

pub nearest-requires-clause-lives : goal.nearest-requires-clause-lives
nearest-requires-clause-lives c = lives_in c.self.inside.acts c.self.inside.vars c.args.self.now c.args.a.0 c.self.view_is c.requires

pub cell_at-requires : goal.cell_at-requires
cell_at-requires c =
    let near : IsNearestAt c.self.inside.acts c.self.inside.vars c.args.a c.args.name.now c.in-Some.k = c.in-Some.ensures in
    slice_get_within c.self.inside.vars c.in-Some.k near.cell near.at

pub returns-in-Some : goal.returns-in-Some
returns-in-Some c =
    let near : IsNearestAt c.self.inside.acts c.self.inside.vars c.args.a c.args.name.now c.in-Some.k = c.in-Some.ensures in
    ap Some c.value.ensures
    ∙ sym (looked c.self.inside.acts c.self.inside.vars c.self.invariant c.args.a c.args.name.now c.in-Some.k c.cell_at.result.now near c.cell_at.ensures)
    ∙ ap (λ acts. windows.lookup acts c.args.a c.args.name.now) c.self.view_is
