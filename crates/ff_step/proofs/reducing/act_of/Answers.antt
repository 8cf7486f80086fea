use Rattle.std.proofs.Common.{◌<◌, length, subst, sym}
use Rattle.ff_value.specs.declared.ids.ActId.{ActId}
use Rattle.ff_machine.specs.References.{made}
use Rattle.ff_laws.proofs.Redexes.{innermost_lives}
use Rattle.ff_step.proofs.reducing.act_of.Goals as goal

pub returns-clause-lives : goal.returns-clause-lives
returns-clause-lives c =
    subst (λ (a : ActId). a.0 < length c.args.stores.now.windows.acts) (sym c.act.ensures)
    (innermost_lives (made c.args.stores.now) c.args.control.now.base c.args.control.now.expr c.requires.act c.requires.running)
