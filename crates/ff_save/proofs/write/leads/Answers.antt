use Rattle.std.proofs.Common.{is_some, refl, ap, subst, ◌∙◌, sym}
use Rattle.std.specs.Prelude.{IfSome}
use Rattle.ff_lattice.specs.LevelSet.{IsLeast}
use Rattle.ff_save.proofs.LevelRows.{leads_exactly, none_leads}
use Rattle.ff_save.proofs.write.leads.Goals as goal

pub returns-in-Some : goal.returns-in-Some
returns-in-Some g c =
    let least = subst (λ o. IfSome o (λ l. IsLeast c.members.result l.0)) c.in-Some.is c.least.ensures.least in
    leads_exactly c.args.pool.now.world.leaders (c.spent-known.ensures.valid c.requires.unspent).led (c.spent-known.ensures.few c.requires.unspent) c.args.level.0 c.requires.there c.in-Some.least.0 (subst (λ set. IsLeast set c.in-Some.least.0) c.members.ensures least) _ refl

pub returns-in-None : goal.returns-in-None
returns-in-None g c = (
  (λ never. cc),
  (λ itself. absurd (none_leads c.args.pool.now.world.leaders (c.spent-known.ensures.valid c.requires.unspent).led (c.spent-known.ensures.few c.requires.unspent) c.args.level.0 c.requires.there (sym c.members.ensures ∙ c.least.ensures.none.0 (ap is_some c.in-None.is)) itself)),
)
