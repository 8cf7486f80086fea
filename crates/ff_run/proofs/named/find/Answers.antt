use Rattle.std.proofs.Common.{codes, sym, ◌∙◌}
use Rattle.std.specs.Cmp.Lexicographic.{same_text}
use Rattle.ff_run.proofs.Finding.{given_at_dash, named_at_dash}
use Rattle.ff_run.proofs.named.find.Goals as goal

pub returns-in-Ok-clause-named : goal.returns-in-Ok-clause-named
returns-in-Ok-clause-named g c =
    named_at_dash (g.N.Named.kind c.args.what.now) (g.S.Shelf.told c.args.shelf.now) c.args.name.now c.in-Ok.found
    (same_text c.args.name.now (codes "-") (sym (sym c.eq.ensures ∙ c.if-eq.true))) c.in-Ok.ensures

pub returns-in-Ok-clause-given : goal.returns-in-Ok-clause-given
returns-in-Ok-clause-given g c =
    given_at_dash (g.N.Named.kind c.args.what.now) (g.S.Shelf.told c.args.shelf.now) c.args.name.now c.in-Ok.found
    (same_text c.args.name.now (codes "-") (sym (sym c.eq.ensures ∙ c.if-eq.true))) c.in-Ok.ensures
