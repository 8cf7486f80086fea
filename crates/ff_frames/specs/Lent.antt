-- What a redex is that is lent.
use Rattle.ff_term.specs.Redex.{Redex}
use Rattle.ff_term.specs.Redex as redex
use Rattle.ff_frames.specs.declared.redex.Redex.{Redex as Lent}
use Rattle.ff_frames.specs.declared.redex.Redex.TheVariants as lent

-- the redex of which what it holds is lent
abbrev pub named : Lent → Redex
named lent.Local = redex.Local
named (lent.Test v) = redex.Test v.now
named (lent.Var x) = redex.Var x.now
named (lent.Let x v) = redex.Let x.now v.now
named (lent.Set x v) = redex.Set x.now v.now
named (lent.Make xs f) = redex.Make xs.now f.now
named (lent.Apply v vs) = redex.Apply v.now vs.now
named (lent.Tree d) = redex.Tree d.now
named (lent.Prim op vs) = redex.Prim op vs.now
