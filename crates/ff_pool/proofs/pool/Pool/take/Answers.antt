use Rattle.std.proofs.Common.{◌∙◌, ap, ap₂, set, get_or, [], length, ◌<◌, arith}
use Rattle.std.proofs.lemmas.List.{get_or_read}
use Rattle.ff_pool.specs.Pooled.{taken, copy_of}
use Rattle.ff_pool.proofs.Gathering.{gathered-take, kept-take, outputs_of}
use Rattle.ff_pool.proofs.Reading.{level_in}
use Rattle.ff_pool.proofs.pool.Pool.take.Goals as goal

pub invariant_of-self : goal.invariant_of-self
invariant_of-self g c = λ unspent.
    let s = c.self.inside.parts in
    kept-take (c.self.invariant unspent) (set s.puts.items c.from.result c.take.new.self) c.args.l.0
    (ap₂ (λ k os. set s.puts.items k os) c.from.ensures c.take.ensures.done)

pub returns-clause-done : goal.returns-clause-done
returns-clause-done g c =
    let s = c.self.inside.parts in
    ap (λ w. record { fuel = c.self.inside.fuel; spent = c.self.inside.spent; world = w })
    (gathered-take (c.self.invariant c.if-self.false) (set s.puts.items c.from.result c.take.new.self) c.args.l.0
    (ap₂ (λ k os. set s.puts.items k os) c.from.ensures c.take.ensures.done))
    ∙ ap (λ p. taken p c.args.l.0) c.self.view_is

pub returns-clause-outputs : goal.returns-clause-outputs
returns-clause-outputs g c =
    let s = c.self.inside.parts in
    let kept = c.self.invariant c.if-self.false in
    let level : c.args.l.0 < length s.leaders.items = level_in c.self.invariant c.if-self.false c.self.view_is c.args.l.0 c.requires in
    c.take.ensures.outputs
    ∙ get_or_read s.puts.items c.from.result c.index_mut.result.now (let e = kept.puts_count in let f = c.from.ensures in omega (arith, e, f, level)) c.index_mut.ensures.value []
    ∙ ap (λ k. get_or s.puts.items k []) c.from.ensures
    ∙ outputs_of kept c.args.l.0 level
    ∙ ap (λ p. (copy_of p c.args.l.0).outputs) c.self.view_is
