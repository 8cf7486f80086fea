use Rattle.std.proofs.Common.{map, ◌∙◌, List, ℕ, sym, subst}
use Rattle.ff_pool.specs.Classes.{LedBy, AreLed}
use Rattle.ff_pool.specs.Restored.{HaveBrowsers}
use Rattle.ff_pool.proofs.Gathering.{kept-rest, rests, rest_recs}
use Rattle.ff_pool.proofs.pool.Pool.restore.Goals as goal

pub invariant_of-result : goal.invariant_of-result
invariant_of-result g c = λ unspent.
    let led = subst (LedBy c.args.n c.args.classes.now) c.in-Some.is c.in_ok-leaders.ensures in
    let are = subst (AreLed c.args.n c.args.classes.now) (sym c.into_vec.ensures) led in
    let have = subst (λ (ls : List ℕ). HaveBrowsers c.args.fuel ls (map g.B.Reactor.state c.args.browsers) c.in_ok-heads.heads.items) (c.as_slice.ensures ∙ sym c.into_vec.ensures) c.in_ok-heads.ensures in
    kept-rest are have c.in_ok-puts.ensures c.requires.most

pub returns : goal.returns
returns g c =
    let led = subst (LedBy c.args.n c.args.classes.now) c.in-Some.is c.in_ok-leaders.ensures in
    let are = subst (AreLed c.args.n c.args.classes.now) (sym c.into_vec.ensures) led in
    let have = subst (λ (ls : List ℕ). HaveBrowsers c.args.fuel ls (map g.B.Reactor.state c.args.browsers) c.in_ok-heads.heads.items) (c.as_slice.ensures ∙ sym c.into_vec.ensures) c.in_ok-heads.ensures in
    (rests are have c.in_ok-puts.ensures c.requires.most, rest_recs are have c.in_ok-puts.ensures)
