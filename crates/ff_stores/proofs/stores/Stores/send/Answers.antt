use Rattle.std.proofs.Common.{◌≡◌, true, subst, sym, rules}
use Rattle.std.proofs.lemmas.Result.{err_from_is_err_and}
use Rattle.ff_name.specs.Spelling.{IsDomain}
use Rattle.ff_machine.specs.Net as net
use Rattle.ff_machine.specs.Stores as stores
use Rattle.ff_machine.specs.References.{DstRefers, made}
use Rattle.ff_laws.proofs.Asking.{sent_valid}
use Rattle.ff_stores.specs.Views.{stores_of}
use Rattle.ff_stores.proofs.Steps.{nothing_stepped}
use Rattle.ff_stores.proofs.stores.Stores.send.Goals as goal

pub invariant_of-self : goal.invariant_of-self
invariant_of-self g c =
    let refers = subst (λ (t : stores.Stores). DstRefers (made t) c.args.to) (sym c.self.view_is) c.requires.refers in
    let domain = subst IsDomain c.text-known.ensures.value c.text-known.ensures.domain in
    let room : net.has_ask_room c.self.inside.requests c.args.domain.now ≡ true = search rules in
    rw c.in-Ok.ensures.done ((sent_valid (stores_of c.self.inside) c.args.domain.now c.args.uri.now c.args.body.now c.args.to c.self.invariant domain c.requires.uri c.requires.to refers room).stores)

pub returns-in_err-put-clause-step : goal.returns-in_err-put-clause-step
returns-in_err-put-clause-step g c =
    let p = err_from_is_err_and c.from_residual-in_err-put.result c.from_residual-in_err-put.ensures.1 in
    rw p.1 (nothing_stepped p.0 _ _ _ _ _ c.in_err-put.ensures.kept)
