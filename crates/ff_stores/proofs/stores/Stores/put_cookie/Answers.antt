use Rattle.std.proofs.Common.{subst}
use Rattle.std.specs.Str.{IsUtf8}
use Rattle.ff_name.specs.Spelling.{IsDomain}
use Rattle.ff_stores.specs.Views.{stores_of}
use Rattle.ff_stores.proofs.Changed.{cookie_put_valid}
use Rattle.ff_stores.proofs.stores.Stores.put_cookie.Goals as goal

pub invariant_of-self : goal.invariant_of-self
invariant_of-self g c =
    let domain = subst IsDomain c.text-known.ensures.value c.text-known.ensures.domain in
    let key = subst IsUtf8 c.as_bytes-known.ensures.value c.as_bytes-known.ensures.utf8 in
    let value = subst IsUtf8 c.as_bytes-known-2.ensures.value c.as_bytes-known-2.ensures.utf8 in
    rw c.in-Ok-fault_or_emptied.ensures.done (cookie_put_valid (stores_of c.self.inside) c.args.domain.now c.args.key.now c.args.value.now c.self.invariant domain key value c.in-Ok-fault_or_emptied.ensures.answer)
