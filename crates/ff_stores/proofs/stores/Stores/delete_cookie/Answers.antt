use Rattle.std.proofs.Common.{subst, [], ◌∷◌}
use Rattle.ff_name.specs.Spelling.{IsDomain}
use Rattle.ff_value.specs.declared.reply.CookieOp.TheVariants as cookie
use Rattle.ff_laws.proofs.Cookies.{put_cookies_valid}
use Rattle.ff_stores.specs.Views.{stores_of}
use Rattle.ff_stores.proofs.stores.Stores.delete_cookie.Goals as goal

pub invariant_of-self : goal.invariant_of-self
invariant_of-self g c =
    let domain = subst IsDomain c.text-known.ensures.value c.text-known.ensures.domain in
    rw c.in-Ok-or_emptied.ensures.done ((put_cookies_valid (stores_of c.self.inside) c.args.domain.now (cookie.Drop c.as_bytes.result.now ∷ []) c.self.invariant domain (c.as_bytes.ensures.utf8, tt)).stores)
