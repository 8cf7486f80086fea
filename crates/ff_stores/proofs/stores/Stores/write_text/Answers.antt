use Rattle.std.proofs.Common.{◌≡◌, ◌<◌, true, subst, sym, length}
use Rattle.std.specs.Str.{IsUtf8}
use Rattle.ff_machine.specs.Stores as stores
use Rattle.ff_laws.proofs.Texts.{with_text_valid}
use Rattle.ff_stores.specs.Views.{stores_of}
use Rattle.ff_stores.proofs.stores.Stores.write_text.Goals as goal

pub invariant_of-self-in-Ok-touch : goal.invariant_of-self-in-Ok-touch
invariant_of-self-in-Ok-touch g c =
    let lives = subst (λ (t : stores.Stores). c.args.n.0 < length t.nodes) (sym c.self.view_is) c.requires.lives in
    let may = subst (λ (t : stores.Stores). stores.may_weigh t (length c.args.text.now) ≡ true) (sym c.self.view_is) c.requires.light in
    let utf8 = subst IsUtf8 c.as_bytes-bytes.ensures.value c.as_bytes-bytes.ensures.utf8 in
    let valid = (with_text_valid (stores_of c.self.inside) c.args.n c.args.text.now c.self.invariant lives utf8 may).stores in
    rw (c.in-Ok.ensures.done, c.in-Ok-touch.ensures, c.page_root_of-page.ensures, c.as_bytes-bytes.ensures.value) valid
