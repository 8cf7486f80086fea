use Rattle.std.proofs.Common.{◌≡◌, false}
use Rattle.ff_store_operators.proofs.Purity.{is_of_stores, not_of_stores, pure_does}
use Rattle.ff_store_operators.proofs.operating.operate.Goals as goal

pub returns-in_default-clause-does : goal.returns-in_default-clause-does
returns-in_default-clause-does g c =
    let not = c.in_default in
    let other : is_of_stores c.args.op ≡ false = not_of_stores c.args.op not.not-Cookie not.not-SetCookie not.not-DelCookie not.not-SelfWindow not.not-Opener not.not-Live not.not-Url not.not-Page not.not-Window not.not-Open not.not-OpenNamed not.not-Go not.not-Close not.not-Kind not.not-Text not.not-SetText not.not-Count not.not-Child not.not-Find not.not-Nth not.not-Insert not.not-Listen not.not-Ask in
    rw (pure_does c.args.stores.now c.args.page c.args.op c.args.args.now other) (c.pure.ensures c.args.outs.now.items)
