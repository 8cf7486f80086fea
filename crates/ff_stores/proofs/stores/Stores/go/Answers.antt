use Rattle.std.proofs.Common.{◌<◌, length, subst, sym, ◌∙◌}
use Rattle.std.specs.Prelude.{IsTrue}
use Rattle.ff_machine.specs.Stores as stores
use Rattle.ff_machine.specs.Windows as windows
use Rattle.ff_stores.specs.Views.{stores_of}
use Rattle.ff_stores.proofs.Blank.{blank_copies}
use Rattle.ff_stores.proofs.Opening.{open_lives}
use Rattle.ff_stores.proofs.stores.Stores.go.Goals as goal

pub send-requires-clause-refers : goal.send-requires-clause-refers
send-requires-clause-refers g c =
    let opened = subst (λ (t : stores.Stores). IsTrue (windows.is_open t.windows c.args.window)) (sym c.self-in-At.view_is) c.requires.is_open in
    subst (λ (t : stores.Stores). c.args.window.0 < length t.windows.windows) c.self-in-At.view_is (open_lives (stores_of c.self-in-At.inside) c.args.window c.self-in-At.invariant opened)

pub returns-in_ok-docs-in-Blank-clause-copies : goal.returns-in_ok-docs-in-Blank-clause-copies
returns-in_ok-docs-in-Blank-clause-copies g c =
    blank_copies c.args.self.now c.args.window c.args.url.now c.in_ok-docs-in-Blank.docs c.args.copies.now c.load.new.copies (c.in_ok-docs-in-Blank.ensures ∙ c.new.ensures.items) c.load.ensures.copies
