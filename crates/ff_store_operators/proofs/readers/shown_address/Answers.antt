use Rattle.ff_store_operators.proofs.Lives.{shown_utf8}
use Rattle.ff_store_operators.proofs.readers.shown_address.Goals as goal

pub returns-clause-utf8 : goal.returns-clause-utf8
returns-clause-utf8 c =
    rw (c.in_ok-print.ensures, c.new-bytes.ensures.items, c.url_of.ensures, c.windows.ensures.value, c.shown_page-page.ensures.value)
    (shown_utf8 c.args.stores.now c.windows.ensures.valid c.args.window c.requires)
