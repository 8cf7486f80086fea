use Rattle.ff_shared.specs.Content.{same_content-Decides, same_items_exactly}
use Rattle.ff_value.specs.contracts.reply.CookieOp.{the_row}
use Rattle.ff_value.proofs.reply.same_cookies.Goals as goal

pub returns : goal.returns
returns c = same_items_exactly _ (same_content-Decides the_row.coded) _ _ _ c.eq.ensures
