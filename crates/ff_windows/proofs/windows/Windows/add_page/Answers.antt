use Rattle.std.proofs.Common.{◌≡◌, true}
use Rattle.ff_machine.specs.Windows.{has_page_room}
use Rattle.ff_machine.proofs.WindowChanges.{page_added}
use Rattle.ff_windows.proofs.windows.Windows.add_page.Goals as goal

pub push_page-requires-clause-keeps : goal.push_page-requires-clause-keeps
push_page-requires-clause-keeps g c =
    let room : has_page_room c.args.self.now ≡ true = cc in
    rw (c.in_ok-cell.ensures, c.next_act-act.ensures) (page_added c.args.self.now c.args.url.now c.args.win c.args.root c.alloc.ensures room c.requires.spelled)
