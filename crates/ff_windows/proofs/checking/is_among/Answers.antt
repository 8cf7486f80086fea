use Rattle.std.proofs.Common.{refl, sym, get_or}
use Rattle.ff_value.specs.declared.ids.WinId.{WinId}
use Rattle.ff_windows.proofs.Distinct.{among}
use Rattle.ff_windows.proofs.checking.is_among.Goals as goal

pub returns-then-win-other : goal.returns-then-win-other
returns-then-win-other c =
    let d : WinId = record { 0 = 0 } in
    sym (among c.args.others.now c.loop-other.other-index (get_or c.args.others.now c.loop-other.other-index d) d c.loop-other-test.true refl c.args.win.0 c.if-win-other.true)
