use Rattle.std.proofs.Common.{length, ap, arith}
use Rattle.std.specs.Option.{option_copied}
use Rattle.ff_machine.proofs.WindowChanges.{window_added}
use Rattle.ff_windows.proofs.windows.Windows.add_window.Goals as goal

pub push_window-requires : goal.push_window-requires
push_window-requires g c = record {
  keeps =
      rw (c.in_ok-cell.ensures.value, c.next_win-n.ensures)
      (window_added c.args.self.now (option_copied c.args.name) c.args.opener c.args.page c.opened.ensures.valid c.requires.lives c.requires.opener_lives c.requires.of_it c.in_ok-cell.ensures.named
      (omega (arith, ap length c.opened.ensures.value, c.if-opened-ge-MOST_WINDOWS.false)));
}
