use Rattle.std.proofs.Common.{◌≡◌, true, rules}
use Rattle.ff_machine.specs.Windows.{is_live}
use Rattle.ff_browser_table.proofs.Stepping.{left_ready}
use Rattle.ff_browser_table.proofs.running.step.Goals as goal

pub returns : goal.returns
returns g c =
    let made = c.in_ok-answer.ensures.reduces in
    let live : is_live c.args.stores.now.windows c.args.page ≡ true = search (rules, c.requires.live) in
    left_ready c.args.stores.now c.reduce.new.stores c.args.page c.args.control.now c.reduce.new.control c.requires.valid live c.requires.ready made.1 made.2
