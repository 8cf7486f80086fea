use Rattle.std.proofs.Common.{◌≡◌, true, Some, [], sym, ◌∙◌, arith}
use Rattle.std.specs.Option.{option_copied}
use Rattle.ff_value.specs.declared.value.Val.TheVariants as val
use Rattle.ff_operators.specs.declared.answer.Fail.TheVariants as fail
use Rattle.ff_machine.specs.declared.records.Dst.TheVariants as dst
use Rattle.ff_machine.specs.Stores.{has_window_room, has_ask_room, opened, sent}
use Rattle.ff_machine.specs.Operators.{self_window}
use Rattle.ff_machine.specs.Windows.{next_win}
use Rattle.ff_store_operators.proofs.Doing.{exits}
use Rattle.ff_store_operators.proofs.Opened.{first_refused}
use Rattle.ff_store_operators.proofs.opening.open_asking.Goals as goal

pub returns-in_err-window-clause-does : goal.returns-in_err-window-clause-does
returns-in_err-window-clause-does g c =
    let old = c.args.stores.now in
    let has : c.room-has_room.result ≡ true = first_of (cc, grind arith) in
    let room : has_ask_room old c.args.domain.now ≡ true = sym (rw c.requests.ensures.value at c.room-has_room.ensures) ∙ has in
    let step = rw c.own_window-opener.ensures.value at c.in_err-window.ensures.step in
    exits _ c.from_residual-in_err-window.result fail.NoMemory old c.open_window.new.self c.args.outs.now.items c.open_window.new.outs.items c.from_residual-in_err-window.ensures.1
    (first_refused old c.open_window.new.self c.args.outs.now.items c.open_window.new.outs.items (val.Win (next_win old.windows))
    (opened old (option_copied c.args.name) (Some (self_window old c.args.page)))
    (λ t. sent t c.args.domain.now c.args.uri.now [] (dst.Window (next_win old.windows)))
    (has_window_room old) (has_ask_room old c.args.domain.now) room c.in_err-window.field-0.0 step)
