use Rattle.std.proofs.Common.{◌<◌, ◌++◌, [], length, get_or, ap, ◌∙◌, arith}
use Rattle.std.proofs.lemmas.List.{get_or_read}
use Rattle.std.proofs.lemmas.Result.{on_ok_weaker}
use Rattle.ff_travel.specs.Shown.{show_line}
use Rattle.ff_travel.proofs.Naming.{shown_printed}
use Rattle.ff_travel.proofs.showing.show.Goals as goal

pub returns : goal.returns
returns g c =
    let from = c.from.ensures in
    let level = c.requires.level in
    let count = c.requires.puts in
    let within : c.from.result < length c.args.puts.now = omega (arith, from, level, count) in
    on_ok_weaker c.print_class.result
    (λ printed. shown_printed c.args.policy.now c.args.puts.now c.args.pool.now c.args.level.0 c.requires.pool c.requires.level c.as_slice.result.now (c.as_slice.ensures ∙ get_or_read c.args.puts.now c.from.result c.index-puts-from.result within c.index-puts-from.is [] ∙ ap (λ k. get_or c.args.puts.now k []) c.from.ensures)
    c.args.out.now.items c.print_head.new.out.items c.print_level.new.text.items c.print_class.new.out.items
    (c.in_ok-print_head.ensures ∙ ap (λ order. c.args.out.now.items ++ show_line order c.args.level.0) c.lattice.ensures.value)
    c.in_ok-print_level.ensures printed)
    c.print_class.ensures
