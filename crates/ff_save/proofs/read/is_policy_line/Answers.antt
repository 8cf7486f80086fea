use Rattle.std.proofs.Common.{◌∙◌}
use Rattle.ff_save.specs.Whole.{policy_line}
use Rattle.ff_save.proofs.OtherPolicy.{printed_line, line_test}
use Rattle.ff_save.proofs.read.is_policy_line.Goals as goal

pub returns : goal.returns
returns c =
    line_test c.eq.result c.as_slice.result.now c.args.line.now (policy_line c.args.text.now)
    (c.as_slice.ensures.value
    ∙ printed_line c.in_ok-printer.printer c.bytes.new.self c.string.new.self c.end.result c.in_ok-end.field-0 c.args.text.now c.end.new.out.items c.in_ok-end.was c.in_ok-printer.ensures.done.0 (c.in_ok-printer.ensures.done.1 ∙ c.new-printed.ensures.items)
    c.bytes.ensures c.string.ensures c.end.ensures.bytes c.end.ensures.done c.end.ensures.failed)
    c.eq.ensures
