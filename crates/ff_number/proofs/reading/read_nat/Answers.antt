use Rattle.std.proofs.Common.{sym, ◌∙◌}
use Rattle.ff_number.proofs.Canonical.{parsed, no_text, no_utf8, none_where_no_text, too_long}
use Rattle.ff_number.proofs.reading.read_nat.Goals as goal

pub returns-then-bytes-gt-MOST_DIGITS-clause-spelled : goal.returns-then-bytes-gt-MOST_DIGITS-clause-spelled
returns-then-bytes-gt-MOST_DIGITS-clause-spelled c = none_where_no_text _ (too_long c.args.bytes.now c.if-bytes-gt-MOST_DIGITS.true)

pub returns-then-not-is_canonical-clause-spelled : goal.returns-then-not-is_canonical-clause-spelled
returns-then-not-is_canonical-clause-spelled c =
    none_where_no_text _ (no_text c.args.bytes.now (sym c.is_canonical.ensures ∙ c.if-not-is_canonical.true))

pub returns-in-Ok-clause-spelled : goal.returns-in-Ok-clause-spelled
returns-in-Ok-clause-spelled c n small =
    let read = parsed c.in-Ok.text.now c.args.bytes.now c.parse.result c.in-Ok.ensures.cases.0 (sym c.is_canonical.ensures ∙ c.if-not-is_canonical.false) c.parse.ensures.value.0 n small in
    ((λ e. read.0 (sym c.ok.ensures.value ∙ e)), (λ e. c.ok.ensures.value ∙ read.1 e))

pub returns-in-Err-clause-spelled : goal.returns-in-Err-clause-spelled
returns-in-Err-clause-spelled c = none_where_no_text _ (no_utf8 c.args.bytes.now c.in-Err.ensures.cases.0)
