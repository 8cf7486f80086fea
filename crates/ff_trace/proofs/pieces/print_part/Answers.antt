use Rattle.std.proofs.Common.{sym, ap, ◌∙◌}
use Rattle.ff_name.specs.Address.{printed}
use Rattle.ff_number.specs.Decimal.{nat_text}
use Rattle.ff_text.specs.Notation.{span}
use Rattle.ff_text.specs.Printed.{spelled, quoted}
use Rattle.ff_text.proofs.Layers.{spelled-Word, spelled-Str}
use Rattle.ff_trace.specs.Pieces.{part_item}
use Rattle.ff_trace.specs.declared.pieces.Part.{Part}
use Rattle.ff_contract.proofs.Sequence.{appends_same, appends_whole}
use Rattle.ff_trace.proofs.pieces.print_part.Goals as goal

pub returns-in-Word : goal.returns-in-Word
returns-in-Word c =
    appends_same c.put_all.result c.args.out.now.items c.put_all.new.out.items c.in-Word.word.now (spelled (part_item c.args.part.now))
    (sym (ap (λ (part : Part). spelled (part_item part)) c.in-Word.is ∙ spelled-Word (span 0 0) c.in-Word.word.now))
    (appends_whole c.put_all.result c.args.out.now.items c.put_all.new.out.items c.in-Word.word.now c.put_all.ensures)

pub returns-in-Number : goal.returns-in-Number
returns-in-Number c =
    appends_same c.print_nat.result c.args.out.now.items c.print_nat.new.out.items (nat_text c.from.result) (spelled (part_item c.args.part.now))
    (ap nat_text c.from.ensures ∙ sym (ap (λ (part : Part). spelled (part_item part)) c.in-Number.is ∙ spelled-Word (span 0 0) (nat_text c.in-Number.number)))
    c.print_nat.ensures

pub returns-in-Address : goal.returns-in-Address
returns-in-Address c =
    appends_same c.print.result c.args.out.now.items c.print.new.out.items (printed c.in-Address.url.now) (spelled (part_item c.args.part.now))
    (sym (ap (λ (part : Part). spelled (part_item part)) c.in-Address.is ∙ spelled-Word (span 0 0) (printed c.in-Address.url.now)))
    c.print.ensures

pub returns-in-Str : goal.returns-in-Str
returns-in-Str c =
    appends_same c.quote.result c.args.out.now.items c.quote.new.out.items (quoted c.in-Str.text.now) (spelled (part_item c.args.part.now))
    (sym (ap (λ (part : Part). spelled (part_item part)) c.in-Str.is ∙ spelled-Str (span 0 0) c.in-Str.text.now))
    c.quote.ensures.appends
