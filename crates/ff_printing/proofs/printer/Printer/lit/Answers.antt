use Rattle.std.proofs.Common.{◌≡◌, ◌∙◌, ap, sym, true, false, to_z, of_z, rules}
use Rattle.std.specs.Int.{w64}
use Rattle.std.specs.Prelude.{codes}
use Rattle.ff_number.specs.Decimal.{num_text}
use Rattle.ff_text.specs.Printed.{spelled}
use Rattle.ff_tree.specs.declared.tree.Lit.TheVariants as lit
use Rattle.ff_forms.specs.Canonical.{lit_item}
use Rattle.ff_printing.proofs.Printing.{prints_item, spelled-word}
use Rattle.ff_printing.proofs.printer.Printer.lit.Goals as goal

pub returns-in-Null : goal.returns-in-Null
returns-in-Null c =
    let is : c.args.lit.now ≡ lit.Null = c.in-Null.is in
    prints_item (lit_item c.args.lit.now) (ap (λ l. spelled (lit_item l)) is ∙ spelled-word (codes "null")) c.bytes.ensures

pub returns-in-Bool-true : goal.returns-in-Bool-true
returns-in-Bool-true c =
    let is : c.args.lit.now ≡ lit.Bool true = cc in
    prints_item (lit_item c.args.lit.now) (ap (λ l. spelled (lit_item l)) is ∙ spelled-word (codes "true")) c.bytes-in-Bool-true.ensures

pub returns-in-Bool-false : goal.returns-in-Bool-false
returns-in-Bool-false c =
    let is : c.args.lit.now ≡ lit.Bool false = cc in
    prints_item (lit_item c.args.lit.now) (ap (λ l. spelled (lit_item l)) is ∙ spelled-word (codes "false")) c.bytes-in-Bool-false.ensures

pub returns-in-Num : goal.returns-in-Num
returns-in-Num c =
    let same : to_z w64 (of_z w64 c.in-Num.n) ≡ c.in-Num.n = search rules in
    prints_item (lit_item c.args.lit.now) (ap (λ l. spelled (lit_item l)) c.in-Num.is ∙ spelled-word (num_text c.in-Num.n) ∙ ap num_text (sym same)) c.num.ensures
