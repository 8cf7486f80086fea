use Rattle.std.proofs.Common.{◌≡◌, ◌+◌, Ok, length, true, false, inr, subst, sym}
use Rattle.std.specs.Str.{is_utf8, IsUtf8}
use Rattle.std.proofs.lemmas.Str.{is_utf8-from_IsUtf8}
use Rattle.ff_text.specs.Machine.{Makes, with_item, string_put}
use Rattle.ff_text.specs.Notation.{span}
use Rattle.ff_text.specs.declared.items.Sexp.TheVariants.{Str}
use Rattle.ff_text.proofs.Ascii.{is_utf8-not}
use Rattle.ff_text.proofs.Runs.{string_good}
use Rattle.ff_text.proofs.reader.Reader.put_string.Goals as goal

pub returns-in-Ok-None : goal.returns-in-Ok-None
returns-in-Ok-None c =
    let bad = rw c.in-Ok-None.field-0-is at c.in-Ok-None.ensures.utf8 in
    let test : is_utf8 c.args.value.now ≡ false = is_utf8-not _ bad in
    inr (rw test)

pub returns : goal.returns
returns c =
    let good = rw c.in-Ok-Some.field-0-is at c.in-Ok-Some.ensures in
    let test : is_utf8 c.args.value.now ≡ true = is_utf8-from_IsUtf8 _ good.utf8 in
    let end = c.args.self.now.at + (length c.args.value.now + 2) in
    subst (λ answer. Makes c.put.result c.put.new.self answer) (sym (string_good c.args.self.now c.args.value.now test))
    (subst (λ value. Makes c.put.result c.put.new.self (Ok (with_item (record c.args.self.now { at = end }) (Str (span c.args.self.now.at end) value)))) good.value c.put.ensures)
