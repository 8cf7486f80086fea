use Rattle.std.proofs.Common.{◌≡◌, ◌+◌, Ok, true, false, inr, subst, sym, ◌∙◌}
use Rattle.std.specs.Str.{is_utf8, IsUtf8}
use Rattle.std.proofs.lemmas.Str.{is_utf8-from_IsUtf8}
use Rattle.ff_text.specs.Machine.{Makes, with_item, str_ended}
use Rattle.ff_text.specs.Notation.{span}
use Rattle.ff_text.specs.declared.items.Sexp.TheVariants.{Str}
use Rattle.ff_text.specs.declared.reader.Mode.TheVariants.{Between}
use Rattle.ff_text.proofs.Steps.{end_str-good}
use Rattle.ff_text.proofs.Ascii.{is_utf8-not}
use Rattle.ff_text.proofs.reader.Reader.end_str.Goals as goal

pub returns-in-Ok-None : goal.returns-in-Ok-None
returns-in-Ok-None c =
    let bad = rw c.in-Ok-None.field-0-is at c.in-Ok-None.ensures.utf8 in
    let whole : c.as_slice.result.now ≡ c.args.self.now.value = c.as_slice.ensures in
    let test : is_utf8 c.args.self.now.value ≡ false = is_utf8-not _ (subst (λ bytes. ¬ IsUtf8 bytes) whole bad) in
    inr (rw test)

pub returns : goal.returns
returns c =
    let good = rw c.in-Ok-Some.field-0-is at c.in-Ok-Some.ensures in
    let whole : c.as_slice.result.now ≡ c.args.self.now.value = c.as_slice.ensures in
    let test : is_utf8 c.args.self.now.value ≡ true = is_utf8-from_IsUtf8 _ (subst IsUtf8 whole good.utf8) in
    let text : c.in-Ok-Some.text ≡ c.args.self.now.value = good.value ∙ whole in
    let made : with_item (record c.args.self.now { mode = Between; at = c.args.self.now.at + 1; value = c.clear.new.self }) (Str (span c.args.from (c.args.self.now.at + 1)) c.in-Ok-Some.text) ≡ str_ended c.args.self.now c.args.from = cc (text, c.clear.ensures) in
    subst (λ answer. Makes c.put.result c.put.new.self answer) (sym (end_str-good c.args.self.now c.args.from test))
    (subst (λ r. Makes c.put.result c.put.new.self (Ok r)) made c.put.ensures)
