use Rattle.std.proofs.Common.{◌∙◌, ap, sym, inl, Ok}
use Rattle.ff_forms.specs.Grammar.{a_string}
use Rattle.ff_reading.proofs.Layers.{word_layer, string_layer, list_layer}
use Rattle.ff_reading.proofs.leaves.read_string.Goals as goal

pub returns-in-Word : goal.returns-in-Word
returns-in-Word c = inl (sym (word_layer c.args.item.now c.in-Word.at c.in-Word.field-1 a_string c.in-Word.is))

pub returns-in_ok-copy-in-Str : goal.returns-in_ok-copy-in-Str
returns-in_ok-copy-in-Str c = inl (ap Ok c.in_ok-copy-in-Str.ensures ∙ sym (string_layer c.args.item.now c.in-Str.field-0 c.in-Str.text a_string c.in-Str.is))

pub returns-in-List : goal.returns-in-List
returns-in-List c = inl (sym (list_layer c.args.item.now c.in-List.at c.in-List.field-1 a_string c.in-List.is))
