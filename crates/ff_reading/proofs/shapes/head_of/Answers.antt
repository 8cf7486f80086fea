use Rattle.std.proofs.Common.{◌∙◌, refl}
use Rattle.ff_reading.proofs.Leading.{head_word, head_string, head_list}
use Rattle.ff_reading.proofs.shapes.head_of.Goals as goal

pub returns-in-Word : goal.returns-in-Word
returns-in-Word g c = c.head_in.ensures ∙ head_word g.H.Worded.word_of g.H.Worded.each c.args.first.now c.in-Word.at c.in-Word.word c.as_bytes.result.now _ c.in-Word.is c.as_bytes.ensures.value refl

pub returns-in-Str : goal.returns-in-Str
returns-in-Str g c = head_string g.H.Worded.word_of g.H.Worded.each c.args.first.now c.in-Str.at c.in-Str.field-1 c.in-Str.is

pub returns-in-List : goal.returns-in-List
returns-in-List g c = head_list g.H.Worded.word_of g.H.Worded.each c.args.first.now c.in-List.at c.in-List.field-1 c.in-List.is
