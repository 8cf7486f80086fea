use Rattle.ff_name.proofs.Words.{found_by_word}
use Rattle.ff_name.proofs.worded.by_word.Goals as goal

pub returns-clause-own : goal.returns-clause-own
returns-clause-own g c = λ value. rw (c.find_word.ensures, c.all.ensures) (found_by_word g.T.Worded.word_of g.T.Worded.each g.met.T.Worded.own c.args.word.now value)
