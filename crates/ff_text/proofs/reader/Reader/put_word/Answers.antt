use Rattle.ff_text.proofs.Ascii.{IsUtf8-word}
use Rattle.ff_text.proofs.reader.Reader.put_word.Goals as goal

pub of_utf8-requires : goal.of_utf8-requires
of_utf8-requires c = IsUtf8-word c.args.word.now c.requires.word
