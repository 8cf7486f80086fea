use Rattle.std.proofs.Common.{subst}
use Rattle.std.specs.Str.{IsUtf8}
use Rattle.ff_text.proofs.Back.{string_back}
use Rattle.ff_text.proofs.printing.quote.Goals as goal

pub returns-clause-again : goal.returns-clause-again
returns-clause-again c = string_back c.args.text.now (subst IsUtf8 c.as_bytes.ensures.value c.as_bytes.ensures.utf8)
