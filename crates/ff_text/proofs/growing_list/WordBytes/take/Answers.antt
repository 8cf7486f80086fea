use Rattle.std.proofs.Common.{subst, sym}
use Rattle.std.specs.Str.{IsUtf8}
use Rattle.ff_text.proofs.Ascii.{IsUtf8-word}
use Rattle.ff_text.proofs.growing_list.WordBytes.take.Goals as goal

pub of_utf8-requires : goal.of_utf8-requires
of_utf8-requires c = subst IsUtf8 (sym c.deref.ensures.value) (IsUtf8-word _ c.self.invariant)
