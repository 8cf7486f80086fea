use Rattle.std.proofs.Common.{arith, subst, sym, ◌∙◌}
use Rattle.std.specs.Str.{IsUtf8}
use Rattle.ff_number.proofs.Canonical.{IsUtf8-nat_text}
use Rattle.ff_status.proofs.putting.put_number.Goals as goal

pub put_both-requires-clause-text : goal.put_both-requires-clause-text
put_both-requires-clause-text g c = subst IsUtf8 (sym (c.as_slice.ensures ∙ c.of-digits.ensures)) (IsUtf8-nat_text c.args.n (omega (arith, c.ranges.n)))
