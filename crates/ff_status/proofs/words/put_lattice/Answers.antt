use Rattle.std.proofs.Common.{sym}
use Rattle.ff_status.proofs.words.put_lattice.Goals as goal

pub returns-in-Unknown-clause-done : goal.returns-in-Unknown-clause-done
returns-in-Unknown-clause-done g c = rw (c.in-Unknown.is, sym c.as_bytes-in-Unknown.ensures.value) c.put_quoted-in-Unknown.ensures.done
