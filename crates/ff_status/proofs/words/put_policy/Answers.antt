use Rattle.std.proofs.Common.{sym}
use Rattle.ff_status.proofs.words.put_policy.Goals as goal

pub returns-in-UnknownField-clause-done : goal.returns-in-UnknownField-clause-done
returns-in-UnknownField-clause-done g c = rw (c.in-UnknownField.is, sym c.as_bytes.ensures.value) c.put_quoted.ensures.done

pub returns-in-UnknownLevel-clause-done : goal.returns-in-UnknownLevel-clause-done
returns-in-UnknownLevel-clause-done g c = rw (c.in-UnknownLevel.is, sym c.as_bytes-in-UnknownLevel.ensures.value) c.put_quoted-in-UnknownLevel.ensures.done

pub returns-in-ContentBelowPresence-clause-done : goal.returns-in-ContentBelowPresence-clause-done
returns-in-ContentBelowPresence-clause-done g c = rw (c.in-ContentBelowPresence.is, sym c.as_bytes-in-ContentBelowPresence.ensures.value) c.put_quoted-in-ContentBelowPresence.ensures.done
