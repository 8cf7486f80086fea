use Rattle.std.proofs.Common.{sym, subst}
use Rattle.ff_name.specs.Address.{Spells}
use Rattle.ff_name.proofs.Reading.{read_url_found}
use Rattle.ff_store_operators.proofs.Addresses.{no_address}
use Rattle.ff_store_operators.proofs.words.read_address.Goals as goal

pub returns-in-Ok-clause-value : goal.returns-in-Ok-clause-value
returns-in-Ok-clause-value c =
    sym (read_url_found c.args.text.now c.in-Ok.url (subst (λ t. Spells t c.in-Ok.url) c.as_bytes.ensures.value c.in-Ok.ensures.found))

pub returns-in_default-clause-value : goal.returns-in_default-clause-value
returns-in_default-clause-value c =
    let none = no_address c.as_bytes.result.now c.read.result c.in-Err.fault c.in-Err.is c.in_default.not-NoMemory c.read.ensures.only in
    sym (rw c.as_bytes.ensures.value at none)
