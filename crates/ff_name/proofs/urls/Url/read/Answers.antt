use Rattle.std.proofs.Common.{◌≡◌, true, inr, subst, sym}
use Rattle.ff_name.specs.Address.{no_scheme, Spells, as_printed}
use Rattle.ff_name.proofs.Addresses.{found_blank, found_at, only_at, fault_at, exact_at}
use Rattle.ff_name.proofs.urls.Url.read.Goals as goal

pub returns-then-is_blank-clause-found : goal.returns-then-is_blank-clause-found
returns-then-is_blank-clause-found c = found_blank c.args.bytes.now (c.is_blank.ensures.0 c.if-is_blank.true)

pub returns-in_default-clause-fault : goal.returns-in_default-clause-fault
returns-in_default-clause-fault c =
    inr (no_scheme (λ e. let blank : c.is_blank.result ≡ true = c.is_blank.ensures.1 e in cc) c.in_default.ensures)

pub returns-clause-found : goal.returns-clause-found
returns-clause-found c =
    found_at c.args.bytes.now c.in-Some.rest.now c.split_at_slash.result.0.now c.split_at_slash.result.1.now
    c.in-Some.ensures c.split_at_slash.ensures c.read_parts.result c.read_parts.ensures.found

pub returns-clause-only : goal.returns-clause-only
returns-clause-only c =
    only_at c.args.bytes.now c.in-Some.rest.now c.split_at_slash.result.0.now c.split_at_slash.result.1.now
    c.in-Some.ensures c.split_at_slash.ensures c.read_parts.result c.read_parts.ensures.found c.read_parts.ensures.fault

pub returns-clause-fault : goal.returns-clause-fault
returns-clause-fault c =
    fault_at c.args.bytes.now c.in-Some.rest.now c.split_at_slash.result.0.now c.split_at_slash.result.1.now
    c.in-Some.ensures c.split_at_slash.ensures c.read_parts.result c.read_parts.ensures.fault

pub returns-clause-exact : goal.returns-clause-exact
returns-clause-exact c =
    exact_at c.args.bytes.now c.in-Some.rest.now c.split_at_slash.result.0.now c.split_at_slash.result.1.now
    c.in-Some.ensures c.split_at_slash.ensures c.read_parts.result c.read_parts.ensures.found c.read_parts.ensures.fault

pub returns-clause-again : goal.returns-clause-again
returns-clause-again c url well e =
    only_at c.args.bytes.now c.in-Some.rest.now c.split_at_slash.result.0.now c.split_at_slash.result.1.now
    c.in-Some.ensures c.split_at_slash.ensures c.read_parts.result c.read_parts.ensures.found c.read_parts.ensures.fault
    url (subst (λ bytes. Spells bytes url) (sym e) (as_printed url well))
