use Rattle.std.proofs.Common.{◌≡◌, true, sym, ◌∙◌}
use Rattle.ff_name.specs.Address.{no_domain, wrong_byte, too_long}
use Rattle.ff_name.proofs.urls.check_parts.Goals as goal

pub returns-then-not-is_domain-clause-fault : goal.returns-then-not-is_domain-clause-fault
returns-then-not-is_domain-clause-fault c =
    no_domain (λ d. let found : c.is_domain.result ≡ true = c.is_domain.ensures.1 d in cc)

pub returns-then-not-all_stand_in_request-clause-fault : goal.returns-then-not-all_stand_in_request-clause-fault
returns-then-not-all_stand_in_request-clause-fault c =
    wrong_byte (c.is_domain.ensures.0 c.if-not-is_domain.false)
    (λ h. let found : c.all_stand_in_request.result ≡ true = c.all_stand_in_request.ensures ∙ h in cc)

pub returns-then-request-gt-MOST_REQUEST_BYTES-clause-fault : goal.returns-then-request-gt-MOST_REQUEST_BYTES-clause-fault
returns-then-request-gt-MOST_REQUEST_BYTES-clause-fault c =
    too_long (c.is_domain.ensures.0 c.if-not-is_domain.false)
    (sym c.all_stand_in_request.ensures ∙ c.if-not-all_stand_in_request.false) c.if-request-gt-MOST_REQUEST_BYTES.true
