use Rattle.std.proofs.Common.{◌∙◌, sym}
use Rattle.ff_name.proofs.Labels.{IsDomain-from_parts, parts_from_IsDomain}
use Rattle.ff_name.proofs.domains.is_domain.Goals as goal

pub returns-then-bytes-le-MOST_DOMAIN_BYTES : goal.returns-then-bytes-le-MOST_DOMAIN_BYTES
returns-then-bytes-le-MOST_DOMAIN_BYTES c = (
  (λ h. IsDomain-from_parts _ c.if-bytes-le-MOST_DOMAIN_BYTES.true (sym c.has_labels.ensures ∙ h)),
  (λ h. c.has_labels.ensures ∙ parts_from_IsDomain _ h),
)
