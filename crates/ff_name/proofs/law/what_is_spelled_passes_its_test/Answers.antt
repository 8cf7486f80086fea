use Rattle.ff_name.proofs.Reading.{is_name-from, IsName-from, is_domain-from, IsDomain-from, is_request-from, IsRequest-from}
use Rattle.ff_name.proofs.law.what_is_spelled_passes_its_test.Goals as goal

pub returns : goal.returns
returns c = record {
  names = λ bytes. (IsName-from bytes, is_name-from bytes);
  domains = λ bytes. (IsDomain-from bytes, is_domain-from bytes);
  requests = λ bytes. (IsRequest-from bytes, is_request-from bytes);
}
