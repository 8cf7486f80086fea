use Rattle.ff_name.proofs.Reading.{read_url_exactly, read_url_none}
use Rattle.ff_name.proofs.law.an_address_is_read_in_one_way.Goals as goal

pub returns : goal.returns
returns c = record { found = read_url_exactly; none = read_url_none }
