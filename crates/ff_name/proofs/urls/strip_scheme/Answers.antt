use Rattle.std.proofs.lemmas.Slice.Eq.{strip_prefix_is}
use Rattle.std.proofs.lemmas.Bool.Decides.{Decides-eqb}
use Rattle.ff_name.specs.Address.{scheme}
use Rattle.ff_name.proofs.urls.strip_scheme.Goals as goal

pub returns : goal.returns
returns c = strip_prefix_is Decides-eqb c.args.bytes.now scheme c.strip_prefix.result c.strip_prefix.ensures.cases
