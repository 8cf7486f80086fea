use Rattle.ff_text.proofs.Verdict.{found_item, only_item, one_first_fault, one_exact_fault}
use Rattle.ff_text.proofs.Spelled.{item_well}
use Rattle.ff_text.proofs.reading.read.Goals as goal

pub returns : goal.returns
returns c = record {
  found = found_item c.args.bytes.now c.read_single.result c.read_single.ensures;
  well_spelled = item_well c.args.bytes.now c.read_single.result (found_item c.args.bytes.now c.read_single.result c.read_single.ensures);
  only = only_item c.args.bytes.now c.read_single.result c.read_single.ensures;
  fault = one_first_fault c.args.bytes.now c.read_single.result c.read_single.ensures;
  exact = one_exact_fault c.args.bytes.now c.read_single.result c.read_single.ensures;
}
