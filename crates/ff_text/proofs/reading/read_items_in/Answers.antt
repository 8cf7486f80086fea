use Rattle.ff_text.proofs.Verdict.{found_items, only_items, first_fault, exact_fault}
use Rattle.ff_text.proofs.Spelled.{items_well}
use Rattle.ff_text.proofs.reading.read_items_in.Goals as goal

pub returns : goal.returns
returns c = record {
  found = found_items c.args.bytes.now c.read_whole.result c.read_whole.ensures;
  well_spelled = items_well c.args.bytes.now c.read_whole.result (found_items c.args.bytes.now c.read_whole.result c.read_whole.ensures);
  only = only_items c.args.bytes.now c.read_whole.result c.read_whole.ensures;
  fault = first_fault c.args.bytes.now c.read_whole.result c.read_whole.ensures;
  exact = exact_fault c.args.bytes.now c.read_whole.result c.read_whole.ensures;
}
