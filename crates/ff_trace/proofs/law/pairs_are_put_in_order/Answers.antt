use Rattle.ff_trace.proofs.Sorting.{permuted_ordered, sorted_ordered, stable_ordered, kept_ordered}
use Rattle.ff_trace.proofs.law.pairs_are_put_in_order.Goals as goal

pub returns : goal.returns
returns c = record { same = permuted_ordered; ordered = sorted_ordered; stable = stable_ordered; kept = kept_ordered }
