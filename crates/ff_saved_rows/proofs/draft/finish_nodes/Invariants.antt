use Rattle.std.proofs.Common.{◌≡◌, map}
use Rattle.ff_saved_rows.specs.Drafted.{node_of}
use Rattle.ff_saved_rows.proofs.draft.finish_nodes.Given as goal

abbrev pub invariant-loop-draft : goal.invariant-loop-draft
invariant-loop-draft l = l.recs.items ≡ map node_of l.yielded
