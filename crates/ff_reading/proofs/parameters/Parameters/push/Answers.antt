use Rattle.std.proofs.Common.{true, subst}
use Rattle.std.specs.Ordering.{nat_cmp}
use Rattle.std.specs.Cmp.Lexicographic.{slice_cmp}
use Rattle.std.specs.BTreeSet.{Updates}
use Rattle.ff_reading.proofs.Seen.{seen_more}
use Rattle.ff_reading.proofs.parameters.Parameters.push.Goals as goal

pub invariant_of-self-in-Ok : goal.invariant_of-self-in-Ok
invariant_of-self-in-Ok c =
    seen_more c.self.inside.seen c.insert.new.self c.self.inside.names.items c.push.new.self.items c.args.name c.self.invariant
    (subst (λ name. Updates (slice_cmp nat_cmp) c.self.inside.seen c.insert.new.self name true) c.in_ok-seen.ensures c.in-Ok.ensures.updates) c.in_ok-push.ensures.items
