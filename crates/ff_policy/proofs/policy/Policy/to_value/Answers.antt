use Rattle.std.proofs.Common.{ℕ, List, ap, ◌∙◌}
use Rattle.serde_json.specs.Data.{number, unsigned, object}
use Rattle.serde_json.specs.View.{members_view}
use Rattle.ff_policy.specs.Assignment.{Key, Assignment}
use Rattle.ff_policy.specs.Printing.{keys_data, data_of}
use Rattle.ff_policy.proofs.Values.{members_made}
use Rattle.ff_policy.proofs.policy.Policy.to_value.Goals as goal

pub returns-clause-value : goal.returns-clause-value
returns-clause-value c =
    let p : Assignment =
    record { order = c.self.inside.lattice; ui = c.self.inside.ui.0; other = c.self.inside.other.0; domains = c.self.inside.domains.items; kinds = c.self.inside.kinds; fuel = c.self.inside.fuel } in
    members_made p c.put-8.new.map _ _ _ _ _ _ _ _ _ _ _ _ _ _ _ _ (ap members_view c.new-members.ensures.empty)
    c.in_ok-below.ensures c.in_ok-put.ensures.ok
    c.in_ok-other.ensures c.in_ok-put-2.ensures.ok
    (c.in_ok-domains.ensures ∙ ap (λ (ks : List Key). object (keys_data c.self.inside.lattice ks)) c.deref.ensures.value) c.in_ok-put-3.ensures.ok
    (c.from-fuel.ensures ∙ ap (λ (n : ℕ). number (unsigned n)) c.from.ensures) c.in_ok-put-4.ensures.ok
    c.in_ok-kinds.ensures c.in_ok-put-5.ensures.ok
    c.in_ok-levels.ensures c.in_ok-put-6.ensures.ok
    c.in_ok-ui.ensures c.in_ok-put-7.ensures.ok
    c.from-2.ensures c.in_ok-put-8.ensures.ok
    ∙ ap data_of c.self.view_is
